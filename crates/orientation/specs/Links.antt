-- Links: connections without directions. In a sheet of links, link k joins the bars `tail s k` and `head s k`, and which of them is the tail is yet to be chosen.
use Rattle.std.specs.Prelude.{ℕ, ◌<◌, ◌≡◌}
use Rattle.counting.specs.Paths.{Circle}
use Rattle.clauses.specs.declared.Sheet.{Sheet}
use Rattle.sheet.specs.Darts.{tail, head}
use Rattle.sheet.specs.Sound.{Leads, Poles}

-- wire k of t is link k of s with a direction: as it stands, or turned round
pub data Directs (s t : Sheet) (k : ℕ) : Type 0 where
  kept : tail t k ≡ tail s k → head t k ≡ head s k → Directs s t k
  reversed : tail t k ≡ head s k → head t k ≡ tail s k → Directs s t k

-- t is a choice of directions for the links of s: it has as many bars and wires, each wire is its link, and wire 0 is link 0 as it stands
pub record Choice (s t : Sheet) : Type 0 where
  pub vertices : t.vertices ≡ s.vertices
  pub edges : t.edges ≡ s.edges
  pub directs : (k : ℕ) → k < s.edges → Directs s t k
  pub root_tail : tail t 0 ≡ tail s 0
  pub root_head : head t 0 ≡ head s 0

-- wire 0 goes from bar 0 to bar 1, and the rules on circles and on bars 0 and 1 hold: the orientation is bipolar
pub record Bipolar (t : Sheet) : Type 0 where
  -- wire 0 goes from bar 0 to bar 1
  pub root_tail : tail t 0 ≡ 0
  pub root_head : head t 0 ≡ 1
  -- no directed circle exists
  pub acyclic : ¬ Circle (Leads t)
  -- bar 0 is the only bar with no incoming wire, bar 1 the only one with no outgoing wire
  pub poles : Poles t

-- some choice of directions makes the rules on circles and on bars 0 and 1 hold: it is bipolar
pub record Orientable (s : Sheet) : Type 0 where
  pub sheet : Sheet
  pub choice : Choice s sheet
  pub bipolar : Bipolar sheet
