-- What a sound sheet is: one field for each clause of document 01, in its order.
use Rattle.std.specs.Prelude.{ℕ, ◌+◌, ◌≤◌, ◌<◌, ◌≡◌, ◌≢◌}
use Rattle.counting.specs.Paths.{Circle}
use Rattle.counting.specs.Orbits.{Reach, Orbits}
use Rattle.clauses.specs.declared.Sheet.{Sheet}
use Rattle.sheet.specs.Darts.{tail, head, darts, vertex, next, walk}

-- n and m are within limits: n bars, 2 to 128, m wires, 2 to 256
pub record Limits (s : Sheet) : Type 0 where
  pub vertices_least : 2 ≤ s.vertices
  pub vertices_most : s.vertices ≤ 128
  pub edges_least : 2 ≤ s.edges
  pub edges_most : s.edges ≤ 256

-- each wire joins two different bars of the sheet
pub record Joins (s : Sheet) (k : ℕ) : Type 0 where
  pub tail_in : tail s k < s.vertices
  pub head_in : head s k < s.vertices
  pub different : tail s k ≢ head s k

-- the next-ends of bar v form one ring of exactly its ends
pub record Ring (s : Sheet) (v : ℕ) : Type 0 where
  pub inside : (d : ℕ) → d < darts s → vertex s d ≡ v → next s d < darts s
  pub stays : (d : ℕ) → d < darts s → vertex s d ≡ v → vertex s (next s d) ≡ v
  pub one : (d e : ℕ) → d < darts s → e < darts s → vertex s d ≡ v → vertex s e ≡ v → Reach (next s) d e

-- unused entries are 0
pub record Unused (s : Sheet) : Type 0 where
  pub tails : (k : ℕ) → s.edges ≤ k → tail s k ≡ 0
  pub heads : (k : ℕ) → s.edges ≤ k → head s k ≡ 0
  pub nexts : (d : ℕ) → darts s ≤ d → next s d ≡ 0

-- a wire leads from bar u to bar v
pub record Leads (s : Sheet) (u v : ℕ) : Type 0 where
  pub edge : ℕ
  pub edge_in : edge < s.edges
  pub from : tail s edge ≡ u
  pub to : head s edge ≡ v

-- bar v has an incoming wire; an outgoing wire
abbrev pub Incoming : Sheet → ℕ → Type 0
Incoming s v = (k : ℕ) × (k < s.edges) × (head s k ≡ v)

abbrev pub Outgoing : Sheet → ℕ → Type 0
Outgoing s v = (k : ℕ) × (k < s.edges) × (tail s k ≡ v)

-- the rule on bars 0 and 1: bar 0 is the only bar with no incoming wire, bar 1 the only one with no outgoing wire
pub record Poles (s : Sheet) : Type 0 where
  pub source : ¬ Incoming s 0
  pub other_sources : (v : ℕ) → v < s.vertices → v ≢ 0 → Incoming s v
  pub sink : ¬ Outgoing s 1
  pub other_sinks : (v : ℕ) → v < s.vertices → v ≢ 1 → Outgoing s v

-- A face is an orbit of the walk. `face` numbers the faces from 0 to f - 1: `face d` is the face of the walk that leaves its bar by end d.
abbrev pub Faces : Sheet → (ℕ → ℕ) → ℕ → Type 0
Faces s face f = Orbits (darts s) (walk s) face f

-- n − m + f = 2, where f is the number of faces
pub record Euler (s : Sheet) : Type 0 where
  pub faces : ℕ
  pub face : ℕ → ℕ
  pub numbered : Faces s face faces
  pub two : s.vertices + faces ≡ s.edges + 2

pub record Sound (s : Sheet) : Type 0 where
  -- n and m are within limits
  pub limits : Limits s
  -- each wire joins two different bars of the sheet
  pub joins : (k : ℕ) → k < s.edges → Joins s k
  -- the next-ends of each bar form one ring of exactly its ends
  pub rings : (v : ℕ) → v < s.vertices → Ring s v
  -- unused entries are 0
  pub unused : Unused s
  -- wire 0 goes from bar 0 to bar 1
  pub root_tail : tail s 0 ≡ 0
  pub root_head : head s 0 ≡ 1
  -- no directed circle exists
  pub acyclic : ¬ Circle (Leads s)
  -- bar 0 is the only bar with no incoming wire, bar 1 the only one with no outgoing wire
  pub poles : Poles s
  -- n − m + f = 2
  pub euler : Euler s
