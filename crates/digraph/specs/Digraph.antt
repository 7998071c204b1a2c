-- A digraph as a list of edges: edge k < edges leads from `get_or from k 0` to `get_or to k 0`.
use Rattle.std.specs.Prelude.{◌≡◌, Bool, true, false, List, ℕ, ◌≤◌, ◌<◌, get_or, length, replicate}
use Rattle.counting.specs.Paths.{Path, Circle}

-- an edge leads from u to v
pub record Leads (edges : ℕ) (from to : List ℕ) (u v : ℕ) : Type 0 where
  pub edge : ℕ
  pub inside : edge < edges
  pub source : get_or from edge 0 ≡ u
  pub target : get_or to edge 0 ≡ v

-- the counts are within the arrays, and each edge joins two nodes
pub record Within (nodes edges : ℕ) (from to : List ℕ) : Type 0 where
  pub few_nodes : nodes ≤ 256
  pub few_edges : edges ≤ 256
  pub from_in : (k : ℕ) → k < edges → get_or from k 0 < nodes
  pub to_in : (k : ℕ) → k < edges → get_or to k 0 < nodes

-- k is the most edges on a directed path that ends at v, wherever it starts
pub record Deepest (Step : ℕ → ℕ → Type 0) (v k : ℕ) : Type 0 where
  pub start : ℕ
  pub path : Path Step start v k
  pub most : (a j : ℕ) → Path Step a v j → j ≤ k

-- no level
unfoldable pub flat : List ℕ
flat = replicate 256 0

-- whether there is no circle, and the levels, or `flat` where there is one
pub record Layering : Type 0 where
  pub acyclic : Bool
  pub level : List ℕ

-- `level` and `acyclic` are right
pub record Leveled (nodes edges : ℕ) (from to : List ℕ) (acyclic : Bool) (level : List ℕ) : Type 0 where
  pub size : length level ≡ 256
  pub deepest : acyclic ≡ true → (v : ℕ) → v < nodes → Deepest (Leads edges from to) v (get_or level v 0)
  pub rest : (v : ℕ) → nodes ≤ v → get_or level v 0 ≡ 0
  pub circle : acyclic ≡ false → Circle (Leads edges from to) × (level ≡ flat)
