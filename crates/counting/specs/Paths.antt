-- Directed paths over any relation `Step` on numbers: `Step u v` says that an edge leads from u to v.
use Rattle.std.specs.Prelude.{ℕ, suc, ◌≤◌}

-- a directed path of k edges from a
pub data Path (Step : ℕ → ℕ → Type 0) (a : ℕ) : ℕ → ℕ → Type 0 where
  here : Path Step a a 0
  more : {b v k : ℕ} → Path Step a b k → Step b v → Path Step a v (suc k)

-- a directed circle: a path of one edge or more that ends where it starts
pub record Circle (Step : ℕ → ℕ → Type 0) : Type 0 where
  pub at : ℕ
  pub edges : ℕ
  pub round : Path Step at at (suc edges)

-- k is the most edges on a directed path from a to v
pub record Longest (Step : ℕ → ℕ → Type 0) (a v k : ℕ) : Type 0 where
  pub path : Path Step a v k
  pub most : (j : ℕ) → Path Step a v j → j ≤ k
