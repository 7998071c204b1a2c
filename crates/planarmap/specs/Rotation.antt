-- The clockwise order round a vertex: edges that leave it by rising column, then edges that enter it by falling column.
use Rattle.std.specs.Prelude.{◌≡◌, ◌≢◌, ◌⊎◌, true, false, ℕ, ◌<◌}
use Rattle.planarmap.specs.Map.{Map}
use Rattle.planarmap.specs.Contact.{edge_column}

-- of two darts at one vertex, d stands before e in that order
pub data Before (M : Map) (column : ℕ → ℕ) (d e : ℕ) : Type 0 where
  rising : M.out d ≡ true → M.out e ≡ true → edge_column M column d < edge_column M column e → Before M column d e
  turning : M.out d ≡ true → M.out e ≡ false → Before M column d e
  falling : M.out d ≡ false → M.out e ≡ false → edge_column M column e < edge_column M column d → Before M column d e

-- the next dart stands directly after d, or d is the last at its vertex and the next dart the first
pub data Follows (M : Map) (column : ℕ → ℕ) (d : ℕ) : Type 0 where
  directly : Before M column d (M.next d)
      → ((e : ℕ) → e < M.darts → M.vertex e ≡ M.vertex d → e ≢ M.next d → Before M column d e → Before M column (M.next d) e) → Follows M column d
  round : ((e : ℕ) → e < M.darts → M.vertex e ≡ M.vertex d → e ≢ d → Before M column e d)
      → ((e : ℕ) → e < M.darts → M.vertex e ≡ M.vertex d → e ≢ M.next d → Before M column (M.next d) e) → Follows M column d

-- the rotation is that order, wherever one starts
pub record Clockwise (M : Map) (column : ℕ → ℕ) : Type 0 where
  pub ordered : {d e : ℕ} → d < M.darts → e < M.darts → M.vertex d ≡ M.vertex e → d ≢ e → Before M column d e ⊎ Before M column e d
  pub follows : {d : ℕ} → d < M.darts → Follows M column d
