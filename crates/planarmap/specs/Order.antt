-- The faces from left to right.
use Rattle.std.specs.Prelude.{◌≡◌, ◌≢◌, true, ℕ, ◌<◌}
use Rattle.planarmap.specs.Map.{Map}

-- an edge, by its tail dart
pub record Edge (M : Map) (e : ℕ) : Type 0 where
  pub below : e < M.darts
  pub is_out : M.out e ≡ true

-- a rank of faces rises across every edge but the root, from its left face to its right face
abbrev pub Rises : Map → (ℕ → ℕ) → Type 0
Rises M rank = (e : ℕ) → Edge M e → e ≢ M.root → rank (M.face e) < rank (M.face (M.opposite e))

-- there is such a rank
abbrev pub FaceOrder : Map → Type 0
FaceOrder M = (rank : ℕ → ℕ) × Rises M rank

-- the root's two faces are the ends of that order
pub record Ends (M : Map) : Type 0 where
  -- no edge but the root has the root's right face on its right, or the root's left face on its left
  pub right : {e : ℕ} → Edge M e → M.face (M.opposite e) ≡ M.face (M.opposite M.root) → e ≡ M.root
  pub left : {e : ℕ} → Edge M e → M.face e ≡ M.face M.root → e ≡ M.root
  -- every other face has an edge other than the root on its left, and one on its right
  pub entered : {c : ℕ} → c < M.faces → c ≢ M.face (M.opposite M.root)
      → (e : ℕ) × Edge M e × (e ≢ M.root) × (M.face (M.opposite e) ≡ c)
  pub passed : {c : ℕ} → c < M.faces → c ≢ M.face M.root → (e : ℕ) × Edge M e × (e ≢ M.root) × (M.face e ≡ c)

-- the two faces of an edge differ
abbrev pub SidesDiffer : Map → Type 0
SidesDiffer M = (e : ℕ) → Edge M e → M.face e ≢ M.face (M.opposite e)
