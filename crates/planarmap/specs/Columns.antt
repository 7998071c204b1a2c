-- Columns: the levels of the faces from left to right.
use Rattle.std.specs.Prelude.{◌≡◌, ◌≢◌, ℕ, ◌≤◌, ◌<◌}
use Rattle.counting.specs.Paths.{Path, Circle, Longest}
use Rattle.planarmap.specs.Map.{Map}
use Rattle.planarmap.specs.Order.{Edge, Rises}

-- each edge but the root leads from its left face to its right face; the root leads from its right face to its left
pub data FaceStep (M : Map) (b c : ℕ) : Type 0 where
  across : {e : ℕ} → Edge M e → e ≢ M.root → M.face e ≡ b → M.face (M.opposite e) ≡ c → FaceStep M b c
  over_root : M.face (M.opposite M.root) ≡ b → M.face M.root ≡ c → FaceStep M b c

-- the column of a face is the most steps on such a path from the right face of the root
abbrev pub Column : Map → (ℕ → ℕ) → Type 0
Column M column = (c : ℕ) → c < M.faces → Longest (FaceStep M) (M.face (M.opposite M.root)) c (column c)

-- such paths make no circle, and lead to every face
pub record FaceGraph (M : Map) : Type 0 where
  pub no_circle : ¬ Circle (FaceStep M)
  pub reached : (c : ℕ) → c < M.faces → (k : ℕ) × Path (FaceStep M) (M.face (M.opposite M.root)) c k

-- columns rise from 0 at the root's right face to the greatest at its left face, and are fewer than the faces
pub record ColumnLaws (M : Map) (column : ℕ → ℕ) : Type 0 where
  pub rises : Rises M column
  pub first : column (M.face (M.opposite M.root)) ≡ 0
  pub last : {c : ℕ} → c < M.faces → column c ≤ column (M.face M.root)
  pub fewer : {c : ℕ} → c < M.faces → column c < M.faces
