-- Corners over the arrays of a sheet, and what a call needs to add an edge.
use Rattle.std.specs.Prelude.{ℕ, ◌≤◌, ◌<◌, ◌≡◌, ◌≢◌, true, List, get_or}
use Rattle.clauses.specs.Darts.{opposite, dart_of}
use Rattle.clauses.specs.declared.Sheet.{Sheet}
use Rattle.sheet.specs.Darts.{Sized}
use Rattle.sheet.specs.Sound.{Sound}
use Rattle.sheet.specs.Check.{sound, face_table}
use Rattle.run.specs.declared.Corner.{Corner}

-- the face of the corner after edge k at vertex v
unfoldable pub corner_of : List ℕ → List ℕ → ℕ → ℕ → ℕ
corner_of faces tails k v = get_or faces (opposite (dart_of tails k v)) 0

-- two different vertices of a sound sheet
pub record Pair (s : Sheet) (a b : ℕ) : Type 0 where
  pub sized : Sized s
  pub sound : Sound s
  pub a_in : a < s.vertices
  pub b_in : b < s.vertices
  pub other : a ≢ b

-- the vertices and edges are of the sheet, which is sound, and `faces` has its faces
pub record Named (s : Sheet) (faces : List ℕ) (from to : Corner) : Type 0 where
  pub sized : Sized s
  pub accepted : sound s ≡ true
  pub sound : Sound s
  pub faced : faces ≡ (face_table s).orbit
  pub a_in : from.vertex < s.vertices
  pub b_in : to.vertex < s.vertices
  pub p_in : from.edge < s.edges
  pub q_in : to.edge < s.edges

-- an edge more has room, and the vertices and edges it is to join are in the sheet
pub record Room (s : Sheet) (from to : Corner) : Type 0 where
  pub few : s.vertices ≤ 128
  pub a_in : from.vertex < s.vertices
  pub b_in : to.vertex < s.vertices
  pub p_in : from.edge < s.edges
  pub q_in : to.edge < s.edges
  pub room : s.edges < 256
