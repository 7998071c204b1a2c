-- What is asked of the numbers of a drawing, and the laws of the tests.
use Rattle.std.specs.Prelude.{ℕ, ◌≤◌, ◌<◌, ◌≡◌, ◌↔◌, true}
use Rattle.clauses.specs.declared.Sheet.{Sheet}
use Rattle.sheet.specs.Sound.{Sound}
use Rattle.drawing.specs.declared.Drawing.{Drawing}
use Rattle.drawing.specs.Clear.{Clear}
use Rattle.drawing.specs.Points.{vertex_of, edge_of}
use Rattle.contact.specs.Tests.{well_formed, is_clear}

-- bar v: its first column doesn't exceed its last, and its row and columns are below the numbers declared
pub record VertexFormed (D : Drawing) (v : ℕ) : Type 0 where
  pub rightward : (vertex_of D v).first ≤ (vertex_of D v).last
  pub row : (vertex_of D v).row < D.rows
  pub first : (vertex_of D v).first < D.columns
  pub last : (vertex_of D v).last < D.columns

-- wire k: its tail row is below its head row, and both and its column are below the numbers declared
pub record EdgeFormed (D : Drawing) (k : ℕ) : Type 0 where
  pub upward : (edge_of D k).low < (edge_of D k).high
  pub low : (edge_of D k).low < D.rows
  pub high : (edge_of D k).high < D.rows
  pub column : (edge_of D k).column < D.columns

-- so with each of n bars and m wires
pub record WellFormed (n m : ℕ) (D : Drawing) : Type 0 where
  pub vertices : (v : ℕ) → v < n → VertexFormed D v
  pub edges : (k : ℕ) → k < m → EdgeFormed D k

abbrev pub WellFormedLaw : Type 0
WellFormedLaw = (n m : ℕ) (D : Drawing) → well_formed n m D ≡ true ↔ WellFormed n m D

-- The tests over whole numbers say that nothing touches that may not, at every point of the plane.
abbrev pub ClearLaw : Type 0
ClearLaw = (s : Sheet) (D : Drawing) → Sound s → WellFormed s.vertices s.edges D → is_clear s D ≡ true ↔ Clear s D
