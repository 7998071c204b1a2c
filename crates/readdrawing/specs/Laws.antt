-- Exactly the texts that write drawing's layout gives are read.
use Rattle.std.specs.Prelude.{ℕ, ◌≤◌, ◌<◌, ◌≡◌, ◌↔◌, List, length, Some}
use Rattle.drawing.specs.declared.Drawing.{Drawing}
use Rattle.drawing.specs.Draw.{no_vertex_segment, no_edge_segment}
use Rattle.drawing.specs.Points.{vertex_of, edge_of}
use Rattle.drawing.specs.Write.{drawing_text}
use Rattle.readdrawing.specs.Reading.{drawing_of_text}

-- the numbers of bar v have at most three digits
pub record SmallVertex (D : Drawing) (v : ℕ) : Type 0 where
  pub row : (vertex_of D v).row < 1000
  pub first : (vertex_of D v).first < 1000
  pub last : (vertex_of D v).last < 1000

-- the numbers of wire k have at most three digits
pub record SmallEdge (D : Drawing) (k : ℕ) : Type 0 where
  pub column : (edge_of D k).column < 1000
  pub low : (edge_of D k).low < 1000
  pub high : (edge_of D k).high < 1000

-- a drawing record of n bars and m wires that can be written: numbers of at most three digits, unused entries 0
pub record Writable (n m : ℕ) (D : Drawing) : Type 0 where
  pub vertex_entries : length D.vertices ≡ 128
  pub edge_entries : length D.edges ≡ 256
  pub rows : D.rows < 1000
  pub columns : D.columns < 1000
  pub vertices : (v : ℕ) → v < n → SmallVertex D v
  pub edges : (k : ℕ) → k < m → SmallEdge D k
  pub unused_vertices : (v : ℕ) → n ≤ v → vertex_of D v ≡ no_vertex_segment
  pub unused_edges : (k : ℕ) → m ≤ k → edge_of D k ≡ no_edge_segment

-- the text has the line layout and line counts of n bars and m wires, and shows the drawing D
pub record Shows (n m : ℕ) (text : List ℕ) (D : Drawing) : Type 0 where
  pub written : text ≡ drawing_text n m D
  pub writable : Writable n m D

abbrev pub ReadDrawingLaw : Type 0
ReadDrawingLaw = (text : List ℕ) (n m : ℕ) → n ≤ 128 → m ≤ 256 → (D : Drawing) → drawing_of_text text n m ≡ Some D ↔ Shows n m text D
