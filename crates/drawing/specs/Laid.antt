-- The drawing as 'Rows, columns and the drawing' lays it down, and C-12 the last column of a bar, with no definition that computes; what follows of
-- the bars; and the law to the definition that computes.
use Rattle.std.specs.Prelude.{ℕ, ◌+◌, ◌≤◌, ◌<◌, ◌≡◌, ◌≢◌, ◌⊎◌, ◌↔◌, length}
use Rattle.clauses.specs.declared.Sheet.{Sheet}
use Rattle.sheet.specs.Darts.{tail, head}
use Rattle.sheet.specs.Sound.{Sound, Faces}
use Rattle.sheet.specs.Levels.{Row, Column, left_face, right_face}
use Rattle.drawing.specs.declared.Drawing.{Drawing}
use Rattle.drawing.specs.Draw.{no_vertex_segment, no_edge_segment, drawing_of}
use Rattle.drawing.specs.Points.{vertex_of, edge_of}

-- wire k is one of the wires of bar v: its tail or its head is the bar
abbrev pub EdgeAt : Sheet → ℕ → ℕ → Type 0
EdgeAt s v k = (k < s.edges) × ((tail s k ≡ v) ⊎ (head s k ≡ v))

-- c is the least column of the wires of bar v
pub record LeastColumn (s : Sheet) (D : Drawing) (v c : ℕ) : Type 0 where
  pub edge : ℕ
  pub edge_at : EdgeAt s v edge
  pub stands : (edge_of D edge).column ≡ c
  pub least : (k : ℕ) → EdgeAt s v k → c ≤ (edge_of D k).column

-- c is the greatest column of the wires of bar v
pub record GreatestColumn (s : Sheet) (D : Drawing) (v c : ℕ) : Type 0 where
  pub edge : ℕ
  pub edge_at : EdgeAt s v edge
  pub stands : (edge_of D edge).column ≡ c
  pub greatest : (k : ℕ) → EdgeAt s v k → (edge_of D k).column ≤ c

-- Upward are the wires whose tail the bar is, downward those whose head it is. Wire k is the rightmost of the upward wires of bar v, where `end` is
-- `tail`, or of its downward wires, where `end` is `head`.
pub record Rightmost (s : Sheet) (D : Drawing) (end : Sheet → ℕ → ℕ) (v k : ℕ) : Type 0 where
  pub inside : k < s.edges
  pub at_bar : end s k ≡ v
  pub greatest : (j : ℕ) → j < s.edges → end s j ≡ v → (edge_of D j).column ≤ (edge_of D k).column

-- c is the face to the right of the rightmost wires of bar v: the right face of its rightmost upward wire and of its rightmost downward wire
pub record FaceToRight (s : Sheet) (D : Drawing) (face : ℕ → ℕ) (v c : ℕ) : Type 0 where
  pub upward : ℕ
  pub upward_rightmost : Rightmost s D tail v upward
  pub right_of_upward : right_face face upward ≡ c
  pub downward : ℕ
  pub downward_rightmost : Rightmost s D head v downward
  pub right_of_downward : right_face face downward ≡ c

pub record Laid (s : Sheet) (D : Drawing) : Type 0 where
  -- Row of a bar: the most wires on a directed path from bar 0 to it.
  pub row : (v : ℕ) → v < s.vertices → Row s v (vertex_of D v).row
  -- A wire stands in the column of its left face, however the faces are numbered,
  pub column : (face : ℕ → ℕ) (f : ℕ) → Faces s face f → (k : ℕ) → k < s.edges → Column s face (left_face face k) (edge_of D k).column
  -- from its tail's row to its head's row.
  pub low : (k : ℕ) → k < s.edges → (edge_of D k).low ≡ (vertex_of D (tail s k)).row
  pub high : (k : ℕ) → k < s.edges → (edge_of D k).high ≡ (vertex_of D (head s k)).row
  -- A bar lies in its row, from the least column of its wires
  pub first : (v : ℕ) → v < s.vertices → LeastColumn s D v (vertex_of D v).first
  -- to the column of the face to the right of its rightmost wires, less 1, for every bar but 0 and 1;
  pub last : (face : ℕ → ℕ) (f : ℕ) → Faces s face f → (v : ℕ) → v < s.vertices → v ≢ 0 → v ≢ 1
      → (c : ℕ) × FaceToRight s D face v c × Column s face c ((vertex_of D v).last + 1)
  -- bars 0 and 1 to the greatest column of their wires.
  pub last_0 : GreatestColumn s D 0 (vertex_of D 0).last
  pub last_1 : GreatestColumn s D 1 (vertex_of D 1).last
  -- Rows are the row of bar 1 plus 1; columns are the column of the left face of wire 0 plus 1.
  pub rows : D.rows ≡ (vertex_of D 1).row + 1
  pub columns : D.columns ≡ (edge_of D 0).column + 1
  -- an entry for each of 128 bars and 256 wires; unused entries 0
  pub vertex_entries : length D.vertices ≡ 128
  pub edge_entries : length D.edges ≡ 256
  pub unused_vertices : (v : ℕ) → s.vertices ≤ v → vertex_of D v ≡ no_vertex_segment
  pub unused_edges : (k : ℕ) → s.edges ≤ k → edge_of D k ≡ no_edge_segment

-- Those two are one face, however the faces are numbered.
abbrev pub OneFaceLaw : Type 0
OneFaceLaw = (s : Sheet) → Sound s → (face : ℕ → ℕ) (f : ℕ) → Faces s face f → (v k l : ℕ)
    → Rightmost s (drawing_of s) tail v k → Rightmost s (drawing_of s) head v l → right_face face k ≡ right_face face l

-- wire k is the right neighbour of bar v: one column further the bar would be on it
pub record Neighbour (s : Sheet) (D : Drawing) (v k : ℕ) : Type 0 where
  pub inside : k < s.edges
  pub next_column : (edge_of D k).column ≡ (vertex_of D v).last + 1
  pub low : (edge_of D k).low ≤ (vertex_of D v).row
  pub high : (vertex_of D v).row ≤ (edge_of D k).high

-- A bar is drawn up to its right neighbour, for every bar but 0 and 1.
abbrev pub NeighbourLaw : Type 0
NeighbourLaw = (s : Sheet) → Sound s → (v : ℕ) → v < s.vertices → v ≢ 0 → v ≢ 1 → (k : ℕ) × Neighbour s (drawing_of s) v k

-- Of a sound sheet what is laid down leaves no choice.
abbrev pub LaidLaw : Type 0
LaidLaw = (s : Sheet) → Sound s → (D : Drawing) → Laid s D ↔ D ≡ drawing_of s
