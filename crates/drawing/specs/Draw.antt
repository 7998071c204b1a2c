-- The drawing of a sheet, and draw.
use Rattle.std.specs.Prelude.{ℕ, ◌+◌, ◌-◌, min, max, not, cond, List, [], ◌∷◌, ◌++◌, map, ltb, replicate, Result, Ok, Err}
use Rattle.counting.specs.Below.{list_below, tabulate}
use Rattle.clauses.specs.declared.Sheet.{Sheet}
use Rattle.answers.specs.Answers.{Answer}
use Rattle.answers.specs.declared.Refusal.{Refusal}
use Rattle.answers.specs.declared.Refusal.TheVariants.{NotSound}
use Rattle.answers.specs.Refusals.{first, ◌if◌, answering}
use Rattle.clauses.specs.Darts.{tail_dart, head_dart}
use Rattle.sheet.specs.Darts.{tail, head, touches}
use Rattle.sheet.specs.Check.{sound, row, face, column}
use Rattle.drawing.specs.declared.VertexSegment.{VertexSegment}
use Rattle.drawing.specs.declared.EdgeSegment.{EdgeSegment}
use Rattle.drawing.specs.declared.Drawing.{Drawing}

-- A wire stands in the column of its left face.
unfoldable pub edge_column : Sheet → ℕ → ℕ
edge_column s k = column s (face s (tail_dart k))

-- the column of the face to the right of a wire
unfoldable pub right_column : Sheet → ℕ → ℕ
right_column s k = column s (face s (head_dart k))

-- the columns of a bar's wires, or of the faces to their right
unfoldable pub columns_at : (ℕ → ℕ) → Sheet → ℕ → List ℕ
columns_at column_of s v = map column_of (list_below (λ k. touches s k v) s.edges)

-- the least and the greatest of a list
unfoldable pub least : List ℕ → ℕ
least [] = 0
least (x ∷ []) = x
least (x ∷ y ∷ ys) = min x (least (y ∷ ys))

unfoldable pub greatest : List ℕ → ℕ
greatest [] = 0
greatest (x ∷ xs) = max x (greatest xs)

-- A bar lies in its row, from the least column of its wires
unfoldable pub first_column : Sheet → ℕ → ℕ
first_column s v = least (columns_at (edge_column s) s v)

-- to the column of the face to the right of its rightmost wires, less 1: of the faces to the right of its wires that one is in the greatest column.
-- Bars 0 and 1 go to the greatest column of their wires.
unfoldable pub last_column : Sheet → ℕ → ℕ
last_column s v = cond (ltb v 2) (greatest (columns_at (edge_column s) s v)) (greatest (columns_at (right_column s) s v) - 1)

unfoldable pub vertex_segment : Sheet → ℕ → VertexSegment
vertex_segment s v = record { row = row s v; first = first_column s v; last = last_column s v }

-- A wire stands from its tail's row to its head's row.
unfoldable pub edge_segment : Sheet → ℕ → EdgeSegment
edge_segment s k = record { column = edge_column s k; low = row s (tail s k); high = row s (head s k) }

abbrev pub no_vertex_segment : VertexSegment
no_vertex_segment = record { row = 0; first = 0; last = 0 }

abbrev pub no_edge_segment : EdgeSegment
no_edge_segment = record { column = 0; low = 0; high = 0 }

-- Rows are the row of bar 1 plus 1; columns are the column of the left face of wire 0 plus 1. Unused entries are 0.
unfoldable pub drawing_of : Sheet → Drawing
drawing_of s = record {
  rows = row s 1 + 1;
  columns = edge_column s 0 + 1;
  vertices = tabulate (vertex_segment s) s.vertices ++ replicate (128 - s.vertices) no_vertex_segment;
  edges = tabulate (edge_segment s) s.edges ++ replicate (256 - s.edges) no_edge_segment;
}

unfoldable pub zero_drawing : Drawing
zero_drawing = record { rows = 0; columns = 0; vertices = replicate 128 no_vertex_segment; edges = replicate 256 no_edge_segment }

-- Draw: only 9, and then a record of zeros.
unfoldable pub draw_answer : Sheet → Answer
draw_answer s = first (NotSound if not (sound s) ∷ [])

abbrev pub draw_call : Sheet → Result Drawing Refusal
draw_call s = answering (draw_answer s) (λ _. drawing_of s)

unfoldable pub returned : Result Drawing Refusal → Drawing
returned (Ok d) = d
returned (Err r) = zero_drawing
