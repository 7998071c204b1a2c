-- The text of a drawing, and write drawing.
use Rattle.std.specs.Prelude.{ℕ, List, [], ◌∷◌, ◌++◌, get_or, Result}
use Rattle.counting.specs.Below.{join_below}
use Rattle.text.specs.Bytes.{bytes}
use Rattle.text.specs.Written.{line}
use Rattle.clauses.specs.declared.Sheet.{Sheet}
use Rattle.answers.specs.declared.Refusal.{Refusal}
use Rattle.text.specs.Keys.{wire_key}
use Rattle.writesheet.specs.Write.{write_answer, written, buffer_after}
use Rattle.drawing.specs.declared.VertexSegment.{VertexSegment}
use Rattle.drawing.specs.declared.EdgeSegment.{EdgeSegment}
use Rattle.drawing.specs.declared.Drawing.{Drawing}
use Rattle.drawing.specs.Draw.{drawing_of, no_vertex_segment, no_edge_segment}

abbrev pub rows_key : List ℕ
rows_key = bytes "rows="

abbrev pub columns_key : List ℕ
columns_key = bytes "columns="

abbrev pub bar_key : List ℕ
bar_key = bytes "bar="

-- a line `bar=row,first column,last column`
unfoldable pub vertex_line : VertexSegment → List ℕ
vertex_line v = line bar_key (v.row ∷ v.first ∷ v.last ∷ [])

-- a line `wire=column,tail row,head row`
unfoldable pub edge_line : EdgeSegment → List ℕ
edge_line e = line wire_key (e.column ∷ e.low ∷ e.high ∷ [])

-- the drawing of n bars and m wires: from `rows=` to the last wire line, in number order
unfoldable pub drawing_text : ℕ → ℕ → Drawing → List ℕ
drawing_text n m d =
    line rows_key (d.rows ∷ [])
    ++ line columns_key (d.columns ∷ [])
    ++ join_below (λ v. vertex_line (get_or d.vertices v no_vertex_segment)) n
    ++ join_below (λ k. edge_line (get_or d.edges k no_edge_segment)) m

abbrev pub drawing_text_of : Sheet → List ℕ
drawing_text_of s = drawing_text s.vertices s.edges (drawing_of s)

-- Write drawing takes a sheet; it refuses 9, then 17.
abbrev pub write_drawing : Sheet → List ℕ → Result ℕ Refusal
write_drawing s buffer = written (write_answer s (drawing_text_of s) buffer) (drawing_text_of s)

abbrev pub buffer_after_drawing : Sheet → List ℕ → List ℕ
buffer_after_drawing s buffer = buffer_after (write_answer s (drawing_text_of s) buffer) (drawing_text_of s) buffer
