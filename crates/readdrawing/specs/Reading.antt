-- A drawing of n bars and m wires, read from a text: `rows=`, `columns=`, n lines `bar=`, m lines `wire=`, each ended by byte 10, and nothing after them.
use Rattle.std.specs.Prelude.{ℕ, zero, suc, ◌+◌, List, eqb, length, set, replicate, Option, Some, None}
use Rattle.std.specs.Option.{option_and_then}
use Rattle.counting.specs.Choice.{pick}
use Rattle.text.specs.Keys.{wire_key}
use Rattle.text.specs.Shapes.{with_one, with_three}
use Rattle.drawing.specs.declared.VertexSegment.{VertexSegment}
use Rattle.drawing.specs.declared.EdgeSegment.{EdgeSegment}
use Rattle.drawing.specs.declared.Drawing.{Drawing}
use Rattle.drawing.specs.Draw.{no_vertex_segment, no_edge_segment}
use Rattle.drawing.specs.Write.{rows_key, columns_key, bar_key}
use Rattle.readdrawing.specs.Lines.{plain_line_at}

-- `bar=row,first column,last column`
abbrev pub vertex_entry : ℕ → ℕ → ℕ → VertexSegment
vertex_entry a b c = record { row = a; first = b; last = c }

-- `wire=column,tail row,head row`
abbrev pub edge_entry : ℕ → ℕ → ℕ → EdgeSegment
edge_entry a b c = record { column = a; low = b; high = c }

-- r lines of three numbers, from entry k of the array and a place on: the array with their entries, and the place after them
unfoldable pub entries_from : {A : Type 0} → List ℕ → (ℕ → ℕ → ℕ → A) → ℕ → List ℕ → List A → (k at : ℕ) → Option (List A × ℕ)
entries_from key entry zero text es k at = Some (es, at)
entries_from key entry (suc r) text es k at =
    with_three (plain_line_at key text at) None (λ a b c next. entries_from key entry r text (set es k (entry a b c)) (k + 1) next)

-- what follows entries that are read
abbrev pub with_entries : {A B : Type 0} → Option (List A × ℕ) → (List A → ℕ → Option B) → Option B
with_entries read good = option_and_then (λ r. good r.0 r.1) read

-- the record, where nothing follows
unfoldable pub whole : List ℕ → (rows columns : ℕ) → List VertexSegment → List EdgeSegment → ℕ → Option Drawing
whole text rows columns vs es at =
    pick (eqb at (length text)) (λ _. Some (record { rows = rows; columns = columns; vertices = vs; edges = es })) (λ _. None)

-- the lines of the bars, and those of the wires
unfoldable pub segments_at : List ℕ → (n m rows columns at : ℕ) → Option Drawing
segments_at text n m rows columns at =
    with_entries (entries_from bar_key vertex_entry n text (replicate 128 no_vertex_segment) 0 at) (λ vs next.
    with_entries (entries_from wire_key edge_entry m text (replicate 256 no_edge_segment) 0 next) (whole text rows columns vs))

-- the record that the text shows, or none
unfoldable pub drawing_of_text : List ℕ → (n m : ℕ) → Option Drawing
drawing_of_text text n m =
    with_one (plain_line_at rows_key text 0) None (λ rows next.
    with_one (plain_line_at columns_key text next) None (λ columns after.
    segments_at text n m rows columns after))
