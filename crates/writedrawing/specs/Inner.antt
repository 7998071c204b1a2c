-- The parts of a drawing's text.
use Rattle.std.specs.Prelude.{ℕ, List, [], ◌∷◌, ◌++◌, get_or, length}
use Rattle.counting.specs.Below.{join_below}
use Rattle.text.specs.Written.{line}
use Rattle.drawing.specs.declared.VertexSegment.{VertexSegment}
use Rattle.drawing.specs.declared.EdgeSegment.{EdgeSegment}
use Rattle.drawing.specs.Draw.{no_vertex_segment, no_edge_segment}
use Rattle.drawing.specs.Write.{rows_key, columns_key, vertex_line, edge_line}

-- the line `bar=` of vertex v
abbrev pub vertex_text : List VertexSegment → ℕ → List ℕ
vertex_text vertices v = vertex_line (get_or vertices v no_vertex_segment)

abbrev pub vertices_text : List VertexSegment → List ℕ
vertices_text vertices = join_below (vertex_text vertices) (length vertices)

-- the line `wire=` of edge k
abbrev pub edge_text : List EdgeSegment → ℕ → List ℕ
edge_text edges k = edge_line (get_or edges k no_edge_segment)

abbrev pub edges_text : List EdgeSegment → List ℕ
edges_text edges = join_below (edge_text edges) (length edges)

abbrev pub segments_text : ℕ → ℕ → List VertexSegment → List EdgeSegment → List ℕ
segments_text rows columns vertices edges = line rows_key (rows ∷ []) ++ line columns_key (columns ∷ []) ++ vertices_text vertices ++ edges_text edges
