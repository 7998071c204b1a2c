-- What the functions behind draw compute, over the lists that they read.
use Rattle.std.specs.Prelude.{ℕ, zero, suc, ◌+◌, ◌-◌, ◌*◌, ◌≤◌, ◌<◌, min, max, ◌≢◌, Bool, cond, List, eqb, get_or}
use Rattle.counting.specs.Below.{table}
use Rattle.clauses.specs.declared.Sheet.{Sheet}
use Rattle.drawing.specs.declared.VertexSegment.{VertexSegment}
use Rattle.drawing.specs.declared.EdgeSegment.{EdgeSegment}
use Rattle.drawing.specs.declared.Drawing.{Drawing}
use Rattle.drawing.specs.Draw.{no_vertex_segment, no_edge_segment}

-- the face from which edge k leads, where `side` is 0, or to which, where it is 1: an edge leads from its left face to its right, edge 0 from its right
-- face to its left
unfoldable pub leading_face : ℕ → List ℕ → ℕ → ℕ
leading_face side faces k = cond (eqb k 0) (get_or faces (1 - side) 0) (get_or faces (2 * k + side) 0)

-- the same of m edges
unfoldable pub leading_faces : ℕ → ℕ → List ℕ → List ℕ
leading_faces m side faces = table (leading_face side faces) m 256 0

-- the left and the right face of each of m edges have a column, the right one of edges but edge 0 a column past the first
pub record Beside (m : ℕ) (level faces : List ℕ) : Type 0 where
  pub few : m ≤ 256
  pub left_in : (k : ℕ) → k < m → get_or faces (2 * k) 0 < 256
  pub right_in : (k : ℕ) → k < m → get_or faces (2 * k + 1) 0 < 256
  pub past_first : (k : ℕ) → k < m → k ≢ 0 → 1 ≤ get_or level (get_or faces (2 * k + 1) 0) 0

-- the column of edge k, from the columns of the faces and the faces of the darts
unfoldable pub column_from : List ℕ → List ℕ → ℕ → ℕ
column_from level faces k = get_or level (get_or faces (2 * k) 0) 0

-- how far right it lets its vertices go
unfoldable pub end_from : List ℕ → List ℕ → ℕ → ℕ
end_from level faces k = cond (eqb k 0) (column_from level faces 0) (get_or level (get_or faces (2 * k + 1) 0) 0 - 1)

-- an edge's segment, from the rows of the vertices and the columns of the edges
unfoldable pub edge_from : List ℕ → List ℕ → List ℕ → List ℕ → ℕ → EdgeSegment
edge_from tails heads rows columns k = record { column = get_or columns k 0; low = get_or rows (get_or tails k 0) 0; high = get_or rows (get_or heads k 0) 0 }

-- the best of z and of the values of the numbers below n that pass
unfoldable pub best_below : (ℕ → ℕ → ℕ) → ℕ → (ℕ → Bool) → (ℕ → ℕ) → ℕ → ℕ
best_below better z p f zero = z
best_below better z p f (suc n) = cond (p n) (better (best_below better z p f n) (f n)) (best_below better z p f n)

-- a vertex's segment before its first edge is seen: its first column is past every other
unfoldable pub unreached_from : List ℕ → ℕ → VertexSegment
unreached_from rows v = record { row = get_or rows v 0; first = 65535; last = 0 }

-- a vertex's segment from those of the first k edges that leave it
unfoldable pub vertex_from : List ℕ → List ℕ → List ℕ → List ℕ → ℕ → ℕ → VertexSegment
vertex_from tails rows columns ends k v = record {
  row = get_or rows v 0;
  first = best_below min 65535 (λ j. eqb (get_or tails j 0) v) (λ j. get_or columns j 0) k;
  last = best_below max 0 (λ j. eqb (get_or tails j 0) v) (λ j. get_or ends j 0) k;
}

-- and from all m; vertex 1, which none leaves, goes as far as vertex 0
unfoldable pub segment_from : ℕ → List ℕ → List ℕ → List ℕ → List ℕ → ℕ → VertexSegment
segment_from m tails rows columns ends v =
    let reach = vertex_from tails rows columns ends m (cond (eqb v 1) 0 v) in
    record { row = get_or rows v 0; first = reach.first; last = reach.last }

-- a segment, widened to a column on the left and to one on the right
abbrev pub widened_by : VertexSegment → ℕ → ℕ → VertexSegment
widened_by at column end = record { row = at.row; first = min at.first column; last = max at.last end }

-- the drawing, from the rows of the vertices, the columns of the edges and how far right these let their vertices go
unfoldable pub drawing_from : Sheet → List ℕ → List ℕ → List ℕ → Drawing
drawing_from s rows columns ends = record {
  rows = get_or rows 1 0 + 1;
  columns = get_or columns 0 0 + 1;
  vertices = table (segment_from s.edges s.tails rows columns ends) s.vertices 128 no_vertex_segment;
  edges = table (edge_from s.tails s.heads rows columns) s.edges 256 no_edge_segment;
}
