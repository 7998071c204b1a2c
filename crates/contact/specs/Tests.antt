-- Tests of a drawing of n bars and m wires over its whole numbers: its numbers, its wires' ends, and no contact.
use Rattle.std.specs.Prelude.{ℕ, Bool, not, ◌&&◌, eqb, ltb, leb}
use Rattle.counting.specs.Below.{all_below}
use Rattle.clauses.specs.declared.Sheet.{Sheet}
use Rattle.sheet.specs.Darts.{tail, head}
use Rattle.drawing.specs.declared.VertexSegment.{VertexSegment}
use Rattle.drawing.specs.declared.EdgeSegment.{EdgeSegment}
use Rattle.drawing.specs.declared.Drawing.{Drawing}
use Rattle.drawing.specs.Points.{vertex_of, edge_of}

-- ---- 20: the numbers

-- a bar's first column doesn't exceed its last, and its row and columns are below the numbers declared
unfoldable pub vertex_formed : (rows columns : ℕ) → VertexSegment → Bool
vertex_formed rows columns b = leb b.first b.last && ltb b.row rows && ltb b.last columns

-- a tail row is below its head row, and the wire's rows and column are below the numbers declared
unfoldable pub edge_formed : (rows columns : ℕ) → EdgeSegment → Bool
edge_formed rows columns w = ltb w.low w.high && ltb w.high rows && ltb w.column columns

unfoldable pub well_formed : (n m : ℕ) → Drawing → Bool
well_formed n m D =
    all_below (λ v. vertex_formed D.rows D.columns (vertex_of D v)) n && all_below (λ k. edge_formed D.rows D.columns (edge_of D k)) m

-- ---- 21: wire ends and contact

-- a point of the grid is on a bar
unfoldable pub covers : VertexSegment → (column row : ℕ) → Bool
covers b column row = eqb b.row row && leb b.first column && leb column b.last

-- the lower end of a wire is on its tail bar, the upper one on its head bar
unfoldable pub ends_on : (tail_bar head_bar : VertexSegment) → EdgeSegment → Bool
ends_on tail_bar head_bar w = covers tail_bar w.column w.low && covers head_bar w.column w.high

-- two bars share a point
unfoldable pub touching : VertexSegment → VertexSegment → Bool
touching a b = eqb a.row b.row && leb a.first b.last && leb b.first a.last

-- a bar and a wire share a point between the wire's ends
unfoldable pub crossing : VertexSegment → EdgeSegment → Bool
crossing b w = leb b.first w.column && leb w.column b.last && ltb w.low b.row && ltb b.row w.high

-- two wires of one tail stand in one column
unfoldable pub stacked : (tail_bar other_tail : ℕ) → EdgeSegment → EdgeSegment → Bool
stacked tail_bar other_tail w x = eqb tail_bar other_tail && eqb w.column x.column

unfoldable pub all_ends_on : Sheet → Drawing → Bool
all_ends_on s D = all_below (λ k. ends_on (vertex_of D (tail s k)) (vertex_of D (head s k)) (edge_of D k)) s.edges

unfoldable pub vertices_apart : ℕ → Drawing → Bool
vertices_apart n D = all_below (λ w. all_below (λ v. not (touching (vertex_of D v) (vertex_of D w))) w) n

unfoldable pub uncrossed : (n m : ℕ) → Drawing → Bool
uncrossed n m D = all_below (λ v. all_below (λ k. not (crossing (vertex_of D v) (edge_of D k))) m) n

unfoldable pub unstacked : Sheet → Drawing → Bool
unstacked s D = all_below (λ l. all_below (λ k. not (stacked (tail s k) (tail s l) (edge_of D k) (edge_of D l))) l) s.edges

unfoldable pub no_contact : Sheet → Drawing → Bool
no_contact s D = vertices_apart s.vertices D && uncrossed s.vertices s.edges D && unstacked s D

-- every wire end is on its bar, and no forbidden point is shared
unfoldable pub is_clear : Sheet → Drawing → Bool
is_clear s D = all_ends_on s D && no_contact s D
