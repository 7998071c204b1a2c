-- Points of the plane, and what bars and wires cover. A point is a pair of fractions with a common denominator: (x/d, y/d).
use Rattle.std.specs.Prelude.{ℕ, ◌*◌, ◌≤◌, ◌<◌, ◌≡◌, get_or}
use Rattle.drawing.specs.declared.VertexSegment.{VertexSegment}
use Rattle.drawing.specs.declared.EdgeSegment.{EdgeSegment}
use Rattle.drawing.specs.declared.Drawing.{Drawing}
use Rattle.drawing.specs.Draw.{no_vertex_segment, no_edge_segment}

pub record Point : Type 0 where
  pub x : ℕ
  pub y : ℕ
  pub d : ℕ
  pub whole : 0 < d

abbrev pub vertex_of : Drawing → ℕ → VertexSegment
vertex_of D v = get_or D.vertices v no_vertex_segment

abbrev pub edge_of : Drawing → ℕ → EdgeSegment
edge_of D k = get_or D.edges k no_edge_segment

-- Bars and wires have every point of the plane between their ends, ends included, not the grid's alone.
pub record OnVertex (D : Drawing) (v : ℕ) (p : Point) : Type 0 where
  pub level : p.y ≡ (vertex_of D v).row * p.d
  pub from_first : (vertex_of D v).first * p.d ≤ p.x
  pub to_last : p.x ≤ (vertex_of D v).last * p.d

pub record OnEdge (D : Drawing) (k : ℕ) (p : Point) : Type 0 where
  pub upright : p.x ≡ (edge_of D k).column * p.d
  pub from_low : (edge_of D k).low * p.d ≤ p.y
  pub to_high : p.y ≤ (edge_of D k).high * p.d

-- In the drawing a wire's end at its tail is its lowest point, its end at its head its highest.
pub record TailEnd (D : Drawing) (k : ℕ) (p : Point) : Type 0 where
  pub on : OnEdge D k p
  pub lowest : p.y ≡ (edge_of D k).low * p.d

pub record HeadEnd (D : Drawing) (k : ℕ) (p : Point) : Type 0 where
  pub on : OnEdge D k p
  pub highest : p.y ≡ (edge_of D k).high * p.d
