-- Where plate and mask meet, at every point of the plane.
use Rattle.std.specs.Prelude.{ℕ, ◌+◌, ◌*◌, ◌<◌, ◌≡◌, ◌≢◌, ◌⊎◌}
use Rattle.clauses.specs.declared.Sheet.{Sheet}
use Rattle.drawing.specs.declared.Drawing.{Drawing}
use Rattle.drawing.specs.Points.{Point, OnVertex, OnEdge, edge_of}
use Rattle.halves.specs.Halves.{Is, AtMost, AtLeast}
use Rattle.segments.specs.declared.Segment.{Segment}
use Rattle.segments.specs.declared.Segment.TheVariants.{Upright, Level}
use Rattle.insulationmask.specs.declared.Mask.{Mask}
use Rattle.insulationmask.specs.Laid.{segment_of}

-- A segment has every point between its ends, ends included. A point has no column below 0; the mask's points there are on no bar and no wire.
abbrev pub OnSegment : Segment → Point → Type 0
OnSegment (Upright x low high) p = Is x p.x p.d × AtMost low p.y p.d × AtLeast high p.y p.d
OnSegment (Level y left right) p = Is y p.y p.d × AtMost left p.x p.d × AtLeast right p.x p.d

-- The point is inside, at no end: of the wire,
pub record InsideEdge (D : Drawing) (k : ℕ) (p : Point) : Type 0 where
  pub on : OnEdge D k p
  pub not_low : p.y ≢ (edge_of D k).low * p.d
  pub not_high : p.y ≢ (edge_of D k).high * p.d

-- and of the segment
abbrev pub AtEnd : Segment → Point → Type 0
AtEnd (Upright x low high) p = Is low p.y p.d ⊎ Is high p.y p.d
AtEnd (Level y left right) p = Is left p.x p.d ⊎ Is right p.x p.d

pub record InsideSegment (r : Segment) (p : Point) : Type 0 where
  pub on : OnSegment r p
  pub no_end : ¬ AtEnd r p

-- two points are one
pub record SamePoint (p q : Point) : Type 0 where
  pub x : p.x * q.d ≡ q.x * p.d
  pub y : p.y * q.d ≡ q.y * p.d

-- Wire k crosses the segment in exactly one point, inside both.
pub record CrossesOnce (D : Drawing) (k : ℕ) (r : Segment) : Type 0 where
  pub point : Point
  pub inside_edge : InsideEdge D k point
  pub inside_segment : InsideSegment r point
  pub only : (p : Point) → OnEdge D k p → OnSegment r p → SamePoint p point

-- Entry i is wire k's own level segment: the wires from 1 up come last, in their order.
pub record Own (s : Sheet) (M : Mask) (k i : ℕ) : Type 0 where
  pub not_0 : k ≢ 0
  pub place : i + s.edges ≡ M.count + k

pub record Insulated (s : Sheet) (D : Drawing) (M : Mask) : Type 0 where
  -- Each wire but 0 crosses its own level segment in one point,
  pub own : (k i : ℕ) → k < s.edges → Own s M k i → CrossesOnce D k (segment_of M i)
  -- and mask and plate segments meet nowhere else: a wire meets its own level segment alone,
  pub edges : (k i : ℕ) (p : Point) → k < s.edges → i < M.count → OnEdge D k p → OnSegment (segment_of M i) p → Own s M k i
  -- and a bar none.
  pub vertices : (v i : ℕ) (p : Point) → v < s.vertices → i < M.count → OnVertex D v p → OnSegment (segment_of M i) p → ⊥
