-- The frame of segments, found segment by segment.
use Rattle.std.specs.Prelude.{cond, List, [], ◌∷◌}
use Rattle.std.specs.Float.{Float}
use Rattle.std.specs.Float.Ieee.{lt}
use Rattle.segments.specs.declared.Segment.{Segment}
use Rattle.segments.specs.declared.Segment.TheVariants.{Upright, Level}
use Rattle.segments.specs.declared.Frame.{Frame}
use Rattle.segments.specs.Framed.{no_frame}

-- the lesser and the greater of two
unfoldable pub lesser : Float → Float → Float
lesser x y = cond (lt y x) y x

unfoldable pub greater : Float → Float → Float
greater x y = cond (lt x y) y x

-- the frame of one segment
unfoldable pub around : Segment → Frame
around (Upright x low high) = record { least_x = x; greatest_x = x; least_y = low; greatest_y = high }
around (Level y left right) = record { least_x = left; greatest_x = right; least_y = y; greatest_y = y }

-- a frame, widened to hold a segment, and one after the other
unfoldable pub widened : Frame → Segment → Frame
widened f s = record {
  least_x = lesser f.least_x (around s).least_x;
  greatest_x = greater f.greatest_x (around s).greatest_x;
  least_y = lesser f.least_y (around s).least_y;
  greatest_y = greater f.greatest_y (around s).greatest_y;
}

unfoldable pub widened_by : Frame → List Segment → Frame
widened_by f [] = f
widened_by f (s ∷ ss) = widened_by (widened f s) ss

unfoldable pub frame_of : List Segment → Frame
frame_of [] = no_frame
frame_of (s ∷ ss) = widened_by (around s) ss
