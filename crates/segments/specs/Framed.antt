-- The least and greatest x and y of segments.
use Rattle.std.specs.Prelude.{List, [], ◌∷◌, ◌++◌}
use mathlib.Core.List.{Memᴰ}
use Rattle.std.specs.Float.{Float, ◌≤ᶠ◌, float_zero}
use Rattle.segments.specs.declared.Segment.{Segment}
use Rattle.segments.specs.declared.Segment.TheVariants.{Upright, Level}
use Rattle.segments.specs.declared.Frame.{Frame}

-- four zeros
abbrev pub no_frame : Frame
no_frame = record { least_x = float_zero; greatest_x = float_zero; least_y = float_zero; greatest_y = float_zero }

-- the x and the y of a segment's ends
abbrev pub xs_of : Segment → List Float
xs_of (Upright x low high) = x ∷ []
xs_of (Level y left right) = left ∷ right ∷ []

abbrev pub ys_of : Segment → List Float
ys_of (Upright x low high) = low ∷ high ∷ []
ys_of (Level y left right) = y ∷ []

-- those of all of them
unfoldable pub all_of : (Segment → List Float) → List Segment → List Float
all_of of [] = []
all_of of (s ∷ ss) = of s ++ all_of of ss

-- x is the least, or the greatest, of the numbers, and one of them
pub record Least (xs : List Float) (x : Float) : Type 0 where
  pub is_one : Memᴰ x xs
  pub least : (y : Float) → Memᴰ y xs → x ≤ᶠ y

pub record Greatest (xs : List Float) (x : Float) : Type 0 where
  pub is_one : Memᴰ x xs
  pub greatest : (y : Float) → Memᴰ y xs → y ≤ᶠ x

-- The frame holds the least and greatest x and y of all segments.
pub record Framed (ss : List Segment) (frame : Frame) : Type 0 where
  pub least_x : Least (all_of xs_of ss) frame.least_x
  pub greatest_x : Greatest (all_of xs_of ss) frame.greatest_x
  pub least_y : Least (all_of ys_of ss) frame.least_y
  pub greatest_y : Greatest (all_of ys_of ss) frame.greatest_y
