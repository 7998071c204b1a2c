-- The frame found segment by segment is the one that holds the least and greatest x and y.
use Rattle.std.specs.Prelude.{◌≡◌, List, ◌∷◌}
use mathlib.Core.List.{Memᴰ}
use Rattle.std.specs.Float.{Float, NotNan, ◌≤ᶠ◌}
use Rattle.segments.specs.declared.Segment.{Segment}
use Rattle.segments.specs.declared.Segment.TheVariants.{Upright, Level}
use Rattle.segments.specs.declared.Frame.{Frame}
use Rattle.segments.specs.Segments.{frame_of}
use Rattle.segments.specs.Framed.{xs_of, ys_of, all_of, Framed}

-- each of its coordinates is a number, and it runs from the lesser end to the greater
abbrev pub Runs : Segment → Type 0
Runs (Upright x low high) = NotNan x × (low ≤ᶠ high)
Runs (Level y left right) = NotNan y × (left ≤ᶠ right)

-- Of one segment or more, all of which run so, the frame found segment by segment is the one.
abbrev pub FrameLaw : Type 0
FrameLaw = (s : Segment) (ss : List Segment) → ((r : Segment) → Memᴰ r (s ∷ ss) → Runs r) → Framed (s ∷ ss) (frame_of (s ∷ ss))

-- It is the only one where of two coordinates, each at most the other, both are one.
abbrev pub OneEach : List Float → Type 0
OneEach xs = (x y : Float) → Memᴰ x xs → Memᴰ y xs → x ≤ᶠ y → y ≤ᶠ x → x ≡ y

abbrev pub OneFrameLaw : Type 0
OneFrameLaw = (ss : List Segment) (f g : Frame) → OneEach (all_of xs_of ss) → OneEach (all_of ys_of ss) → Framed ss f → Framed ss g → f ≡ g
