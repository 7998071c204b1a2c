-- The loop of `frame_of`: a frame widened by what is left of a list of segments. Assumes nothing.
use Rattle.std.proofs.Common.{◌≡◌, ap, List, [], ◌∷◌, length, get_or, take, drop, drop-cons, take_all, drop_of_length-le, add-one, ℕ, suc, ◌+◌, ◌-◌, ◌≤◌, ◌<◌, arith}
use Rattle.segments.specs.declared.Segment.{Segment}
use Rattle.segments.specs.declared.Frame.{Frame}
use Rattle.segments.specs.Segments.{around, widened, widened_by, frame_of}

-- it is widened by the next, and then by those after it
pub widened_one : (f : Frame) (ss : List Segment) (i : ℕ) (z : Segment) → i < length ss → widened_by (widened f (get_or ss i z)) (drop (i + 1) ss) ≡ widened_by f (drop i ss)
unfolding widened_by
widened_one f ss i z h = rw (drop-cons ss i z, add-one)

-- where none is left it stays
pub widened_all : (f : Frame) (ss : List Segment) (i : ℕ) → length ss ≤ i → widened_by f (drop i ss) ≡ f
unfolding widened_by
widened_all f ss i h = rw (drop_of_length-le)

-- the first one's frame, widened by the others, is that of all
pub first_and_others : (ss : List Segment) (z : Segment) → 1 ≤ length ss → widened_by (around (get_or ss 0 z)) (take (length ss - 1) (drop 1 ss)) ≡ frame_of ss
unfolding frame_of
first_and_others [] z h = absurd (omega arith)
first_and_others (s ∷ ss) z h = ap (widened_by (around s)) (take_all (suc (length ss) - 1) ss (omega arith))
