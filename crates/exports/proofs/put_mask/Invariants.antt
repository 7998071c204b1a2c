-- The count and the frame are put, and the segments before the next one.
use Rattle.std.proofs.Common.{◌≡◌}
use Rattle.insulationmask.specs.Laid.{no_segment}
use Rattle.exports.specs.Masks.{segment_by_kind}
use Rattle.exports.proofs.Mapped.{Mapped}
use Rattle.exports.proofs.put_mask.Given as goal

abbrev pub invariant-loop-i : goal.invariant-loop-i
invariant-loop-i l = (l.place.count ≡ l.mask.count) × (l.place.frame ≡ l.mask.frame) × Mapped segment_by_kind no_segment l.mask.segments l.i l.place.segments
