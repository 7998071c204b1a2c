-- A mask as the C interface has it: each segment by the number of its kind and its three coordinates.
use Rattle.std.specs.Prelude.{map}
use Rattle.segments.specs.declared.Segment.{Segment}
use Rattle.segments.specs.declared.Segment.TheVariants.{Upright, Level}
use Rattle.insulationmask.specs.declared.Mask.{Mask}
use Rattle.exports.specs.declared.SegmentByKind.{SegmentByKind}
use Rattle.exports.specs.declared.MaskByKinds.{MaskByKinds}

-- 0 upright, at x from low to high; 1 level, at y from left to right
unfoldable pub segment_by_kind : Segment → SegmentByKind
segment_by_kind (Upright x low high) = record { kind = 0; at = x; from = low; to = high }
segment_by_kind (Level y left right) = record { kind = 1; at = y; from = left; to = right }

unfoldable pub mask_by_kinds : Mask → MaskByKinds
mask_by_kinds M = record { count = M.count; segments = map segment_by_kind M.segments; frame = M.frame }
