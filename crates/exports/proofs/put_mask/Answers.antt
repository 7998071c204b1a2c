-- `exports::put_mask` meets its contract. Assumes nothing.
use Rattle.std.proofs.Common.{rules, ◌≡◌, refl, arith, length}
use Rattle.insulationmask.specs.Laid.{no_segment}
use Rattle.exports.specs.Masks.{segment_by_kind, mask_by_kinds}
use Rattle.exports.proofs.Mapped.{mapped_none, mapped_more, mapped_all}
use Rattle.exports.proofs.put_mask.Goals as goal

pub loop-i-init : goal.loop-i-init
loop-i-init c =
    let full : length c.args.mask.segments ≡ 511 = search rules in
    let room : length c.args.place.now.segments ≡ 511 = search rules in
    (refl, refl, mapped_none segment_by_kind no_segment c.args.mask.segments c.args.place.now.segments (omega (arith, full, room)))

pub loop-i-preserved : goal.loop-i-preserved
loop-i-preserved c =
    let full : length c.args.mask.segments ≡ 511 = search rules in
    let (count, frame, before) = c.loop-i.invariant in
    (count, frame, mapped_more segment_by_kind no_segment c.args.mask.segments c.loop-i.i c.loop-i.place.segments (omega (arith, full, c.loop-i-test.true)) before c.segment_by_kind.result _ c.segment_by_kind.ensures)

pub returns : goal.returns
unfolding mask_by_kinds
returns c =
    let full : length c.args.mask.segments ≡ 511 = search rules in
    let (count, frame, before) = c.loop-i.invariant in
    let segments = mapped_all segment_by_kind no_segment c.args.mask.segments c.loop-i.i c.loop-i.place.segments (omega (arith, full, c.loop-i-test.false)) before in
    λ i. record { count = count i; segments = segments i; frame = frame i }
