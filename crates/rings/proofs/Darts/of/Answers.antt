-- `Darts::of` meets its contract, which is its loop's invariant at the last dart. Assumes nothing.
use Rattle.std.proofs.Common.{◌≡◌, refl, arith, eqb, get_or, length-take}
use Rattle.counting.proofs.Counts.{count_le}
use Rattle.digraph.proofs.Tests.{entry_of}
use Rattle.rings.proofs.Rings.{at_small, held_none, held_more, degrees_none, degrees_more}
use Rattle.rings.proofs.Darts.of.Goals as goal

pub loop-d-init : goal.loop-d-init
loop-d-init c = (degrees_none _, held_none _)

pub overflow_add-degree : goal.overflow_add-degree
overflow_add-degree c =
    let (in_d, ev) = entry_of c.args.count c.args.at.now c.loop-d-test.true c.from-v.ensures in
    omega (
      arith,
      c.loop-d.invariant.0.counts c.from-v.result (at_small c.requires in_d ev),
      count_le (λ d. eqb (get_or c.args.at.now d 0) c.from-v.result) c.loop-d.d,
      in_d,
      c.requires.few,
    )

pub loop-d-preserved : goal.loop-d-preserved
loop-d-preserved c =
    let (in_d, ev) = entry_of c.args.count c.args.at.now c.loop-d-test.true c.from-v.ensures in
    let in_v = at_small c.requires in_d ev in
    (degrees_more c.loop-d.invariant.0 _ ev in_v, held_more c.loop-d.invariant.1 _ ev in_v)

pub returns : goal.returns
returns c =
    let e : c.loop-d.d ≡ c.args.count = omega (arith, length-take c.args.count c.args.at.now, c.requires.few) in
    (refl, refl, refl, rw e at c.loop-d.invariant.0, rw e at c.loop-d.invariant.1)
