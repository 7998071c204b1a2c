-- `Darts::settle` meets its contract, which is its loop's invariant at the queue's end. Assumes nothing.
use Rattle.std.proofs.Common.{◌≡◌, arith}
use Rattle.rings.proofs.Walking.{head_small, still_underway, none_yet, one_more}
use Rattle.rings.proofs.Darts.settle.Goals as goal

pub loop-head-init : goal.loop-head-init
loop-head-init c = (none_yet, omega arith)

pub pass-requires : goal.pass-requires
pass-requires c = (c.loop-head-test.true, still_underway c.requires c.loop-head.invariant.0)

pub overflow_add-head : goal.overflow_add-head
overflow_add-head c = omega (arith, head_small (still_underway c.requires c.loop-head.invariant.0) c.loop-head-test.true)

pub loop-head-smaller : goal.loop-head-smaller
loop-head-smaller c = omega (arith, head_small (still_underway c.requires c.loop-head.invariant.0) c.loop-head-test.true)

pub loop-head-preserved : goal.loop-head-preserved
loop-head-preserved c =
    let P = c.pass.ensures.rings c.if-not-pass.false in
    (one_more c.loop-head.invariant.0 c.loop-head-test.true P, omega (arith, c.loop-head-test.true, P.longer))

pub returns-clause-rings : goal.returns-clause-rings
returns-clause-rings c =
    let e : c.loop-head.head ≡ c.loop-head.sorting.end = omega (arith, c.loop-head.invariant.1, c.loop-head-test.false) in
    λ _. rw e at c.loop-head.invariant.0
