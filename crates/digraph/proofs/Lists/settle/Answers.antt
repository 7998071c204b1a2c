-- `Lists::settle` meets its contract, which is its loop's invariant at the queue's end. Assumes nothing.
use Rattle.std.proofs.Common.{◌≡◌, arith}
use Rattle.digraph.proofs.Settling.{head_in, still_underway}
use Rattle.digraph.proofs.Lists.settle.Goals as goal

pub pass-requires : goal.pass-requires
pass-requires c = (c.loop-head-test.true, still_underway c.requires c.loop-head.invariant)

-- the queue has at most 256 nodes
pub overflow_add-head : goal.overflow_add-head
overflow_add-head c = omega (arith, head_in (still_underway c.requires c.loop-head.invariant) c.loop-head-test.true)

pub loop-head-smaller : goal.loop-head-smaller
loop-head-smaller c = omega (arith, head_in (still_underway c.requires c.loop-head.invariant) c.loop-head-test.true)

pub loop-head-preserved : goal.loop-head-preserved
loop-head-preserved c = λ L S. c.pass.ensures L (c.loop-head.invariant L S)

pub returns : goal.returns
returns c = λ L S.
    let T = c.loop-head.invariant L S in
    let e : c.loop-head.head ≡ c.loop-head.sorting.end = omega (arith, T.inside, c.loop-head-test.false) in
    rw e at T
