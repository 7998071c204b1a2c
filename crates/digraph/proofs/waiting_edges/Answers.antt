-- `waiting_edges` meets its contract, which is its loop's invariant at the last edge. Assumes nothing.
use Rattle.std.proofs.Common.{true, ◌≡◌, arith, length-take}
use Rattle.counting.proofs.Counts.{count_le}
use Rattle.digraph.specs.Inner.{into}
use Rattle.digraph.proofs.Tests.{entry_of}
use Rattle.digraph.proofs.Waits.{waiting_none, waiting_more}
use Rattle.digraph.proofs.waiting_edges.Goals as goal

pub loop-w-init : goal.loop-w-init
loop-w-init c = waiting_none _

-- no count is above the number of edges
pub overflow_add-waiting : goal.overflow_add-waiting
overflow_add-waiting c =
    let (in_k, ew) = entry_of c.args.edges c.args.to.now c.loop-w-test.true c.from.ensures in
    omega (arith, c.loop-w.invariant.counts c.from.result (omega (arith, ew, c.requires.inside _ in_k)), count_le (into (λ j. true) c.args.to.now c.from.result) c.loop-w.w-index)

pub loop-w-preserved : goal.loop-w-preserved
loop-w-preserved c =
    let (in_k, ew) = entry_of c.args.edges c.args.to.now c.loop-w-test.true c.from.ensures in
    waiting_more c.loop-w.invariant _ ew (omega (arith, ew, c.requires.inside _ in_k))

pub returns : goal.returns
returns c = let e : c.loop-w.w-index ≡ c.args.edges = omega (arith, length-take c.args.edges c.args.to.now) in rw e at c.loop-w.invariant
