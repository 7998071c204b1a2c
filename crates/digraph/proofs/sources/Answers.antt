-- `sources` meets its contract, which is its loop's invariant at the last node. Assumes nothing.
use Rattle.std.proofs.Common.{◌<◌, ◌≡◌, ◌∙◌, ap, arith, get_or-take, length-take, eqb}
use Rattle.counting.specs.Counts.{bit}
use Rattle.digraph.proofs.Waits.{byte_bit, queue_none, queue_next}
use Rattle.digraph.proofs.sources.Goals as goal

pub loop-v-init : goal.loop-v-init
loop-v-init c = queue_none _ (omega arith)

pub loop-v-preserved : goal.loop-v-preserved
loop-v-preserved c =
    let a = c.args in
    let in_v : c.loop-v.v < a.nodes = omega (arith, c.loop-v-test.true, length-take a.nodes a.waiting.now) in
    queue_next c.loop-v.invariant (omega (arith, c.requires)) _ (c.from-tail.ensures ∙ byte_bit _ ∙ ap (λ x. bit (eqb x 0)) (get_or-take a.nodes a.waiting.now c.loop-v.v 0 in_v))

pub returns : goal.returns
returns c = let e : c.loop-v.v ≡ c.args.nodes = omega (arith, length-take c.args.nodes c.args.waiting.now) in rw e at c.loop-v.invariant
