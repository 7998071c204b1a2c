-- The places fit in their type, and where there is no ear, there is none later. Assumes nothing.
use Rattle.std.proofs.Common.{sym, ap, ◌∙◌, arith}
use Rattle.orientation.specs.Ears.{graph_of, with_ear, order_of}
use Rattle.orientation.proofs.Turns.{ears_still}
use Rattle.orientation.proofs.Bounds.{ears_fit}
use Rattle.orientation.proofs.Links.order.Goals as goal

pub add_ear-requires : goal.add_ear-requires
add_ear-requires c = rw c.loop-ear.invariant (ears_fit (graph_of c.args.self.now.sheet.now) c.loop-ear._ear (omega (arith, c.loop-ear-test.true, c.args.self.now.few)))

pub returns-then-not-add_ear : goal.returns-then-not-add_ear
unfolding order_of
returns-then-not-add_ear c =
    let G = graph_of c.args.self.now.sheet.now in
    let inv = c.loop-ear.invariant in
    let same = c.add_ear.ensures.same c.if-not-add_ear.true ∙ inv in
    same ∙ sym (ears_still G c.loop-ear._ear (ap (with_ear G) (sym inv) ∙ sym c.add_ear.ensures.order ∙ same) c.args.self.now.sheet.now.vertices (omega arith))
