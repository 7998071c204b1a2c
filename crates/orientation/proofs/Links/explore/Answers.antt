-- One sweep more: there was no exit before it. Assumes nothing.
use Rattle.std.proofs.Common.{sym, ap, ◌∙◌, is_some}
use Rattle.orientation.proofs.Turns.{some_ends, explored_more}
use Rattle.orientation.proofs.Links.explore.Goals as goal

pub loop-sweep-preserved : goal.loop-sweep-preserved
loop-sweep-preserved c =
    let none = ap is_some (sym c.exit-exit.ensures) ∙ some_ends c.exit-exit.result ∙ sym c.is_some.ensures ∙ c.if-is_some.false in
    rw c.sweep.ensures.parents (explored_more _ _ _ _ _ c.loop-sweep._sweep c.loop-sweep-test.true none) ∙ c.loop-sweep.invariant
