-- The edges so far are counted.
use Rattle.std.proofs.Common.{true}
use Rattle.digraph.specs.Inner.{Waiting}
use Rattle.digraph.proofs.waiting_edges.Given as goal

abbrev pub invariant-loop-w : goal.invariant-loop-w
invariant-loop-w l = Waiting l.w-index l.to (λ j. true) l.waiting
