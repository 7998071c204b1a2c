-- The queue has those of the nodes before v for which no edge waits.
use Rattle.digraph.specs.Inner.{Queued}
use Rattle.digraph.proofs.sources.Given as goal

abbrev pub invariant-loop-v : goal.invariant-loop-v
invariant-loop-v l = Queued l.v l.waiting l.queue l.tail
