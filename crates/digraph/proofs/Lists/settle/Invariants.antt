-- The edges out of the queue's first `head` nodes are passed.
use Rattle.std.proofs.Common.{◌-◌}
use Rattle.digraph.specs.Inner.{Onward}
use Rattle.digraph.proofs.Lists.settle.Given as goal

abbrev pub invariant-loop-head : goal.invariant-loop-head
invariant-loop-head l = Onward l.self 0 l.initial.sorting l.head l.sorting

abbrev pub decreases-loop-head : goal.decreases-loop-head
decreases-loop-head l = 256 - l.head
