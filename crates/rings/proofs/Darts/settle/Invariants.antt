use Rattle.std.proofs.Common.{◌≤◌, ◌-◌}
use Rattle.rings.specs.Inner.{PassedOn}
use Rattle.rings.proofs.Darts.settle.Given as goal

abbrev pub invariant-loop-head : goal.invariant-loop-head
invariant-loop-head l = PassedOn l.self 0 l.initial.sorting l.head l.sorting × (l.head ≤ l.sorting.end)

abbrev pub decreases-loop-head : goal.decreases-loop-head
decreases-loop-head l = 128 - l.head
