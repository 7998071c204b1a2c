use Rattle.std.proofs.Common.{◌+◌, ◌-◌, ◌≤◌, true}
use Rattle.contact.specs.Columns.{Covered}
use Rattle.contact.proofs.columns.Columns.cover.Given as goal

abbrev pub invariant-loop-x : goal.invariant-loop-x
invariant-loop-x l = Covered l.mark l.first l.x true l.initial.self l.self × (l.first ≤ l.x) × (l.x ≤ l.last + 1)

abbrev pub decreases-loop-x : goal.decreases-loop-x
decreases-loop-x l = l.last + 1 - l.x
