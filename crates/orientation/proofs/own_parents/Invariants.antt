-- The vertices so far are their own parents.
use Rattle.std.proofs.Common.{◌≡◌}
use Rattle.orientation.specs.Ears.{own_parents}
use Rattle.orientation.proofs.own_parents.Given as goal

abbrev pub invariant-loop-v : goal.invariant-loop-v
invariant-loop-v l = l.parent-items ≡ own_parents l.v
