-- The vertices so far have moved up.
use Rattle.std.proofs.Common.{◌≡◌}
use Rattle.orientation.specs.Ears.{raised}
use Rattle.orientation.proofs.insert_at.Given as goal

abbrev pub invariant-loop-place : goal.invariant-loop-place
invariant-loop-place l = l.order ≡ raised l.p l.place-index l.fn.order
