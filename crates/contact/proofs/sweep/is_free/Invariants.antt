-- The rows below are swept.
use Rattle.contact.specs.Sweep.{SweptTo}
use Rattle.contact.proofs.sweep.is_free.Given as goal

abbrev pub invariant-loop-row : goal.invariant-loop-row
invariant-loop-row l = SweptTo l.n l.m l.d l.row l.row l.sweep
