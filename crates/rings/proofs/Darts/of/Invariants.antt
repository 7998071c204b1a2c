use Rattle.rings.specs.Inner.{Held, Degrees}
use Rattle.rings.proofs.Darts.of.Given as goal

abbrev pub invariant-loop-d : goal.invariant-loop-d
invariant-loop-d l = Degrees l.d l.at l.degree × Held l.d l.at l.held
