use Rattle.std.proofs.Common.{◌≡◌}
use Rattle.counting.specs.Below.{all_below}
use Rattle.clauses.specs.Inner.{pole_at}
use Rattle.clauses.proofs.only_pole.Given as goal

abbrev pub invariant-loop-v : goal.invariant-loop-v
invariant-loop-v l = l.only ≡ all_below (pole_at l.m l.ends l.pole) l.v
