use Rattle.writesheet.proofs.Firsts.{Filled}
use Rattle.writesheet.proofs.first_darts.Given as goal

abbrev pub invariant-loop-k : goal.invariant-loop-k
invariant-loop-k l = Filled l.s l.k l.firsts
