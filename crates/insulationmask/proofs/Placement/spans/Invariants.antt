-- The spans hold the rows of the first k edges beside each face.
use Rattle.insulationmask.proofs.Widening.{Widened}
use Rattle.insulationmask.proofs.Placement.spans.Given as goal

abbrev pub invariant-loop-k : goal.invariant-loop-k
invariant-loop-k l = Widened l.self.sheet.now l.k l.spans
