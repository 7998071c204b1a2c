-- The ends so far are counted.
use Rattle.std.proofs.Common.{◌≡◌, eqb, get_or}
use Rattle.counting.specs.Counts.{count}
use Rattle.takeoutedge.proofs.degree.Given as goal

abbrev pub invariant-loop-end : goal.invariant-loop-end
invariant-loop-end l = l.found ≡ count (λ k. eqb (get_or l.ends k 0) l.v) l.end-index
