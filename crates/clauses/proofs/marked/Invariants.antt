use Rattle.std.proofs.Common.{◌≡◌}
use Rattle.counting.specs.Below.{tabulate}
use Rattle.clauses.specs.Inner.{end_of}
use Rattle.clauses.proofs.marked.Given as goal

abbrev pub invariant-loop-end : goal.invariant-loop-end
invariant-loop-end l = l.marks ≡ tabulate (end_of l.fn.ends l.end-index) 256
