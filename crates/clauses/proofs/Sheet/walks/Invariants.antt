use Rattle.std.proofs.Common.{◌≡◌, ◌*◌}
use Rattle.clauses.specs.Inner.{dart_table, walk_of}
use Rattle.clauses.proofs.Sheet.walks.Given as goal

abbrev pub invariant-loop-k : goal.invariant-loop-k
invariant-loop-k l = l.walk ≡ dart_table (walk_of l.self.nexts) (2 * l.k)
