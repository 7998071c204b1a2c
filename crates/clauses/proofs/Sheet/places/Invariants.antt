use Rattle.std.proofs.Common.{◌≡◌, ◌*◌}
use Rattle.clauses.specs.Inner.{dart_table, vertex_of}
use Rattle.clauses.proofs.Sheet.places.Given as goal

abbrev pub invariant-loop-k : goal.invariant-loop-k
invariant-loop-k l = l.at ≡ dart_table (vertex_of l.self.tails l.self.heads) (2 * l.k)
