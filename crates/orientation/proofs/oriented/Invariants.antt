-- The edges so far have their directions.
use Rattle.std.proofs.Common.{◌≡◌}
use Rattle.counting.specs.Below.{table}
use Rattle.orientation.specs.Ears.{order_of, chosen_tail, chosen_head}
use Rattle.orientation.proofs.oriented.Given as goal

abbrev pub invariant-loop-k : goal.invariant-loop-k
invariant-loop-k l = record {
  tails : l.tails ≡ table (chosen_tail l.s (order_of l.s)) l.k 256 0;
  heads : l.heads ≡ table (chosen_head l.s (order_of l.s)) l.k 256 0;
}
