-- The darts of the links so far are swept; where nothing is said to have changed, nothing has.
use Rattle.std.proofs.Common.{◌≡◌, ◌*◌, false}
use Rattle.orientation.specs.Ears.{graph_of, sweep}
use Rattle.orientation.proofs.Links.sweep.Given as goal

abbrev pub invariant-loop-k : goal.invariant-loop-k
invariant-loop-k l = record {
  parents : l.parents ≡ sweep (graph_of l.self.sheet.now) l.order (2 * l.k) l.fn.parents;
  same : l.changed ≡ false → l.parents ≡ l.fn.parents;
}
