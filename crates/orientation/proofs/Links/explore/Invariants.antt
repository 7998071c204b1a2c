-- What is left of the search gives what the whole gives.
use Rattle.std.proofs.Common.{◌≡◌, ◌-◌}
use Rattle.orientation.specs.Ears.{graph_of, explored}
use Rattle.orientation.proofs.Links.explore.Given as goal

abbrev pub invariant-loop-sweep : goal.invariant-loop-sweep
invariant-loop-sweep l = explored (graph_of l.self.sheet.now) l.order l.u (l.self.sheet.now.vertices - l._sweep) l.parents ≡ explored (graph_of l.self.sheet.now) l.order l.u l.self.sheet.now.vertices l.fn.parents
