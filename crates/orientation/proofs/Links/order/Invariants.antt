-- So many ears are put in.
use Rattle.std.proofs.Common.{◌≡◌}
use Rattle.orientation.specs.Ears.{graph_of, with_ears}
use Rattle.orientation.proofs.Links.order.Given as goal

abbrev pub invariant-loop-ear : goal.invariant-loop-ear
invariant-loop-ear l = l.order ≡ with_ears (graph_of l.self.sheet.now) l._ear
