-- The first levels are 0. Assumes nothing.
use Rattle.std.proofs.Common.{refl}
use Rattle.digraph.specs.Digraph.{flat}
use Rattle.digraph.proofs.Sorting.start.Goals as goal

pub returns-clause-level : goal.returns-clause-level
unfolding flat
returns-clause-level c = refl
