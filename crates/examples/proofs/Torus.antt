-- The torus, computed. Assumes nothing.
use Rattle.std.proofs.Common.{refl}
use Rattle.counting.specs.Below.{all_below, some_below, tabulate}
use Rattle.orbits.specs.Tables.{traced, is_permutation, permutes_from, trace_from, walk_from, unnumbered_below}
use Rattle.digraph.specs.Digraph.{flat}
use Rattle.digraph.specs.Relaxed.{joins, within_of, raised, relaxed, rounds, climbs, levels_of, answer}
use Rattle.clauses.specs.Darts.{opposite}
use Rattle.sheet.specs.Darts.{vertex}
use Rattle.sheet.specs.Check.{sound, within_limits, joined, in_rings, unused_zero, rooted, acyclic, row_levels, poles, incoming, outgoing, planar, face_table}
use Rattle.examples.specs.Torus.{torus, TorusFound}

pub torus_found : TorusFound
unfolding torus tabulate opposite vertex in_rings all_below some_below traced trace_from walk_from unnumbered_below is_permutation permutes_from sound within_limits joined unused_zero rooted acyclic row_levels poles incoming outgoing planar face_table flat joins within_of raised relaxed rounds climbs levels_of answer
torus_found = record { faces = refl; rings = refl; count = refl; unsound = refl }
