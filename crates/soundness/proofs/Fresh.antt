-- The fresh sheet is sound.
use Rattle.std.proofs.Common.{◌≡◌, refl, true}
use Rattle.counting.specs.Below.{all_below, some_below}
use Rattle.orbits.specs.Tables.{traced, trace_from, walk_from, unnumbered_below, is_permutation, permutes_from}
use Rattle.digraph.specs.Digraph.{flat}
use Rattle.digraph.specs.Relaxed.{levels_of, rounds, relaxed, raised, climbs, joins, within_of, answer}
use Rattle.clauses.specs.Darts.{opposite}
use Rattle.sheet.specs.Darts.{Sized, vertex}
use Rattle.sheet.specs.Fresh.{fresh_sheet}
use Rattle.sheet.specs.Check.{sound, within_limits, joined, in_rings, unused_zero, rooted, acyclic, row_levels, poles, incoming, outgoing, planar, face_table}
use Rattle.soundness.specs.Laws.{FreshLaw}
use Rattle.soundness.proofs.Law.{sound_law}

pub fresh_sized : Sized fresh_sheet
unfolding fresh_sheet
fresh_sized = record { tails = refl; heads = refl; nexts = refl }

-- computed
fresh_passes : sound fresh_sheet ≡ true
unfolding fresh_sheet sound within_limits joined in_rings unused_zero rooted acyclic row_levels poles incoming outgoing planar face_table vertex opposite all_below some_below traced trace_from walk_from unnumbered_below is_permutation permutes_from levels_of rounds relaxed raised climbs joins within_of answer flat
fresh_passes = refl

pub fresh_law : FreshLaw
fresh_law = (sound_law fresh_sheet fresh_sized).0 fresh_passes
