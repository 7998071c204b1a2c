-- The test of soundness says what soundness is. Assumes nothing.
use Rattle.std.proofs.Common.{not, ℕ, ◌<◌, arith, false, ◌≡◌}
use Rattle.std.proofs.lemmas.Bool.{not-true, not-false}
use Rattle.counting.specs.Paths.{Circle}
use Rattle.digraph.specs.Digraph.{Within}
use Rattle.digraph.specs.Digraph as digraph
use Rattle.clauses.specs.declared.Sheet.{Sheet}
use Rattle.sheet.specs.Sound.{Limits, Joins, Leads, Sound}
use Rattle.sheet.specs.Check.{row_levels, acyclic, sound}
use Rattle.sheet.specs.Darts.{Sized}
use Rattle.soundness.specs.Laws.{SoundLaw}
use Rattle.soundness.proofs.Tests.{Says, reworded, not_says}
use Rattle.soundness.proofs.Judge.{Passed, passed_says}
use Rattle.soundness.proofs.Clauses.{limits_law, joined_law, rooted_law, unused_law, poles_law}
use Rattle.soundness.proofs.Rings.{Rotation, rings_rotation, rings_law}
use Rattle.soundness.proofs.Faces.{planar_law}
use Rattle.soundness.proofs.Levels.{circle_found, acyclic_says}

-- an edge of the record is an edge of its lists
pub listed : (s : Sheet) (u v : ℕ) → Leads s u v → digraph.Leads s.edges s.tails s.heads u v
listed s u v t = record { edge = t.edge; inside = t.edge_in; source = t.from; target = t.to }

pub unlisted : (s : Sheet) (u v : ℕ) → digraph.Leads s.edges s.tails s.heads u v → Leads s u v
unlisted s u v t = record { edge = t.edge; edge_in = t.inside; from = t.source; to = t.target }

module _ (s : Sheet) (l : Limits s) (joins : (k : ℕ) → k < s.edges → Joins s k) where
  pub rows_within : Within s.vertices s.edges s.tails s.heads
  rows_within = record {
    few_nodes = omega (arith, l.vertices_most);
    few_edges = l.edges_most;
    from_in = λ k h. (joins k h).tail_in;
    to_in = λ k h. (joins k h).head_in;
  }

  pub acyclic_law : Says (acyclic s) (¬ Circle (Leads s))
  unfolding acyclic row_levels
  acyclic_law = acyclic_says (Leads s) s.vertices s.edges s.tails s.heads rows_within (listed s) (unlisted s)

  -- and where it fails, there is a circle
  pub circle_law : Says (not (acyclic s)) (Circle (Leads s))
  unfolding acyclic row_levels
  circle_law = (
    λ t. circle_found (Leads s) s.vertices s.edges s.tails s.heads rows_within (listed s) (unlisted s) (not-true (acyclic s) t),
    λ c. (not_says acyclic_law).1 (λ f. f c),
  )

pub rotation_of : {s : Sheet} → Sound s → Rotation s
rotation_of {s} S = rings_rotation s S.joins S.rings

pub sound_law : SoundLaw
sound_law s z = reworded (passed_says s) to_sound to_passed
  where
    to_sound : Passed s → Sound s
    to_sound x =
        let l = (limits_law s).0 x.lined.limits in
        let j = (joined_law s).0 x.lined.joins in
        let r = (rings_law s j l.edges_most).0 x.lined.rings in
        let o = (rooted_law s).0 x.root in
        record {
          limits = l;
          joins = j;
          rings = r;
          unused = (unused_law s z).0 x.lined.unused;
          root_tail = o.0;
          root_head = o.1;
          acyclic = (acyclic_law s l j).0 x.no_circle;
          poles = (poles_law s l.vertices_least).0 x.bars;
          euler = (planar_law s l.edges_most (rings_rotation s j r)).0 x.two;
        }

    to_passed : Sound s → Passed s
    to_passed S = record {
      lined = record {
        limits = (limits_law s).1 S.limits;
        joins = (joined_law s).1 S.joins;
        rings = (rings_law s S.joins S.limits.edges_most).1 S.rings;
        unused = (unused_law s z).1 S.unused;
      };
      root = (rooted_law s).1 (S.root_tail, S.root_head);
      no_circle = (acyclic_law s S.limits S.joins).1 S.acyclic;
      bars = (poles_law s S.limits.vertices_least).1 S.poles;
      two = (planar_law s S.limits.edges_most (rotation_of S)).1 S.euler;
    }

-- a sheet that no call refuses as not sound
pub was_sound : (s : Sheet) → Sized s → not (sound s) ≡ false → Sound s
was_sound s z e = (sound_law s z).0 (not-false (sound s) e)
