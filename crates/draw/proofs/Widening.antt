-- The segments of the vertices, widened edge by edge. Assumes nothing.
use Rattle.std.proofs.Common.{ℕ, ◌+◌, ◌<◌, min, max, ◌≡◌, refl, sym, ap, ◌∙◌, ◌≢◌, Bool, List, arith, eqb, get_or, set, eq-eqb, ne_eqb}
use Rattle.drawing.specs.declared.VertexSegment.{VertexSegment}
use Rattle.drawing.specs.Draw.{no_vertex_segment}
use Rattle.counting.specs.Below.{table}
use Rattle.draw.specs.Inner.{best_below, unreached_from, vertex_from, segment_from, widened_by}
use Rattle.counting.proofs.Tables.{table_at, table_put}
use Rattle.draw.proofs.Best.{more_passes, more_fails}

module _ (tails rows columns ends : List ℕ) where
  pub reached_none : (v : ℕ) → unreached_from rows v ≡ vertex_from tails rows columns ends 0 v
  unfolding unreached_from vertex_from best_below
  reached_none v = refl

  module _ (k v : ℕ) where
    abbrev leaves : ℕ → Bool
    leaves j = eqb (get_or tails j 0) v

    reached_more : get_or tails k 0 ≡ v → widened_by (vertex_from tails rows columns ends k v) (get_or columns k 0) (get_or ends k 0) ≡ vertex_from tails rows columns ends (k + 1) v
    unfolding vertex_from
    reached_more e =
        let t = eq-eqb (get_or tails k 0) v e in
        rw (more_passes min 65535 leaves (λ j. get_or columns j 0) k t, more_passes max 0 leaves (λ j. get_or ends j 0) k t) refl

    reached_kept : get_or tails k 0 ≢ v → vertex_from tails rows columns ends k v ≡ vertex_from tails rows columns ends (k + 1) v
    unfolding vertex_from
    reached_kept n =
        let t = ne_eqb (get_or tails k 0) v n in
        rw (more_fails min 65535 leaves (λ j. get_or columns j 0) k t, more_fails max 0 leaves (λ j. get_or ends j 0) k t) refl

  -- edge k widens the segment at its tail to x
  pub widened_more : (n k : ℕ) → get_or tails k 0 < n → (l : List VertexSegment) → l ≡ table (vertex_from tails rows columns ends k) n 128 no_vertex_segment
      → (t : ℕ) → t ≡ get_or tails k 0 → (x : VertexSegment) → x ≡ widened_by (get_or l t no_vertex_segment) (get_or columns k 0) (get_or ends k 0)
      → set l t x ≡ table (vertex_from tails rows columns ends (k + 1)) n 128 no_vertex_segment
  widened_more n k h l le t te x xe =
      let old = vertex_from tails rows columns ends k in
      let below : t < n = omega arith in
      let at : get_or l t no_vertex_segment ≡ old t = ap (λ a. get_or a t no_vertex_segment) le ∙ table_at old 128 no_vertex_segment no_vertex_segment n t below in
      let put = xe ∙ ap (λ a. widened_by a (get_or columns k 0) (get_or ends k 0)) at ∙ reached_more k t (sym te) in
      ap (λ a. set a t x) le ∙ table_put old 128 no_vertex_segment (vertex_from tails rows columns ends (k + 1)) n t x below put (λ j _ n. reached_kept k j (λ e. n (sym e ∙ sym te)))

  -- the segment, part by part
  whole : (m v : ℕ) → vertex_from tails rows columns ends m v ≡ record { row = get_or rows v 0; first = (vertex_from tails rows columns ends m v).first; last = (vertex_from tails rows columns ends m v).last }
  unfolding vertex_from
  whole m v = refl

  -- vertex 1 is put at the end, as far as vertex 0
  pub sink_put : (n m : ℕ) → 1 < n → (l : List VertexSegment) → l ≡ table (vertex_from tails rows columns ends m) n 128 no_vertex_segment
      → (x : VertexSegment) → x ≡ record { row = get_or rows 1 0; first = (get_or l 0 no_vertex_segment).first; last = (get_or l 0 no_vertex_segment).last }
      → set l 1 x ≡ table (segment_from m tails rows columns ends) n 128 no_vertex_segment
  unfolding segment_from
  sink_put n m h l le x xe =
      let all = vertex_from tails rows columns ends m in
      let at : get_or l 0 no_vertex_segment ≡ all 0 = ap (λ a. get_or a 0 no_vertex_segment) le ∙ table_at all 128 no_vertex_segment no_vertex_segment n 0 (omega arith) in
      ap (λ a. set a 1 x) le
      ∙ table_put all 128 no_vertex_segment (segment_from m tails rows columns ends) n 1 x h (xe ∙ rw at refl) (λ j _ n. rw (ne_eqb j 1 n) (whole m j))
