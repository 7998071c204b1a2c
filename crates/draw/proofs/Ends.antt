-- The edges that leave a vertex of a sound sheet reach as far as all its edges; vertex 1, which none leaves, goes as far as vertex 0. Assumes nothing.
use Rattle.std.proofs.Common.{ℕ, ◌-◌, ◌/◌, ◌≤◌, ◌<◌, ◌≡◌, refl, sym, ap, ◌∙◌, ◌≢◌, true, cond, arith, eqb, ne_eqb, lt-ltb, le-ltb}
use Rattle.std.proofs.Math.Logic.{by_cases}
use Rattle.std.proofs.Math.Decide.{ℕ_discrete, dec_lt}
use Rattle.planarmap.proofs.Laws.{next_below}
use Rattle.planarmap.proofs.Corners.{has_corners}
use Rattle.planarmap.proofs.Spans.{column_of_law, long_extent}
use Rattle.planarmap.proofs.Sides.{right_side, source_first, sink_first}
use Rattle.clauses.specs.Darts.{tail_dart, head_dart, is_tail}
use Rattle.clauses.proofs.Touching.{touches_tail, touches_head}
use Rattle.clauses.specs.declared.Sheet.{Sheet}
use Rattle.sheet.specs.Darts.{tail, darts, vertex, next, touches}
use Rattle.sheet.specs.Sound.{Sound}
use Rattle.sheet.specs.Check.{face, column}
use Rattle.soundness.specs.Maps.{map_of}
use Rattle.sheet.proofs.Darts.{edge_below, dart_vertex}
use Rattle.soundness.proofs.Plane.{plane_of}
use Rattle.soundness.proofs.Columns.{column_law}
use Rattle.drawing.specs.Draw.{edge_column, right_column, first_column, last_column}
use Rattle.drawing.proofs.Extremes.{greatest_extreme}
use Rattle.drawing.proofs.Segments.{dart_column_law, column_at, right_at_law, edge_found, edge_bound, laws, long_of}
use Rattle.drawing.proofs.Sides.{end_at_law}

-- how far right edge k lets its vertices go
unfoldable pub end_column : Sheet → ℕ → ℕ
end_column s k = cond (eqb k 0) (edge_column s 0) (right_column s k - 1)

end_other : (s : Sheet) (k : ℕ) → k ≢ 0 → end_column s k ≡ right_column s k - 1
unfolding end_column
end_other s k n = rw (ne_eqb k 0 n) refl

end_root : (s : Sheet) → end_column s 0 ≡ edge_column s 0
unfolding end_column
end_root s = refl

module _ {s : Sheet} (S : Sound s) where
  two : 1 < s.vertices
  two = S.limits.vertices_least

  -- the edge of an outgoing dart leaves its vertex
  leaving : {d : ℕ} → d < darts s → is_tail d ≡ true → (d / 2 < s.edges) × (tail s (d / 2) ≡ vertex s d)
  leaving {d} h o = (edge_below s h, end_at_law s true d o)

  -- ---- to the left

  pub first_bound : (v : ℕ) → v < s.vertices → (k : ℕ) → k < s.edges → tail s k ≡ v → first_column s v ≤ edge_column s k
  first_bound v h k l e = omega (arith, ((long_of S).begins h).least (tail_dart k) (omega arith) (dart_vertex s true k ∙ e), dart_column_law s true k)

  pub first_found : (v : ℕ) → v < s.vertices → v ≢ 1 → (k : ℕ) × (k < s.edges) × (tail s k ≡ v) × (edge_column s k ≡ first_column s v)
  first_found v h n1 = by_cases (ℕ_discrete v 0)
      (λ e.
      let (d, l, p, q) = ((long_of S).begins h).found in
      let (i, t) = leaving l ((plane_of S).bipolar.source l (p ∙ e)) in
      (d / 2, i, t ∙ p, sym (column_at s d) ∙ sym q))
      (λ n0.
      let (l, A, p) = (has_corners (plane_of S).bipolar).left h n0 n1 in
      let below = next_below (plane_of S).bipolar A.below in
      let at_v = (plane_of S).bipolar.next_vertex A.below ∙ p in
      let (i, t) = leaving below A.second in (
        next s l / 2,
        i,
        t ∙ at_v,
        omega (
          arith,
          column_at s (next s l),
          column_of_law (map_of s) (column s) true (next s l) A.second,
          (long_extent (plane_of S) (laws S) (long_of S)).from_left A,
          ap (first_column s) p,
          ((long_of S).begins h).least (next s l) below at_v,
        ),
      ))

  -- both poles begin in the first column
  pub first_poles : first_column s 0 ≡ first_column s 1
  first_poles =
      let B = (plane_of S).bipolar in
      let (d, l, p, q) = sink_first (plane_of S) (laws S) in
      omega (
        arith,
        source_first (plane_of S) (laws S),
        q,
        ((long_of S).begins two).least d l p,
        ((long_of S).begins {v = 0} (omega (arith, two))).least (next s 0) (next_below B B.root_below) (B.next_vertex B.root_below ∙ B.root_tail),
      )

  -- ---- to the right

  -- edge 0 is right of all others
  edge_most : (k : ℕ) → k < s.edges → edge_column s k ≤ edge_column s 0
  unfolding edge_column
  edge_most k h = (column_law S).last (face s (tail_dart k)) ((column_law S).faces.inside (tail_dart k) (omega arith))

  end_most : (k : ℕ) → k < s.edges → end_column s k ≤ edge_column s 0
  unfolding edge_column right_column
  end_most k h = by_cases (ℕ_discrete k 0)
      (λ e. omega (arith, ap (end_column s) e, end_root s))
      (λ n. omega (arith, end_other s k n, (column_law S).last (face s (head_dart k)) ((column_law S).faces.inside (head_dart k) (omega arith))))

  -- so both poles end with it
  pole_last : (v : ℕ) → v < 2 → last_column s v ≡ edge_column s 0
  unfolding last_column
  pole_last v l =
      let h : v < s.vertices = omega (arith, two) in
      let (k, i, _, e) = edge_found S greatest_extreme (edge_column s) v h in
      rw (lt-ltb v 2 l) (omega (arith, e, edge_most k i, edge_bound S greatest_extreme (edge_column s) v h 0 (omega (arith, S.limits.edges_least)) (touched (ℕ_discrete v 0))))
    where
      touched : Dec (v ≡ 0) → touches s 0 v ≡ true
      touched (yes e) = touches_tail s.tails s.heads 0 v (S.root_tail ∙ sym e)
      touched (no n) = let e : v ≡ 1 = omega arith in touches_head s.tails s.heads 0 v (S.root_head ∙ sym e)

  pub last_poles : last_column s 0 ≡ last_column s 1
  last_poles = pole_last 0 (omega arith) ∙ sym (pole_last 1 (omega arith))

  -- edge 0 leaves no other vertex
  not_root : (v k : ℕ) → 2 ≤ v → tail s k ≡ v → k ≢ 0
  not_root v k h p e = omega (arith, ap (tail s) e, S.root_tail)

  inner_bound : (v : ℕ) → v < s.vertices → 2 ≤ v → (k : ℕ) → k < s.edges → tail s k ≡ v → end_column s k ≤ last_column s v
  unfolding last_column
  inner_bound v h l k i e = rw (le-ltb v 2 l)
      (omega (arith, end_other s k (not_root v k l e), edge_bound S greatest_extreme (right_column s) v h k i (touches_tail s.tails s.heads k v e)))

  pub last_bound : (v : ℕ) → v < s.vertices → (k : ℕ) → k < s.edges → tail s k ≡ v → end_column s k ≤ last_column s v
  last_bound v h k i e = by_cases (dec_lt v 2) (λ l. omega (arith, pole_last v l, end_most k i)) (λ l. inner_bound v h (omega arith) k i e)

  pub last_found : (v : ℕ) → v < s.vertices → v ≢ 1 → (k : ℕ) × (k < s.edges) × (tail s k ≡ v) × (end_column s k ≡ last_column s v)
  last_found v h n1 = by_cases (ℕ_discrete v 0)
      (λ e. (0, omega (arith, S.limits.edges_least), S.root_tail ∙ sym e, end_root s ∙ sym (pole_last v (omega arith))))
      (λ n0.
      let (q, R, p) = (has_corners (plane_of S).bipolar).right h n0 n1 in
      let X = right_side (plane_of S) (laws S) R in
      let (i, t) = leaving R.below R.first in (
        q / 2,
        i,
        t ∙ p,
        omega (
          arith,
          end_other s (q / 2) (not_root v (q / 2) (omega arith) (t ∙ p)),
          right_at_law s q,
          ap (column s) (X.one_face true q X.outgoing),
          (long_of S).ends R,
          ap (last_column s) p,
        ),
      ))
