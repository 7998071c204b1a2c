-- The rows of the level segments that end on the segment of a face: the least and the greatest, in the sheet's words and in its map's. Assumes nothing.
use Rattle.std.proofs.Common.{◌≡◌, sym, ◌∙◌, ap, inl, inr, true, List, ℕ, ◌/◌, ◌<◌, arith}
use Rattle.insulation.specs.Mask.{Beside, Uprights}
use Rattle.insulation.proofs.Beside.{all_beside}
use Rattle.clauses.specs.declared.Sheet.{Sheet}
use Rattle.clauses.specs.Darts.{tail_dart, opposite}
use Rattle.sheet.specs.Darts.{vertex}
use Rattle.sheet.specs.Sound.{Sound}
use Rattle.sheet.specs.Levels.{left_face, right_face}
use Rattle.sheet.specs.Check.{row, face, face_count}
use Rattle.sheet.proofs.Darts.{dart, dart_is, dart_kind, dart_below, dart_opposite, dart_vertex, edge_below}
use Rattle.soundness.specs.Maps.{map_of}
use Rattle.soundness.proofs.Tests.{Says, reworded, eq_says, not_says, or_says, and_says}
use Rattle.soundness.proofs.Plane.{plane_of}
use Rattle.drawing.specs.Draw.{least, greatest}
use Rattle.drawing.proofs.Extremes.{Extreme, least_extreme, greatest_extreme, best_is, best_bounds}
use Rattle.insulationmask.specs.Laid.{EndsOn}
use Rattle.insulationmask.specs.Mask.{ends_on, level_row, rows_beside}

module _ (s : Sheet) where
  -- what the test of it says
  pub ends_says : (g k : ℕ) → k < s.edges → Says (ends_on s g k) (EndsOn s (face s) g k)
  unfolding ends_on
  ends_says g k h =
      reworded (and_says (not_says (eq_says k 0)) (or_says (eq_says (left_face (face s) k) g) (eq_says (right_face (face s) k) g)))
      (λ (n, b). record { inside = h; not_0 = n; beside = b })
      (λ E. (E.not_0, E.beside))

  -- ---- a wire whose level segment ends on that of face g is an edge beside g in the map, and there are no others

  to_beside : {g k : ℕ} → EndsOn s (face s) g k → Beside (map_of s) g (tail_dart k)
  to_beside {g} {k} E = record {
    edge = record { below = dart_below true E.inside; is_out = dart_kind true k };
    not_root = omega (arith, E.not_0);
    side = elim E.beside [ inl q ↦ inl q | inr q ↦ inr (ap (face s) (dart_opposite true k) ∙ q) ];
  }

  from_beside : {g e : ℕ} → Beside (map_of s) g e → (k : ℕ) × EndsOn s (face s) g k × (tail_dart k ≡ e)
  from_beside {g} {e} A =
      let k = e / 2 in
      let is : tail_dart k ≡ e = ap (λ b. dart b k) (sym A.edge.is_out) ∙ dart_is e in (
        k,
        record {
          inside = edge_below s A.edge.below;
          not_0 = omega (arith, A.not_root);
          beside = elim A.side [
            | inl q ↦ inl (ap (face s) is ∙ q)
            | inr q ↦ inr (ap (face s) (sym (dart_opposite true k) ∙ ap opposite is) ∙ q)
          ];
        },
        is,
      )

  -- the row of a wire's tail is that of its edge's
  pub tail_row : (k : ℕ) → level_row s k ≡ row s (vertex s (tail_dart k))
  tail_row k = ap (row s) (sym (dart_vertex s true k))

-- ---- the least and the greatest row of the level segments that end on that of face g

module _ {s : Sheet} {R : ℕ → ℕ → Type 0} {best : List ℕ → ℕ} (E : Extreme R best) {g : ℕ} where
  -- the best stands to the row of each of them as R says
  pub row_bound : (k : ℕ) → EndsOn s (face s) g k → R (best (rows_beside s g)) (level_row s k)
  unfolding rows_beside
  row_bound k A = let t = (ends_says s g k A.inside).1 A in best_bounds E (ends_on s g) (level_row s) s.edges k A.inside t k A.inside t

  -- and is the row of one
  pub row_found : Sound s → g < face_count s → (k : ℕ) × EndsOn s (face s) g k × (best (rows_beside s g) ≡ level_row s k)
  unfolding rows_beside
  row_found S h =
      let (e, B) = all_beside (plane_of S) S.limits.edges_least g h in
      let (k, A, _) = from_beside s B in
      let (j, l, t, p) = best_is E (ends_on s g) (level_row s) s.edges k A.inside ((ends_says s g k A.inside).1 A) in
      (j, (ends_says s g j l).0 t, p)

-- so they are the rows of the ends of the map's uprights
pub uprights_of : {s : Sheet} → Sound s → Uprights (map_of s) (λ g. least (rows_beside s g)) (λ g. greatest (rows_beside s g))
uprights_of {s} S = record {
  begins = λ h. record {
    found = let (k, A, p) = row_found least_extreme S h in (tail_dart k, to_beside s A, p ∙ tail_row s k);
    lowest = λ e B. let (k, A, q) = from_beside s B in omega (arith, row_bound least_extreme k A, tail_row s k, ap (λ d. row s (vertex s d)) q);
  };
  ends = λ h. record {
    found = let (k, A, p) = row_found greatest_extreme S h in (tail_dart k, to_beside s A, p ∙ tail_row s k);
    highest = λ e B. let (k, A, q) = from_beside s B in omega (arith, row_bound greatest_extreme k A, tail_row s k, ap (λ d. row s (vertex s d)) q);
  };
}
