-- The spans of the faces, widened edge by edge. Assumes nothing.
use Rattle.std.proofs.Common.{◌≡◌, refl, sym, ◌∙◌, ap₂, ◌≢◌, Bool, true, false, cond, ◌||◌, List, ℕ, ◌+◌, ◌<◌, min, max, eqb, get_or, set, get_or-set_same, get_or-set_other, length, length-set, replicate, arith, add-one, ne_eqb, eq-eqb}
use Rattle.std.proofs.lemmas.List.{get_or-replicate, length-replicate}
use Rattle.std.proofs.Math.Logic.{by_cases}
use Rattle.std.proofs.Math.Decide.{ℕ_discrete}
use Rattle.clauses.specs.declared.Sheet.{Sheet}
use Rattle.sheet.specs.Sound.{Sound}
use Rattle.sheet.specs.Levels.{left_face, right_face}
use Rattle.sheet.specs.Check.{face, face_count}
use Rattle.soundness.proofs.Rows.{row_law}
use Rattle.drawing.proofs.Extremes.{Extreme, least_extreme, greatest_extreme}
use Rattle.draw.specs.Inner.{best_below}
use Rattle.draw.proofs.Best.{Better, min_better, max_better, found_best}
use Rattle.insulationmask.specs.declared.Span.{Span}
use Rattle.insulationmask.specs.Mask.{ends_on, level_row, rows_beside}
use Rattle.insulationmask.specs.Inner.{widened_by, span_of, no_span, Spans}
use Rattle.insulationmask.proofs.Uprights.{ends_says, row_bound, row_found}
use Rattle.insulationmask.proofs.Coordinates.{few_faces}

module _ (s : Sheet) where
  -- the span of face g by the rows of the first k edges
  unfoldable pub span_upto : ℕ → ℕ → Span
  span_upto k g = record { low = best_below min 65535 (ends_on s g) (level_row s) k; high = best_below max 0 (ends_on s g) (level_row s) k }

  -- the spans hold the rows of the first k edges
  pub record Widened (k : ℕ) (spans : List Span) : Type 0 where
    pub long : length spans ≡ 256
    pub at : (g : ℕ) → g < 256 → get_or spans g no_span ≡ span_upto k g

  -- edge 0 ends on none
  pub unwidened : Widened 1 (replicate 256 (record { low = 65535; high = 0 }))
  unfolding span_upto best_below ends_on
  unwidened = record { long = length-replicate {A = Span} 256 (record { low = 65535; high = 0 }); at = λ g h. get_or-replicate 256 g _ no_span h }

  -- one edge more
  more : (k g : ℕ) → span_upto (k + 1) g ≡ cond (ends_on s g k) (widened_by (span_upto k g) (level_row s k)) (span_upto k g)
  unfolding span_upto best_below
  more k g = rw (add-one k) (parts (ends_on s g k) _ _ _ _)
    where
      parts : (t : Bool) (a b c d : ℕ) → ◌≡◌ {A = Span} (record { low = cond t a b; high = cond t c d }) (cond t (record { low = a; high = c }) (record { low = b; high = d }))
      parts true a b c d = refl
      parts false a b c d = refl

  -- a span is widened twice where both faces are one, and to the same as once
  widened_twice : (p q : Bool) (x : Span) (r : ℕ) → cond q (widened_by (cond p (widened_by x r) x) r) (cond p (widened_by x r) x) ≡ cond (p || q) (widened_by x r) x
  widened_twice true true x r = ap₂ (λ (a b : ℕ). record { low = a; high = b }) (omega arith) (omega arith)
  widened_twice true false x r = refl
  widened_twice false true x r = refl
  widened_twice false false x r = refl

  -- the span of one face, widened
  put : (l : List Span) (f r : ℕ) → f < length l → (x : Span) → x ≡ widened_by (get_or l f no_span) r
      → (g : ℕ) → get_or (set l f x) g no_span ≡ cond (eqb f g) (widened_by (get_or l g no_span) r) (get_or l g no_span)
  put l f r h x e g = by_cases (ℕ_discrete g f)
      (λ q. rw (q, eq-eqb f f refl) (get_or-set_same l f x no_span h ∙ e))
      (λ n. rw (ne_eqb f g (λ q. n (sym q))) (get_or-set_other l f g x no_span n))

  -- edge k widens the spans of its left and of its right face
  pub widened_more : (k : ℕ) → k ≢ 0 → (l : List Span) → Widened k l
      → (a b : ℕ) → a ≡ left_face (face s) k → b ≡ right_face (face s) k → a < 256 → b < 256 → (r : ℕ) → r ≡ level_row s k
      → (x y : Span) → x ≡ widened_by (get_or l a no_span) r → y ≡ widened_by (get_or (set l a x) b no_span) r
      → Widened (k + 1) (set (set l a x) b y)
  unfolding ends_on
  widened_more k n l W a b ae be ah bh r re x y xe ye = record { long = length-set (set l a x) b y ∙ kept; at = at }
    where
      kept : length (set l a x) ≡ 256
      kept = length-set l a x ∙ W.long

      at : (g : ℕ) → g < 256 → get_or (set (set l a x) b y) g no_span ≡ span_upto (k + 1) g
      at g h =
          let old = span_upto k g in
          let left = rw (W.at g h) at (put l a r (omega (arith, W.long)) x xe g) in
          let both = rw left at (put (set l a x) b r (omega (arith, kept)) y ye g) in
          both ∙ widened_twice (eqb a g) (eqb b g) old r ∙ sym (more k g ∙ rw (ne_eqb k 0 n, ← ae, ← be, ← re) refl)

module _ {s : Sheet} (S : Sound s) where
  -- of all rows beside a face, the best one by one is the best of the list
  best_one_by_one : {R : ℕ → ℕ → Type 0} {better : ℕ → ℕ → ℕ} {best : List ℕ → ℕ} → Better R better → Extreme R best
      → (z : ℕ) → ((k : ℕ) → k < s.edges → R (level_row s k) z) → (g : ℕ) → g < face_count s → best_below better z (ends_on s g) (level_row s) s.edges ≡ best (rows_beside s g)
  best_one_by_one {best = best} B E z worst g h =
      let (k, A, q) = row_found E S h in
      found_best B z (ends_on s g) (level_row s) s.edges (best (rows_beside s g)) k A.inside ((ends_says s g k A.inside).1 A) (sym q) (rw q (worst k A.inside))
      (λ j i t. row_bound E j ((ends_says s g j i).0 t))

  -- with all edges the spans are those of the faces
  pub all_widened : (l : List Span) → Widened s s.edges l → Spans s l
  unfolding span_upto span_of
  all_widened l W g h = W.at g (omega (arith, few_faces S, S.limits.edges_most)) ∙ ap₂ (λ (a b : ℕ). record { low = a; high = b })
      (best_one_by_one min_better least_extreme 65535 (λ k i. omega (arith, (row_law S).fewer _ (S.joins k i).tail_in, S.limits.vertices_most)) g h)
      (best_one_by_one max_better greatest_extreme 0 (λ k i. omega arith) g h)
