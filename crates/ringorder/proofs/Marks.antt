-- The marks of the bars whose rings have a descent so far, end by end.
use Rattle.std.proofs.Common.{ℕ, ◌+◌, ◌/◌, ◌<◌, ◌≡◌, refl, sym, ◌∙◌, Bool, true, false, not, ◌&&◌, ◌||◌, List, add-one, arith, eq-eqb, ne_eqb, eqb, get_or, set, replicate}
use Rattle.std.proofs.Math.Bool.{or-false, and-true, and-false}
use Rattle.counting.specs.Below.{all_below, some_below, tabulate, table}
use Rattle.counting.proofs.Below.{all_at}
use Rattle.counting.proofs.Iterate.{by_bool, clash}
use Rattle.counting.proofs.Tables.{table_at, table_put}
use Rattle.clauses.specs.declared.Sheet.{Sheet}
use Rattle.sheet.specs.Darts.{darts, vertex, next}
use Rattle.sheet.specs.Sound.{Sound}
use Rattle.soundness.proofs.Law.{rotation_of}
use Rattle.drawing.specs.declared.Drawing.{Drawing}
use Rattle.ringorder.specs.Order.{is_descent, descends_at, in_order}

-- the wire of an end's next end has an entry
pub next_small : {s : Sheet} → Sound s → {e : ℕ} → e < darts s → {n : ℕ} → n ≡ next s e → n / 2 < 256
next_small {s} S {e} h q = omega (arith, (rotation_of S).perm.below e h, S.limits.edges_most)

module _ (s : Sheet) (D : Drawing) where
  abbrev pub marks_at : ℕ → List Bool
  marks_at e = table (descends_at s D e) 128 128 false

  -- none of the first e ends is the second descent of its ring
  unfoldable pub passed : ℕ → Bool
  passed e = all_below (λ d. not (is_descent s D d && descends_at s D d (vertex s d))) e

  pub passed_none : passed 0 ≡ true
  unfolding passed all_below
  passed_none = refl

  pub passed_more : (e : ℕ) → passed (e + 1) ≡ (passed e && not (is_descent s D e && descends_at s D e (vertex s e)))
  unfolding passed all_below
  passed_more e = rw (add-one e) refl

  pub passed_all : in_order s D ≡ passed (darts s)
  unfolding passed in_order
  passed_all = refl

  pub failed : (e v : ℕ) → e < darts s → v ≡ vertex s e → (is_descent s D e && descends_at s D e v) ≡ true → in_order s D ≡ false
  unfolding in_order
  failed e v h q t = by_bool (in_order s D) (λ a. clash (all_at _ (darts s) a e h) (rw (sym q, t) refl)) (λ f. f)

  pub marks_none : replicate 128 false ≡ marks_at 0
  unfolding table tabulate descends_at some_below
  marks_none = refl

  descends_more : (e v : ℕ) → descends_at s D (e + 1) v ≡ (descends_at s D e v || (is_descent s D e && eqb (vertex s e) v))
  unfolding descends_at some_below
  descends_more e v = rw (add-one e) refl

  pub marks_more : (e v : ℕ) → v ≡ vertex s e → v < 128 → set (marks_at e) v (descends_at s D e v || is_descent s D e) ≡ marks_at (e + 1)
  marks_more e v q h =
      table_put (descends_at s D e) 128 false (descends_at s D (e + 1)) 128 v (descends_at s D e v || is_descent s D e) h
      (sym (descends_more e v ∙ rw (eq-eqb (vertex s e) v (sym q), and-true) refl))
      (λ w _ n. sym (descends_more e w ∙ rw (ne_eqb (vertex s e) w (λ z. n (sym z ∙ sym q)), and-false, or-false) refl))

  pub mark_at : (e v : ℕ) → v < 128 → get_or (marks_at e) v false ≡ descends_at s D e v
  mark_at e v h = table_at (descends_at s D e) 128 false false 128 v h

-- the turns of the loop, its start and its ends
pub ruleset turns = (passed_none, passed_more, passed_all, failed, marks_none, marks_more, mark_at)
