-- The numbers of an `around=` line, read one after the other, each checked and linked to the one before. Assumes nothing.
use Rattle.std.proofs.Common.{◌≡◌, ℕ, ◌+◌, ◌<◌, ◌≤◌, Bool, true, false, cond, not, eqb, ltb, List, [], ◌∷◌, length, get_or, drop, set, Some, None, Ok, Err, Option, Result, sym, refl, ap, ◌∙◌, arith, length-set, get_or-set_other, get_or-set_same, ltb-true, eq-eqb, ne_eqb, eqb-true}
use Rattle.std.proofs.Math.Logic.{by_cases}
use Rattle.std.proofs.Math.Bool.{beq, and-eq-true_iff, and-false}
use Rattle.std.proofs.Math.Decide.{ℕ_discrete, dec_lt}
use Rattle.std.proofs.Math.Seq.{set_out}
use Rattle.clauses.specs.Darts.{touches_of, dart_of}
use Rattle.counting.proofs.Iterate.{by_bool}
use Rattle.text.specs.declared.Numbers.{Numbers}
use Rattle.text.specs.Reading.{Number, Listed, before, number_at, numbers_at, starts_with, line_end_at, closed, line_at, numbers_of}
use Rattle.text.specs.Reading.Listed.{listed, unlisted}
use Rattle.text.proofs.Listing.{numbers_none, numbers_last, numbers_more}
use Rattle.text.proofs.Closing.{keyed, keyless}
use Rattle.answers.specs.declared.Refusal.{Refusal}
use Rattle.answers.specs.declared.Refusal.TheVariants.{BadLayout}
use Rattle.clauses.specs.declared.Sheet.{Sheet}
use Rattle.text.specs.Keys.{around_key}
use Rattle.load.specs.Inner.{Joining, fits_of, edge_of, marks_of, rest_at, is_listed, refusal_of, fit_from, linked_from, linked, Ringed, unringed, ringed_by, end_of, linked_on, ring_from}

-- ---- the numbers after one that ends at a place

module _ (text : List ℕ) (at : ℕ) where
  rest_last : (get_or text at 0 ≡ 44 → ⊥) → rest_at text at ≡ listed [] at
  unfolding rest_at
  rest_last n = rw (ne_eqb (get_or text at 0) 44 n) refl

  rest_more : get_or text at 0 ≡ 44 → rest_at text at ≡ numbers_at text (at + 1)
  unfolding rest_at
  rest_more e = rw (eq-eqb (get_or text at 0) 44 e) refl

numbers_rest : (text : List ℕ) (at w next : ℕ) → number_at text at ≡ Some (w, next) → numbers_at text at ≡ before w (rest_at text next)
unfolding before
numbers_rest text at w next e =
    by_cases (ℕ_discrete (get_or text next 0) 44)
    (λ c. numbers_more text at w next e c ∙ ap (before w) (sym (rest_more text next c)))
    (λ n. numbers_last text at w next e n ∙ ap (before w) (sym (rest_last text next n)))

-- ---- the shape of the rest of a line, and the end of a line

module _ (text : List ℕ) where
  end_shaped : (vs : List ℕ) (at : ℕ) → is_listed (closed text (listed vs at)) ≡ not (eqb (line_end_at text at) 0)
  unfolding is_listed closed
  end_shaped vs at = by_bool (eqb (line_end_at text at) 0) (λ b. rw b refl) (λ b. rw b refl)

  abbrev shaped_by : Option (Numbers × ℕ) → Bool
  shaped_by None = false
  shaped_by (Some (r, next)) = not (eqb (line_end_at text next) 0)

  listed_shaped : (l : Listed) → is_listed (closed text l) ≡ shaped_by (numbers_of l)
  unfolding is_listed closed numbers_of
  listed_shaped (listed vs next) = end_shaped vs next
  listed_shaped unlisted = refl

  pub shape_steps : (at : ℕ) → is_listed (closed text (rest_at text at)) ≡ cond (eqb (get_or text at 0) 44) (shaped_by (numbers_of (numbers_at text (at + 1)))) (not (eqb (line_end_at text at) 0))
  shape_steps at = by_cases (ℕ_discrete (get_or text at 0) 44)
      (λ c. rw (rest_more text at c, eq-eqb (get_or text at 0) 44 c) (listed_shaped (numbers_at text (at + 1))))
      (λ n. rw (rest_last text at n, ne_eqb (get_or text at 0) 44 n) (end_shaped [] at))

-- ---- one edge of the line

module _ (s : Sheet) (v : ℕ) where
  -- whether it may stand there, by whether its tail and its head stand there
  pub fits_steps : (seen : List ℕ) (w : ℕ) → Joining s.edges s.tails s.heads
      → fits_of s v seen w ≡ cond (ltb w s.edges) (cond (eqb (get_or seen w 0) (v + 1)) false (not (beq (eqb (get_or s.tails w 0) v) (eqb (get_or s.heads w 0) v)))) false
  unfolding fits_of touches_of
  fits_steps seen w joins = by_bool (ltb w s.edges)
      (λ l. by_bool (eqb (get_or seen w 0) (v + 1))
      (λ q. rw (l, q) (and-false (touches_of s.tails s.heads w v)))
      (λ q. by_bool (eqb (get_or s.tails w 0) v)
      (λ a. by_bool (eqb (get_or s.heads w 0) v)
      (λ b. absurd ((joins w (ltb-true w s.edges l)).2 (eqb-true (get_or s.tails w 0) v a ∙ sym (eqb-true (get_or s.heads w 0) v b))))
      (λ b. rw (l, q, a, b) refl))
      (λ a. by_bool (eqb (get_or s.heads w 0) v) (λ b. rw (l, q, a, b) refl) (λ b. rw (l, q, a, b) refl))))
      (λ l. rw l refl)

  pub fits_below : (seen : List ℕ) (w : ℕ) → fits_of s v seen w ≡ true → w < s.edges
  unfolding fits_of
  fits_below seen w t = ltb-true w s.edges ((and-eq-true_iff (ltb w s.edges) _).0 t).0

  -- ---- the marks

  module _ (seen : List ℕ) where
    marked_at : (w k : ℕ) → get_or seen k 0 ≤ v + 1 → get_or (set seen w (v + 1)) k 0 ≤ v + 1
    marked_at w k h =
        by_cases (ℕ_discrete k w)
        (λ e. by_cases (dec_lt w (length seen)) (λ l. rw (e, get_or-set_same seen w (v + 1) 0 l) (omega arith)) (λ l. rw (set_out seen w (v + 1) (omega arith)) h))
        (λ n. rw (get_or-set_other seen w k (v + 1) 0 n) h)

    pub marks_kept : (r : Number) (k : ℕ) → get_or seen k 0 ≤ v + 1 → get_or (marks_of s v seen r) k 0 ≤ v + 1
    unfolding marks_of
    marks_kept None k h = h
    marks_kept (Some (w, next)) k h = by_bool (fits_of s v seen w) (λ e. rw e (marked_at w k h)) (λ e. rw e h)

    pub marks_length : (r : Number) → length (marks_of s v seen r) ≡ length seen
    unfolding marks_of
    marks_length None = refl
    marks_length (Some (w, next)) = by_bool (fits_of s v seen w) (λ e. rw e (length-set seen w (v + 1))) (λ e. rw e refl)

  -- ---- from a place of the line on: one edge more says the same of the whole line

  module _ (text : List ℕ) (degree : ℕ) where
    pub start_steps : (start : ℕ) (seen nexts : List ℕ)
        → ring_from degree s v 0 0 0 seen nexts (line_at around_key text start)
        ≡ cond (starts_with around_key (drop start text)) (ring_from degree s v 0 0 0 seen nexts (closed text (numbers_at text (start + 7)))) (unringed BadLayout)
    unfolding ring_from
    start_steps start seen nexts = by_bool (starts_with around_key (drop start text))
        (λ t. rw (keyed text false around_key start t, t) refl)
        (λ f. rw (keyless text false around_key start f, f) refl)

    -- what an edge at a place makes of the line, behind no other and behind `count` others
    abbrev begun : List ℕ → Result (ℕ × ℕ) Refusal → List ℕ → Ringed
    begun nexts (Err a) marked = unringed a
    begun nexts (Ok (dart, next)) marked = ring_from degree s v 1 dart dart marked nexts (closed text (rest_at text next))

    abbrev went_on : (count first last : ℕ) → List ℕ → Result (ℕ × ℕ) Refusal → List ℕ → Ringed
    went_on count first last nexts (Err a) marked = unringed a
    went_on count first last nexts (Ok (dart, next)) marked = ring_from degree s v (count + 1) first dart marked (set nexts last dart) (closed text (rest_at text next))

    module _ (count first last : ℕ) (seen nexts : List ℕ) (w : ℕ) where
      from_unfit : fits_of s v seen w ≡ false → (l : Listed) → ring_from degree s v count first last seen nexts (closed text (before w l)) ≡ unringed (refusal_of (closed text l))
      unfolding ring_from closed before is_listed refusal_of fit_from
      from_unfit f unlisted = refl
      from_unfit f (listed ws next) = by_bool (eqb (line_end_at text next) 0) (λ b. rw b refl) (λ b. rw (b, f) refl)

      from_first : fits_of s v seen w ≡ true → (l : Listed)
          → ring_from degree s v 0 first last seen nexts (closed text (before w l)) ≡ ring_from degree s v 1 (dart_of s.tails w v) (dart_of s.tails w v) (set seen w (v + 1)) nexts (closed text l)
      unfolding ring_from closed before fit_from linked_on linked
      from_first t unlisted = refl
      from_first t (listed ws next) =
          let n : 0 + length (w ∷ ws) ≡ 1 + length ws = omega arith in
          by_bool (eqb (line_end_at text next) 0) (λ b. rw b refl) (λ b. rw (b, t, n) refl)

      from_next : (count ≡ 0 → ⊥) → fits_of s v seen w ≡ true → (l : Listed)
          → ring_from degree s v count first last seen nexts (closed text (before w l)) ≡ ring_from degree s v (count + 1) first (dart_of s.tails w v) (set seen w (v + 1)) (set nexts last (dart_of s.tails w v)) (closed text l)
      unfolding ring_from closed before fit_from linked_on linked_from
      from_next m t unlisted = refl
      from_next m t (listed ws next) =
          let n : count + length (w ∷ ws) ≡ count + 1 + length ws = omega arith in
          by_bool (eqb (line_end_at text next) 0) (λ b. rw b refl) (λ b. rw (b, t, n, ne_eqb count 0 m, ne_eqb (count + 1) 0 (λ z. omega arith)) refl)

    module _ (seen nexts : List ℕ) where
      pub first_steps : (at : ℕ) → ring_from degree s v 0 0 0 seen nexts (closed text (numbers_at text at)) ≡ begun nexts (edge_of text s v seen (number_at text at)) (marks_of s v seen (number_at text at))
      unfolding edge_of marks_of ring_from closed
      first_steps at = go (number_at text at) refl
        where
          go : (n : Number) → number_at text at ≡ n → ring_from degree s v 0 0 0 seen nexts (closed text (numbers_at text at)) ≡ begun nexts (edge_of text s v seen n) (marks_of s v seen n)
          go None e = rw (numbers_none text at e) refl
          go (Some (w, next)) e = by_bool (fits_of s v seen w)
              (λ t. rw (numbers_rest text at w next e, t) (from_first 0 0 0 seen nexts w t (rest_at text next)))
              (λ f. rw (numbers_rest text at w next e, f) (from_unfit 0 0 0 seen nexts w f (rest_at text next)))

      module _ (count first last : ℕ) where
        -- a comma and one edge more
        pub next_steps : (at : ℕ) → (count ≡ 0 → ⊥) → get_or text at 0 ≡ 44
            → ring_from degree s v count first last seen nexts (closed text (rest_at text at)) ≡ went_on count first last nexts (edge_of text s v seen (number_at text (at + 1))) (marks_of s v seen (number_at text (at + 1)))
        unfolding edge_of marks_of ring_from closed
        next_steps at m c = rw (rest_more text at c) (go (number_at text (at + 1)) refl)
          where
            go : (n : Number) → number_at text (at + 1) ≡ n → ring_from degree s v count first last seen nexts (closed text (numbers_at text (at + 1))) ≡ went_on count first last nexts (edge_of text s v seen n) (marks_of s v seen n)
            go None e = rw (numbers_none text (at + 1) e) refl
            go (Some (w, next)) e = by_bool (fits_of s v seen w)
                (λ t. rw (numbers_rest text (at + 1) w next e, t) (from_next count first last seen nexts w m t (rest_at text next)))
                (λ f. rw (numbers_rest text (at + 1) w next e, f) (from_unfit count first last seen nexts w f (rest_at text next)))

        -- a comma and an edge that may stand there
        pub next_line : (at dart next : ℕ) → (count ≡ 0 → ⊥) → get_or text at 0 ≡ 44 → Ok (dart, next) ≡ edge_of text s v seen (number_at text (at + 1))
            → ring_from degree s v (count + 1) first dart (marks_of s v seen (number_at text (at + 1))) (set nexts last dart) (closed text (rest_at text next)) ≡ ring_from degree s v count first last seen nexts (closed text (rest_at text at))
        next_line at dart next m c e = sym (next_steps at m c ∙ rw (← e) refl)

        -- a comma and an edge that may not stand there
        pub next_refused : (at : ℕ) (r : Refusal) → (count ≡ 0 → ⊥) → get_or text at 0 ≡ 44 → Err r ≡ edge_of text s v seen (number_at text (at + 1))
            → unringed r ≡ ring_from degree s v count first last seen nexts (closed text (rest_at text at))
        next_refused at r m c e = sym (next_steps at m c ∙ rw (← e) refl)

        -- the line's end
        pub end_steps : (at : ℕ) → (count ≡ 0 → ⊥) → (get_or text at 0 ≡ 44 → ⊥)
            → ring_from degree s v count first last seen nexts (closed text (rest_at text at))
            ≡ ringed_by (set nexts last first) (end_of text at count degree)
        unfolding ring_from closed fit_from linked_on linked_from
        end_steps at m n =
            let z : count + 0 ≡ count = omega arith in
            rw (rest_last text at n) (by_bool (eqb (line_end_at text at) 0) (λ b. rw b refl) (λ b. by_bool (eqb count degree) (λ e. rw (b, z, e, ne_eqb count 0 m) refl) (λ e. rw (b, z, e) refl)))

pub ruleset ring_steps = (start_steps, first_steps, end_steps, marks_kept, marks_length)
