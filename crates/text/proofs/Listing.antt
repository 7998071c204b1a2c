-- Numbers with a comma between, read one after the other. Assumes nothing.
use Rattle.std.proofs.Common.{◌≡◌, ℕ, zero, suc, ◌+◌, ◌<◌, ◌≤◌, cond, eqb, List, [], ◌∷◌, length, get_or, set, Some, None, Option, sym, refl, ap, ◌∙◌, zero-add, add-one, arith, length-set, eq-eqb, ne_eqb}
use Rattle.std.proofs.Math.Logic.{by_cases}
use Rattle.std.proofs.Math.Decide.{ℕ_discrete}
use Rattle.std.proofs.Math.ListN.{get_or-eq_default}
use Rattle.std.proofs.Math.Seq.{sets, set_out}
use Rattle.text.specs.declared.Numbers.{Numbers}
use Rattle.counting.specs.Choice.{pick}
use Rattle.text.specs.Reading.{Number, number_at, Listed, listed, unlisted, before, after_number, numbers_from, numbers_at, numbers_of}
use Rattle.text.proofs.DigitLaws.{low_digit, no_digit, number_ahead}

module _ (s : List ℕ) where
  -- past the end there is no number
  past : (at : ℕ) → length s ≤ at → number_at s at ≡ None
  past at h = sym (no_digit s at _ refl (omega (arith, low_digit (get_or s at 0) (omega (arith, get_or-eq_default s 0 h)))))

  -- what follows a number is read at a later place
  later : (at : ℕ) (r : Number) → number_at s at ≡ r → (f g : ℕ → Listed) → ((i : ℕ) → at < i → f i ≡ g i) → after_number s r f ≡ after_number s r g
  unfolding after_number
  later at None e f g w = refl
  later at (Some (v, next)) e f g w =
      ap (λ (l : Listed). pick (eqb (get_or s next 0) 44) (λ _. before v l) (λ _. listed (v ∷ []) next)) (w (next + 1) (omega (arith, (number_ahead s at v next e).0)))

  -- the bound on how many are read does not matter
  enough : (n m at : ℕ) → length s ≤ at + n → length s ≤ at + m → numbers_from n s at ≡ numbers_from m s at
  unfolding numbers_from after_number
  enough zero zero at h k = refl
  enough zero (suc m) at h k = rw (past at (omega arith))
  enough (suc n) zero at h k = rw (past at (omega arith))
  enough (suc n) (suc m) at h k = later at (number_at s at) refl (λ i. numbers_from n s i) (λ i. numbers_from m s i) (λ i l. enough n m i (omega arith) (omega arith))

  -- a number, and what follows it
  pub numbers_step : (at : ℕ) → numbers_at s at ≡ after_number s (number_at s at) (λ i. numbers_at s i)
  unfolding numbers_from after_number
  numbers_step at = go (length s) refl
    where
      go : (n : ℕ) → length s ≡ n → numbers_from n s at ≡ after_number s (number_at s at) (λ i. numbers_from n s i)
      go zero e = rw (past at (omega arith))
      go (suc n) e = later at (number_at s at) refl (λ i. numbers_from n s i) (λ i. numbers_from (suc n) s i) (λ i l. enough n (suc n) i (omega arith) (omega arith))

  module _ (at v next : ℕ) (e : number_at s at ≡ Some (v, next)) where
    pub numbers_last : (get_or s next 0 ≡ 44 → ⊥) → numbers_at s at ≡ listed (v ∷ []) next
    unfolding after_number
    numbers_last n = numbers_step at ∙ rw (e, ne_eqb (get_or s next 0) 44 n)

    pub numbers_more : get_or s next 0 ≡ 44 → numbers_at s at ≡ before v (numbers_at s (next + 1))
    unfolding after_number
    numbers_more c = numbers_step at ∙ rw (e, eq-eqb (get_or s next 0) 44 c)

  pub numbers_none : (at : ℕ) → number_at s at ≡ None → numbers_at s at ≡ unlisted
  unfolding after_number
  numbers_none at e = numbers_step at ∙ rw e

-- the answer where so many numbers were read before, of which `values` has the first
pub resume : ℕ → List ℕ → Listed → Option (Numbers × ℕ)
resume count values (listed vs next) = Some (record { count = count + length vs; values = sets values count vs }, next)
resume count values unlisted = None

sets_out : (l : List ℕ) (i : ℕ) (vs : List ℕ) → length l ≤ i → sets l i vs ≡ l
sets_out l i [] h = refl
sets_out l i (v ∷ vs) h = sets_out (set l i v) (suc i) vs (omega (arith, length-set l i v)) ∙ set_out l i v h

first_four : (vs : List ℕ) → sets (0 ∷ 0 ∷ 0 ∷ 0 ∷ []) 0 vs ≡ get_or vs 0 0 ∷ get_or vs 1 0 ∷ get_or vs 2 0 ∷ get_or vs 3 0 ∷ []
first_four [] = refl
first_four (a ∷ []) = refl
first_four (a ∷ b ∷ []) = refl
first_four (a ∷ b ∷ c ∷ []) = refl
first_four (a ∷ b ∷ c ∷ d ∷ vs) = sets_out (a ∷ b ∷ c ∷ d ∷ []) 4 vs (omega arith)

pub resume_none : (l : Listed) → resume 0 (0 ∷ 0 ∷ 0 ∷ 0 ∷ []) l ≡ numbers_of l
unfolding resume numbers_of
resume_none (listed vs next) = rw (zero-add, first_four vs)
resume_none unlisted = refl

resume_before : (count v : ℕ) (values : List ℕ) (l : Listed) → resume count values (before v l) ≡ resume (count + 1) (set values count v) l
unfolding resume before
resume_before count v values (listed vs next) =
    let n : count + suc (length vs) ≡ count + 1 + length vs = omega arith in
    rw (n, add-one count)
resume_before count v values unlisted = refl

-- one turn of the loop that reads them
abbrev pub resume_by : List ℕ → ℕ → List ℕ → Number → Option (Numbers × ℕ)
resume_by s count values None = None
resume_by s count values (Some (v, next)) = cond (eqb (get_or s next 0) 44) (resume (count + 1) (set values count v) (numbers_at s (next + 1))) (Some (record { count = count + 1; values = set values count v }, next))

pub resume_step : (s : List ℕ) (at count : ℕ) (values : List ℕ) → resume count values (numbers_at s at) ≡ resume_by s count values (number_at s at)
unfolding resume
resume_step s at count values = go (number_at s at) refl
  where
    go : (n : Number) → number_at s at ≡ n → resume count values (numbers_at s at) ≡ resume_by s count values n
    go None e = rw (numbers_none s at e) refl
    go (Some (v, next)) e = by_cases (ℕ_discrete (get_or s next 0) 44)
        (λ c. rw (eq-eqb (get_or s next 0) 44 c, numbers_more s at v next e c) (resume_before count v values (numbers_at s (next + 1))))
        (λ n. rw (ne_eqb (get_or s next 0) 44 n, numbers_last s at v next e n) refl)

pub ruleset steps = (resume_none, resume_step)
