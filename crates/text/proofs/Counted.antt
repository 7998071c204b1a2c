-- A line by the numbers that the reading call counted. Assumes nothing.
use Rattle.std.proofs.Common.{◌≡◌, ℕ, cond, eqb, [], ◌∷◌, length, get_or, Some, None, Option, refl, arith, ne_eqb}
use Rattle.text.specs.declared.Numbers.{Numbers}
use Rattle.text.specs.Reading.{Listed, numbers_of}
use Rattle.text.specs.Reading.Listed.{listed, unlisted}
use Rattle.text.specs.Shapes.{with_one, with_two, with_four, pair_of}

abbrev pub one_by : {A : Type 0} → Option (Numbers × ℕ) → A → (ℕ → ℕ → A) → A
one_by None bad good = bad
one_by (Some (r, next)) bad good = cond (eqb r.count 1) (good (get_or r.values 0 0) next) bad

abbrev pub two_by : {A : Type 0} → Option (ℕ × ℕ × ℕ) → A → (ℕ → ℕ → ℕ → A) → A
two_by None bad good = bad
two_by (Some (a, b, next)) bad good = good a b next

abbrev pub four_by : {A : Type 0} → Option (Numbers × ℕ) → A → (ℕ → ℕ → ℕ → ℕ → ℕ → A) → A
four_by None bad good = bad
four_by (Some (r, next)) bad good = cond (eqb r.count 4) (good (get_or r.values 0 0) (get_or r.values 1 0) (get_or r.values 2 0) (get_or r.values 3 0) next) bad

module _ {A : Type 0} (bad : A) where
  pub one_counted : (good : ℕ → ℕ → A) (l : Listed) → with_one l bad good ≡ one_by (numbers_of l) bad good
  unfolding numbers_of with_one
  one_counted good unlisted = refl
  one_counted good (listed [] next) = refl
  one_counted good (listed (a ∷ []) next) = refl
  one_counted good (listed (a ∷ b ∷ vs) next) = rw (ne_eqb (length (a ∷ b ∷ vs)) 1 (λ e. omega arith)) refl

  pub two_counted : (good : ℕ → ℕ → ℕ → A) (l : Listed) → with_two l bad good ≡ two_by (pair_of l) bad good
  unfolding with_two
  two_counted good unlisted = refl
  two_counted good (listed [] next) = refl
  two_counted good (listed (a ∷ []) next) = refl
  two_counted good (listed (a ∷ b ∷ []) next) = refl
  two_counted good (listed (a ∷ b ∷ c ∷ vs) next) = refl

  pub four_counted : (good : ℕ → ℕ → ℕ → ℕ → ℕ → A) (l : Listed) → with_four l bad good ≡ four_by (numbers_of l) bad good
  unfolding numbers_of with_four
  four_counted good unlisted = refl
  four_counted good (listed [] next) = refl
  four_counted good (listed (a ∷ []) next) = refl
  four_counted good (listed (a ∷ b ∷ []) next) = refl
  four_counted good (listed (a ∷ b ∷ c ∷ []) next) = refl
  four_counted good (listed (a ∷ b ∷ c ∷ d ∷ []) next) = refl
  four_counted good (listed (a ∷ b ∷ c ∷ d ∷ x ∷ vs) next) = rw (ne_eqb (length (a ∷ b ∷ c ∷ d ∷ x ∷ vs)) 4 (λ e. omega arith)) refl
