-- Lines of two numbers. Assumes nothing.
use Rattle.std.proofs.Common.{◌≡◌, ℕ, ◌+◌, cond, eqb, List, [], length, get_or, drop, Some, None, Option, sym, refl, arith, eq-eqb, ne_eqb}
use Rattle.std.proofs.Math.Logic.{by_cases}
use Rattle.std.proofs.Math.Decide.{ℕ_discrete}
use Rattle.counting.proofs.Iterate.{by_bool}
use Rattle.text.specs.Reading.{Number, number_at, starts_with, Listed, listed, unlisted, before, line_end_at, numbers_at, closed, line_at}
use Rattle.text.specs.Shapes.{with_two, pair_of}
use Rattle.text.proofs.LineEnds.{end_other}
use Rattle.text.proofs.Listing.{numbers_last, numbers_more, numbers_none}

-- a comma is no line end
comma_open : (s : List ℕ) (next : ℕ) → get_or s next 0 ≡ 44 → line_end_at s next ≡ 0
comma_open s next q = end_other s next (λ z. omega arith) (λ z. omega arith)

module _ (s : List ℕ) where
  -- three numbers are not two
  three : (a b c : ℕ) (l : Listed) → None ≡ pair_of (closed s (before a (before b (before c l))))
  unfolding closed before with_two
  three a b c unlisted = refl
  three a b c (listed vs to) = by_bool (eqb (line_end_at s to) 0) (λ q. rw q refl) (λ q. rw q refl)

  after_two : (a b at : ℕ) (r : Number) → number_at s at ≡ r → None ≡ pair_of (closed s (before a (before b (numbers_at s at))))
  unfolding closed before with_two
  after_two a b at None e = rw (numbers_none s at e) refl
  after_two a b at (Some (c, next)) e = by_cases (ℕ_discrete (get_or s next 0) 44)
      (λ q. rw (numbers_more s at c next e q) (three a b c (numbers_at s (next + 1))))
      (λ q. rw (numbers_last s at c next e q) (three a b c (listed [] next)))

  -- from the second number of a line on, whose first is a
  abbrev second_by : ℕ → Number → Option (ℕ × ℕ × ℕ)
  second_by a None = None
  second_by a (Some (b, next)) = cond (eqb (line_end_at s next) 0) None (Some (a, b, next + line_end_at s next))

  second_step : (a at : ℕ) (r : Number) → number_at s at ≡ r → pair_of (closed s (before a (numbers_at s at))) ≡ second_by a r
  unfolding closed before with_two
  second_step a at None e = rw (numbers_none s at e) refl
  second_step a at (Some (b, next)) e = by_cases (ℕ_discrete (get_or s next 0) 44)
      (λ c. rw (numbers_more s at b next e c, comma_open s next c) (sym (after_two a b (next + 1) (number_at s (next + 1)) refl)))
      (λ n. rw (numbers_last s at b next e n) (by_bool (eqb (line_end_at s next) 0) (λ z. rw z refl) (λ z. rw z refl)))

  -- the whole line
  abbrev pair_by : Number → Option (ℕ × ℕ × ℕ)
  pair_by None = None
  pair_by (Some (a, comma)) = cond (eqb (get_or s comma 0) 44) (second_by a (number_at s (comma + 1))) None

  pub pair_steps : (key : List ℕ) (at : ℕ) → pair_of (line_at key s at) ≡ cond (starts_with key (drop at s)) (pair_by (number_at s (at + length key))) None
  unfolding line_at closed with_two
  pair_steps key at = by_bool (starts_with key (drop at s)) (λ t. rw t (go (number_at s (at + length key)) refl)) (λ f. rw f refl)
    where
      go : (r : Number) → number_at s (at + length key) ≡ r → pair_of (closed s (numbers_at s (at + length key))) ≡ pair_by r
      go None e = rw (numbers_none s (at + length key) e) refl
      go (Some (a, comma)) e = by_cases (ℕ_discrete (get_or s comma 0) 44)
          (λ c. rw (numbers_more s (at + length key) a comma e c, eq-eqb (get_or s comma 0) 44 c) (second_step a (comma + 1) (number_at s (comma + 1)) refl))
          (λ n. rw (numbers_last s (at + length key) a comma e n, ne_eqb (get_or s comma 0) 44 n) (by_bool (eqb (line_end_at s comma) 0) (λ z. rw z refl) (λ z. rw z refl)))
