-- The line end at a place, by the bytes there. Assumes nothing.
use Rattle.std.proofs.Common.{◌≡◌, ℕ, ◌+◌, ◌≤◌, ◌≢◌, List, length, get_or, refl, arith, eq-eqb, ne_eqb}
use Rattle.std.proofs.Math.Logic.{by_cases}
use Rattle.std.proofs.Math.Decide.{ℕ_discrete}
use Rattle.text.specs.Reading.{line_end_at}
use Rattle.text.proofs.DigitLaws.{inside}

module _ (s : List ℕ) (at : ℕ) where
  pub end_alone : get_or s at 0 ≡ 10 → line_end_at s at ≡ 1
  unfolding line_end_at
  end_alone e = rw (eq-eqb (get_or s at 0) 10 e) refl

  pub end_after_13 : get_or s at 0 ≡ 13 → get_or s (at + 1) 0 ≡ 10 → line_end_at s at ≡ 2
  unfolding line_end_at
  end_after_13 e f = rw (ne_eqb (get_or s at 0) 10 (λ z. omega arith), eq-eqb (get_or s at 0) 13 e, eq-eqb (get_or s (at + 1) 0) 10 f) refl

  -- any other byte, and a 13 that no 10 follows, end no line
  pub end_other : get_or s at 0 ≢ 10 → get_or s at 0 ≢ 13 → line_end_at s at ≡ 0
  unfolding line_end_at
  end_other n m = rw (ne_eqb (get_or s at 0) 10 n, ne_eqb (get_or s at 0) 13 m) refl

  pub end_13 : get_or s at 0 ≡ 13 → get_or s (at + 1) 0 ≢ 10 → line_end_at s at ≡ 0
  unfolding line_end_at
  end_13 e n = rw (ne_eqb (get_or s at 0) 10 (λ z. omega arith), eq-eqb (get_or s at 0) 13 e, ne_eqb (get_or s (at + 1) 0) 10 n) refl

  -- so where there is a line end, it is one of the two
  pub data Ended : Type 0 where
    by_10 : get_or s at 0 ≡ 10 → line_end_at s at ≡ 1 → Ended
    by_13_10 : get_or s at 0 ≡ 13 → get_or s (at + 1) 0 ≡ 10 → line_end_at s at ≡ 2 → Ended

  pub ended_by : line_end_at s at ≢ 0 → Ended
  ended_by n = by_cases (ℕ_discrete (get_or s at 0) 10) (λ e. by_10 e (end_alone e))
      (λ m. by_cases (ℕ_discrete (get_or s at 0) 13)
      (λ e. by_cases (ℕ_discrete (get_or s (at + 1) 0) 10) (λ f. by_13_10 e f (end_after_13 e f)) (λ k. absurd (n (end_13 e k))))
      (λ k. absurd (n (end_other m k))))

  -- a line end stands in the text
  pub line_end_inside : line_end_at s at ≢ 0 → at + line_end_at s at ≤ length s
  line_end_inside n = go (ended_by n)
    where
      go : Ended → at + line_end_at s at ≤ length s
      go (by_10 e l) = omega (arith, inside s at (omega arith))
      go (by_13_10 e f l) = omega (arith, inside s (at + 1) (omega arith))

-- a law for each answer of line_end, and that its places are in the text
pub ruleset line_ends = (end_alone, end_after_13, end_other, end_13, inside)
