-- All halves come out exact: every level below 256 is computed. Assumes nothing.
use Rattle.std.proofs.Common.{◌≡◌, refl, Bool, true, false, ◌&&◌, eqb, ℕ, ◌+◌, ◌*◌, ◌<◌, ℤ, pos, negsuc, ◌-ℤ◌, suc}
use Rattle.std.proofs.Math.Bool.{beq, and-eq-true_iff}
use Rattle.std.proofs.lemmas.Bool.{agree_below, agree_below_at, eqb-true}
use lib.Ieee.{Float, nan, inf, fin, up, down, of_int, add, sub}
use lib.Ieee.Exact.{HasValue}
use Rattle.halves.specs.Halves.{half_below, half_above, Twice, BelowExactLaw, AboveExactLaw}

-- the test for `HasValue`, and for `Twice`
abbrev has_value : Float → Bool → ℕ → ℕ → Bool
has_value nan s a c = false
has_value (inf t) s a c = false
has_value (fin t m e) s a c = beq t s && eqb (m * up e * c) (a * down e)

abbrev is_twice : Float → ℤ → Bool
is_twice x (pos n) = has_value x false n 2
is_twice x (negsuc n) = has_value x true (suc n) 2

-- a float that passes has the value
by_test : (x : Float) (s : Bool) (a c : ℕ) → has_value x s a c ≡ true → HasValue x s a c
by_test nan s a c e = cc
by_test (inf t) s a c e = cc
by_test (fin t m d) s a c e =
    let (p, q) = (and-eq-true_iff (beq t s) (eqb (m * up d * c) (a * down d))).0 e in
    (same t s p, eqb-true (m * up d * c) (a * down d) q)
  where
    same : (t s : Bool) → beq t s ≡ true → t ≡ s
    same true true e = refl
    same true false e = cc
    same false true e = cc
    same false false e = refl

-- and twice it is the whole number
twice_by_test : (x : Float) (t : ℤ) → is_twice x t ≡ true → Twice x t
twice_by_test x (pos n) = by_test x false n 2
twice_by_test x (negsuc n) = by_test x true (suc n) 2

-- the test for both halves of a level
abbrev exact : ℕ → Bool
exact n = is_twice (half_below n) (pos (2 * n) -ℤ pos 1) && is_twice (half_above n) (pos (2 * n + 1))

-- it passes at each level, by computing
all_exact : agree_below exact (λ _. true) 256 ≡ true
unfolding half_below half_above sub add of_int
all_exact = refl

-- so both halves are exact
both : (n : ℕ) → n < 256 → Twice (half_below n) (pos (2 * n) -ℤ pos 1) × Twice (half_above n) (pos (2 * n + 1))
both n h =
    let (p, q) = (and-eq-true_iff (is_twice (half_below n) (pos (2 * n) -ℤ pos 1)) (is_twice (half_above n) (pos (2 * n + 1)))).0 (agree_below_at exact (λ _. true) 256 n all_exact h) in
    (twice_by_test (half_below n) (pos (2 * n) -ℤ pos 1) p, twice_by_test (half_above n) (pos (2 * n + 1)) q)

pub below_exact : BelowExactLaw
below_exact n h = (both n h).0

pub above_exact : AboveExactLaw
above_exact n h = (both n h).1
