-- Floats of which twice is a whole number are in the order of those numbers, and so the halves beside levels in the order of the levels. Assumes nothing.
use Rattle.std.proofs.Common.{◌≡◌, ◌↔◌, refl, ap, ◌∙◌, false, ltb, ℕ, suc, ◌+◌, ◌*◌, ◌≤◌, ◌<◌, ℤ, pos, negsuc, ◌-ℤ◌, mul-pos, arith}
use Rattle.std.proofs.lemmas.Bool.{lt-ltb}
use Rattle.std.proofs.lemmas.Bool.Decides.{nat_tests}
use Rattle.std.proofs.lemmas.Int.{ints}
use Rattle.std.proofs.lemmas.Float.{le_of_not-lt, lt_of_lt_of_le, lt_irrefl}
use Rattle.std.specs.Float.{◌≤ᶠ◌, NotNan}
use Rattle.std.specs.Float.Order.{lt_at}
use lib.Ieee.{Float, nan, inf, fin, up, down, lt, is_nan}
use lib.Ieee.Fits.{down_pos}
use lib.Dec.{not_T}
use lib.Signed.{lt_z, lt_z_yes, lt_z_no, clash_ℤ}
use Rattle.halves.specs.Halves.{half_below, half_above, Twice, OrderLaw}
use Rattle.halves.proofs.Exact.{below_exact, above_exact}

-- such a float is a number
number : (x : Float) (t : ℤ) → Twice x t → NotNan x
unfolding is_nan
number nan (pos n) p = p
number nan (negsuc n) p = p
number (inf s) t p = tt
number (fin s m e) t p = tt

-- a test of two numbers is that of their doubles, and of the next numbers
doubled : (a b : ℕ) → ltb (a * 2) (b * 2) ≡ ltb a b
doubled a b = grind (arith, nat_tests)

one_less : (a b : ℕ) → ltb (suc a) (suc b) ≡ ltb a b
one_less a b = grind (arith, nat_tests)

-- the test of such floats is that of the whole numbers
compared : (x y : Float) (t u : ℤ) → Twice x t → Twice y u → lt x y ≡ lt_z t u
unfolding lt
compared nan y (pos a) u p q = absurd p
compared nan y (negsuc a) u p q = absurd p
compared (inf s) y (pos a) u p q = absurd p
compared (inf s) y (negsuc a) u p q = absurd p
compared (fin s m e) nan t (pos b) p q = absurd q
compared (fin s m e) nan t (negsuc b) p q = absurd q
compared (fin s m e) (inf r) t (pos b) p q = absurd q
compared (fin s m e) (inf r) t (negsuc b) p q = absurd q
compared (fin s m e) (fin r n d) (pos a) (pos b) p q = lt_at (fin s m e) (fin r n d) a 2 b 2 (omega arith) (omega arith) p q ∙ doubled a b
compared (fin s m e) (fin r n d) (pos a) (negsuc b) (i, p) (j, q) = rw (i, j)
compared (fin s m e) (fin r n d) (negsuc a) (pos b) (i, p) (j, q) =
    rw (i, j) (lt-ltb 0 (m * up e * down d + n * up d * down e) (omega (arith, ap (λ z. z * down d) p, mul-pos (down_pos e) (down_pos d))))
compared (fin s m e) (fin r n d) (negsuc a) (negsuc b) (i, p) (j, q) =
    rw (i, j) (lt_at (fin false n d) (fin false m e) (suc b) 2 (suc a) 2 (omega arith) (omega arith) (refl, q) (refl, p) ∙ doubled (suc b) (suc a) ∙ one_less b a)

-- and so is their order
pub order_law : OrderLaw
order_law x y t u p q =
    let same : lt y x ≡ lt_z u t = compared y x u t q p in (
      λ h. lt_z_no (rw same at (not_T (lt y x) (λ l. lt_irrefl y (lt_of_lt_of_le y x y l h)))),
      λ h. le_of_not-lt y x (number y u q) (number x t p) (rw same (not_T (lt_z u t) (λ l. clash_ℤ (lt_z_yes l) h))),
    )

-- ---- the halves beside levels

-- they are numbers
pub below_number : (c : ℕ) → c < 256 → NotNan (half_below c)
below_number c h = number (half_below c) (pos (2 * c) -ℤ pos 1) (below_exact c h)

pub above_number : (c : ℕ) → c < 256 → NotNan (half_above c)
above_number c h = number (half_above c) (pos (2 * c + 1)) (above_exact c h)

-- they are in the order of their levels
pub below_order : (c d : ℕ) → c < 256 → d < 256 → (half_below c ≤ᶠ half_below d) ↔ (c ≤ d)
below_order c d h k =
    let (f, g) = order_law (half_below c) (half_below d) (pos (2 * c) -ℤ pos 1) (pos (2 * d) -ℤ pos 1) (below_exact c h) (below_exact d k) in
    (λ l. omega (arith, ints, f l), λ l. g (omega (arith, ints)))

pub above_order : (c d : ℕ) → c < 256 → d < 256 → (half_above c ≤ᶠ half_above d) ↔ (c ≤ d)
above_order c d h k =
    let (f, g) = order_law (half_above c) (half_above d) (pos (2 * c + 1)) (pos (2 * d + 1)) (above_exact c h) (above_exact d k) in
    (λ l. omega (arith, ints, f l), λ l. g (omega (arith, ints)))
