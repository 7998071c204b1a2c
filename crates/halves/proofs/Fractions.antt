-- A float of which twice is a whole number, beside a fraction; the halves beside levels so. Assumes nothing.
use Rattle.std.proofs.Common.{◌≡◌, ◌↔◌, refl, ap, true, false, true≢false, suc, ℕ, ◌+◌, ◌*◌, ◌≤◌, ◌<◌, ℤ, pos, negsuc, ◌+ℤ◌, ◌-ℤ◌, mul-le-mul_right, le_of_mul-le-mul_right, arith}
use Rattle.std.proofs.lemmas.Int.{ints}
use lib.Ieee.{Float, nan, inf, fin, up, down}
use lib.Ieee.Fits.{down_pos}
use Rattle.halves.specs.Halves.{half_below, half_above, Twice, Is, AtMost, AtLeast}
use Rattle.halves.proofs.Exact.{below_exact, above_exact}

-- x is (t - 1) / 2 beside the fraction a / c
pub record Compared (x : Float) (t a c : ℕ) : Type 0 where
  pub is : Is x a c ↔ (2 * a + c ≡ t * c)
  pub at_most : AtMost x a c ↔ (t * c ≤ 2 * a + c)
  pub at_least : AtLeast x a c ↔ (2 * a + c ≤ t * c)

-- two numbers are in the order of the halves that they are, in parts of u
ordered : (p q r s u : ℕ) → 0 < u → p * 2 ≡ r * u → q * 2 ≡ s * u → (p ≤ q) ↔ (r ≤ s)
ordered p q r s u h e f = (
  λ l. let k : r * u ≤ s * u = omega arith in le_of_mul-le-mul_right k h,
  λ l. omega (arith, mul-le-mul_right u l),
)

-- it is n / 2
positive : (m : ℕ) (e : ℤ) (n a c : ℕ) → m * up e * 2 ≡ n * down e → Compared (fin false m e) (suc n) a c
positive m e n a c p =
    let x : m * up e * c * 2 ≡ n * c * down e = omega (arith, ap (λ z. z * c) p) in
    let y : a * down e * 2 ≡ 2 * a * down e = omega arith in
    let (m₀, m₁) = ordered (m * up e * c) (a * down e) (n * c) (2 * a) (down e) (down_pos e) x y in
    let (l₀, l₁) = ordered (a * down e) (m * up e * c) (2 * a) (n * c) (down e) (down_pos e) y x in
    record {
      is = (λ q. omega (arith, m₀ (omega (arith, q.1)), l₀ (omega (arith, q.1))), λ q. (refl, omega (arith, m₁ (omega arith), l₁ (omega arith))));
      at_most = (λ l. omega (arith, m₀ l), λ l. m₁ (omega arith));
      at_least = (λ l. omega (arith, l₀ l), λ l. l₁ (omega arith));
    }

-- it is -1/2
negative : (m : ℕ) (e : ℤ) (a c : ℕ) → 0 < c → m * up e * 2 ≡ 1 * down e → Compared (fin true m e) 0 a c
negative m e a c h p = record {
  is = (λ q. absurd (true≢false q.0), λ q. absurd (omega arith));
  at_most = (λ _. omega arith, λ _. tt);
  at_least = (λ q. absurd (omega (arith, ap (λ z. z * up e * 2) q.0, down_pos e)), λ q. absurd (omega arith));
}

-- twice it is the whole number t - 1
compared : (x : Float) (z : ℤ) (t a c : ℕ) → 0 < c → Twice x z → z +ℤ pos 1 ≡ pos t → Compared x t a c
compared nan (pos n) t a c h p q = absurd p
compared nan (negsuc n) t a c h p q = absurd p
compared (inf s) (pos n) t a c h p q = absurd p
compared (inf s) (negsuc n) t a c h p q = absurd p
compared (fin s m e) (pos n) t a c h (i, p) q = let k : t ≡ suc n = omega (arith, ints) in rw (i, k) (positive m e n a c p)
compared (fin s m e) (negsuc n) t a c h (i, p) q =
    let k : t ≡ 0 = omega (arith, ints) in
    let l : n ≡ 0 = omega (arith, ints) in
    rw (i, k) (negative m e a c h (rw l at p))

-- half a step below a level is (2 level - 1) / 2, and half a step above it (2 level + 1) / 2
pub below_compared : (level : ℕ) → level < 256 → (a c : ℕ) → 0 < c → Compared (half_below level) (2 * level) a c
below_compared level h a c k = compared (half_below level) (pos (2 * level) -ℤ pos 1) (2 * level) a c k (below_exact level h) (omega (arith, ints))

pub above_compared : (level : ℕ) → level < 256 → (a c : ℕ) → 0 < c → Compared (half_above level) (2 * level + 2) a c
above_compared level h a c k = compared (half_above level) (pos (2 * level + 1)) (2 * level + 2) a c k (above_exact level h) (omega (arith, ints))
