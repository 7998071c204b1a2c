-- Cases on a Bool, laws of `iter`, the place where a test on the way changes, and a bound on finitely many values. Assumes nothing.
use Rattle.std.proofs.Common.{◌≡◌, refl, sym, ap, ◌∙◌, ◌≢◌, ◌⊎◌, inl, inr, Bool, true, false, not, true≢false, ℕ, zero, suc, ◌+◌, ◌*◌, ◌≤◌, ◌<◌, le_refl, zero-add, suc-add, zero-mul, suc-mul, arith}
use Rattle.std.proofs.Math.Logic.{by_cases}
use Rattle.std.proofs.lemmas.Bool.{false≢true}
use Rattle.std.proofs.Math.Decide.{ℕ_discrete}
use Rattle.counting.specs.Orbits.{iter}

-- ---- cases on a Bool

-- it is true or false, with the equation in hand
pub by_bool : {A : Type 0} (b : Bool) → (b ≡ true → A) → (b ≡ false → A) → A
by_bool true t f = t refl
by_bool false t f = f refl

-- it is not both
pub clash : {A : Type 0} {b : Bool} → b ≡ true → b ≡ false → A
clash t f = absurd (true≢false (sym t ∙ f))

pub either : (x b : Bool) → (x ≡ b) ⊎ (x ≡ not b)
either true true = inl refl
either true false = inr refl
either false true = inr refl
either false false = inl refl

not_fixed : (b : Bool) → b ≢ not b
not_fixed true e = true≢false e
not_fixed false e = false≢true e

-- ---- iteration

-- one more step, at the start
pub iter_shift : (φ : ℕ → ℕ) (i d : ℕ) → iter φ i (φ d) ≡ φ (iter φ i d)
iter_shift φ zero d = refl
iter_shift φ (suc i) d = ap φ (iter_shift φ i d)

pub iter_add : (φ : ℕ → ℕ) (i j d : ℕ) → iter φ (i + j) d ≡ iter φ i (iter φ j d)
iter_add φ zero j d = ap (λ x. iter φ x d) (zero-add j)
iter_add φ (suc i) j d = ap (λ x. iter φ x d) (suc-add i j) ∙ ap φ (iter_add φ i j d)

-- what each step keeps, all keep
pub iter_keeps : (φ : ℕ → ℕ) (Good : ℕ → Type 0) → ((x : ℕ) → Good x → Good (φ x)) → (i d : ℕ) → Good d → Good (iter φ i d)
iter_keeps φ Good keep zero d g = g
iter_keeps φ Good keep (suc i) d g = keep (iter φ i d) (iter_keeps φ Good keep i d g)

-- where r steps lead back to s, fewer than r steps lead to all that is reached from it
pub around : (φ : ℕ → ℕ) (s r : ℕ) → 0 < r → iter φ r s ≡ s → (k : ℕ) → (j : ℕ) × (j < r) × (iter φ j s ≡ iter φ k s)
around φ s r h back zero = (zero, h, refl)
around φ s r h back (suc k) = let (j, l, q) = around φ s r h back k in
    by_cases (ℕ_discrete (suc j) r) (λ e. (zero, h, sym back ∙ ap (λ x. iter φ x s) (sym e) ∙ ap φ q)) (λ e. (suc j, omega arith, ap φ q))

-- the multiples of a period
pub iter_period : (φ : ℕ → ℕ) (p d : ℕ) → iter φ p d ≡ d → (k : ℕ) → iter φ (k * p) d ≡ d
iter_period φ p d e zero = ap (λ x. iter φ x d) (zero-mul p)
iter_period φ p d e (suc k) =
    ap (λ x. iter φ x d) (suc-mul k p) ∙ iter_add φ (k * p) p d ∙ ap (iter φ (k * p)) e ∙ iter_period φ p d e k

-- ---- where a walk turns

-- the test is b at e and no more after the next step
abbrev pub Turn : (ℕ → ℕ) → (ℕ → Bool) → Bool → (ℕ → Type 0) → Type 0
Turn step test b Good = (e : ℕ) × Good e × (test e ≡ b) × (test (step e) ≡ not b)

module _ (step : ℕ → ℕ) (test : ℕ → Bool) (b : Bool) (Good : ℕ → Type 0) (keep : (x : ℕ) → Good x → Good (step x)) where
  -- along a walk of i steps from where the test is b to where it is not
  pub turn_between : (i d : ℕ) → Good d → test d ≡ b → test (iter step i d) ≡ not b → Turn step test b Good
  turn_between zero d g t u = absurd (not_fixed b (sym t ∙ u))
  turn_between (suc i) d g t u = go (either (test (iter step i d)) b) (turn_between i d g t)
    where
      go : (test (iter step i d) ≡ b) ⊎ (test (iter step i d) ≡ not b)
          → (test (iter step i d) ≡ not b → Turn step test b Good) → Turn step test b Good
      go (inl same) sooner = (iter step i d, iter_keeps step Good keep i d g, same, u)
      go (inr other) sooner = sooner other

  -- from where the test is b, if a number falls with each step taken where the test is b
  module _ (size : ℕ → ℕ) (falls : (x : ℕ) → Good x → test x ≡ b → size (step x) < size x) where
    turn_within : (k d : ℕ) → size d ≤ k → Good d → test d ≡ b → Turn step test b Good
    turn_within zero d h g t = absurd (omega (arith, falls d g t))
    turn_within (suc k) d h g t = go (either (test (step d)) b) (turn_within k (step d) (omega (arith, falls d g t)) (keep d g))
      where
        go : (test (step d) ≡ b) ⊎ (test (step d) ≡ not b) → (test (step d) ≡ b → Turn step test b Good) → Turn step test b Good
        go (inl same) later = later same
        go (inr other) later = (d, g, t, other)

    pub turn_by_size : (d : ℕ) → Good d → test d ≡ b → Turn step test b Good
    turn_by_size d g t = turn_within (size d) d (le_refl (size d)) g t

-- ---- a bound on the values of g below n

unfoldable pub total : (ℕ → ℕ) → ℕ → ℕ
total g zero = 0
total g (suc n) = g n + total g n

pub total_bounds : (g : ℕ → ℕ) (n d : ℕ) → d < n → g d ≤ total g n
unfolding total
total_bounds g zero d h = absurd (omega arith)
total_bounds g (suc n) d h = go (ℕ_discrete d n) (total_bounds g n d)
  where
    go : Dec (d ≡ n) → (d < n → g d ≤ total g n) → g d ≤ g n + total g n
    go (yes e) ih = omega (arith, ap g e)
    go (no e) ih = omega (arith, ih (omega arith))
