-- Of a permutation of the numbers below N: every orbit returns, so reaching is symmetric, takes fewer than N steps, and is decided. Assumes nothing.
use Rattle.std.proofs.Common.{◌≡◌, refl, sym, ◌∙◌, ap, subst, ◌≢◌, ℕ, zero, suc, ◌≤◌, ◌<◌, arith}
use Rattle.std.proofs.Math.Logic.{by_cases}
use Rattle.std.proofs.Math.Decide.{ℕ_discrete, dec_lt}
use Rattle.counting.specs.Orbits.{Perm, iter, Reach}
use Rattle.counting.proofs.Pigeonhole.{Apart, pigeonhole, Found, at, nowhere, find}
use Rattle.counting.proofs.Iterate.{iter_shift, around}

pub reach_refl : (φ : ℕ → ℕ) (d : ℕ) → Reach φ d d
reach_refl φ d = (zero, refl)

reach_iter : (φ : ℕ → ℕ) {d e : ℕ} → Reach φ d e → (j : ℕ) → Reach φ d (iter φ j e)
reach_iter φ r zero = r
reach_iter φ r (suc j) = let t = reach_iter φ r j in (suc t.0, ap φ t.1)

pub reach_trans : (φ : ℕ → ℕ) {d e g : ℕ} → Reach φ d e → Reach φ e g → Reach φ d g
reach_trans φ {d} r (j, q) = subst (Reach φ d) q (reach_iter φ r j)

module _ {N : ℕ} {φ : ℕ → ℕ} (P : Perm N φ) where
  pub iter_below : (i d : ℕ) → d < N → iter φ i d < N
  iter_below zero d h = h
  iter_below (suc i) d h = P.below (iter φ i d) (iter_below i d h)

  pub reach_below : {d e : ℕ} → d < N → Reach φ d e → e < N
  reach_below {d} h (i, q) = subst (λ x. x < N) q (iter_below i d h)

  -- iterates of d at different places differ, if d does not return within n steps
  distinct : (n d : ℕ) → d < N → ((j : ℕ) → j < n → iter φ (suc j) d ≢ d) → (i j : ℕ) → i < j → j ≤ n → iter φ i d ≢ iter φ j d
  distinct n d h no_return i zero l m e = omega arith
  distinct n d h no_return zero (suc j) l m e = no_return j (omega arith) (sym e)
  distinct n d h no_return (suc i) (suc j) l m e =
      distinct n d h no_return i j (omega arith) (omega arith) (P.one_one (iter φ i d) (iter φ j d) (iter_below i d h) (iter_below j d h) e)

  pub iter_one_one : (n d : ℕ) → d < N → ((j : ℕ) → j < n → iter φ (suc j) d ≢ d) → (i j : ℕ) → i ≤ n → j ≤ n → iter φ i d ≡ iter φ j d → i ≡ j
  iter_one_one n d h no_return i j l m e =
      by_cases (dec_lt i j) (λ s. absurd (distinct n d h no_return i j s m e))
      (λ s. by_cases (dec_lt j i) (λ t. absurd (distinct n d h no_return j i t l (sym e))) (λ t. omega arith))

  -- every orbit returns: after suc i steps, i below N
  pub returns : (d : ℕ) → d < N → (i : ℕ) × (i < N) × (iter φ (suc i) d ≡ d)
  returns d h = go (find (λ i. iter φ (suc i) d ≡ d) (λ i. ℕ_discrete (iter φ (suc i) d) d) N)
    where
      go : Found (λ i. iter φ (suc i) d ≡ d) N → (i : ℕ) × (i < N) × (iter φ (suc i) d ≡ d)
      go (at i l e m) = (i, l, e)
      go (nowhere f) = absurd (let z : suc N ≤ N = pigeonhole (suc N) N (λ i k. iter φ i d ≡ k) (λ i l. (iter φ i d, iter_below i d h, refl)) apart in omega arith)
        where
          apart : Apart (λ i k. iter φ i d ≡ k) (suc N)
          apart i i' k l l' a b = iter_one_one N d h f i i' (omega arith) (omega arith) (a ∙ sym b)

  -- each d has one before it
  pub before : (d : ℕ) → d < N → (p : ℕ) × (p < N) × (φ p ≡ d)
  before d h = let t = returns d h in (iter φ t.0 d, iter_below t.0 d h, t.2)

  -- so one step can be gone back
  reach_back : (d : ℕ) → d < N → Reach φ (φ d) d
  reach_back d h = let t = returns d h in (t.0, iter_shift φ t.0 d ∙ t.2)

  pub reach_sym : {d e : ℕ} → d < N → Reach φ d e → Reach φ e d
  reach_sym {d} h (i, q) = subst (λ x. Reach φ x d) q (go i)
    where
      go : (i : ℕ) → Reach φ (iter φ i d) d
      go zero = reach_refl φ d
      go (suc i) = reach_trans φ (reach_back (iter φ i d) (iter_below i d h)) (go i)

  -- what is reached is reached in fewer than N steps
  pub reach_soon : {d e : ℕ} → d < N → Reach φ d e → (i : ℕ) × (i < N) × (iter φ i d ≡ e)
  reach_soon {d} h (i, q) = let (r, l, back) = returns d h in
      let (j, b, w) = around φ d (suc r) (omega arith) back i in
      (j, omega arith, w ∙ q)

  pub reach_dec : (d e : ℕ) → d < N → Dec (Reach φ d e)
  reach_dec d e h = go (find (λ i. iter φ i d ≡ e) (λ i. ℕ_discrete (iter φ i d) e) N)
    where
      go : Found (λ i. iter φ i d ≡ e) N → Dec (Reach φ d e)
      go (at i l q m) = yes (i, q)
      go (nowhere f) = no (λ q. let t = reach_soon h q in f t.0 t.1 t.2)
