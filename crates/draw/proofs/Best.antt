-- The best of the values of the numbers below n that pass, found one by one. Assumes nothing.
use Rattle.std.proofs.Common.{ℕ, zero, suc, ◌+◌, ◌≤◌, ◌<◌, min, max, ◌≡◌, refl, sym, ap, ◌∙◌, Bool, true, false, cond, add-one, arith}
use Rattle.std.proofs.Math.Decide.{ℕ_discrete}
use Rattle.counting.proofs.Iterate.{by_bool}
use Rattle.draw.specs.Inner.{best_below}

-- `better` is the one of two that stands to both as R says
pub record Better (R : ℕ → ℕ → Type 0) (better : ℕ → ℕ → ℕ) : Type 0 where
  pub left : (a b : ℕ) → R (better a b) a
  pub right : (a b : ℕ) → R (better a b) b
  pub both : (x a b : ℕ) → R x a → R x b → R x (better a b)
  pub over : (a b c : ℕ) → R a b → R b c → R a c
  pub same : (a b : ℕ) → R a b → R b a → a ≡ b

pub min_better : Better (λ a b. a ≤ b) min
min_better = record { left = λ a b. omega arith; right = λ a b. omega arith; both = λ x a b p q. omega arith; over = λ a b c p q. omega arith; same = λ a b p q. omega arith }

pub max_better : Better (λ a b. b ≤ a) max
max_better = record { left = λ a b. omega arith; right = λ a b. omega arith; both = λ x a b p q. omega arith; over = λ a b c p q. omega arith; same = λ a b p q. omega arith }

module _ (better : ℕ → ℕ → ℕ) (z : ℕ) (p : ℕ → Bool) (f : ℕ → ℕ) where
  -- one number more
  pub more_passes : (n : ℕ) → p n ≡ true → best_below better z p f (n + 1) ≡ better (best_below better z p f n) (f n)
  unfolding best_below
  more_passes n t = rw (add-one n, t) refl

  pub more_fails : (n : ℕ) → p n ≡ false → best_below better z p f (n + 1) ≡ best_below better z p f n
  unfolding best_below
  more_fails n t = rw (add-one n, t) refl

module _ {R : ℕ → ℕ → Type 0} {better : ℕ → ℕ → ℕ} (B : Better R better) (z : ℕ) (p : ℕ → Bool) (f : ℕ → ℕ) where
  found_bounds : (n k : ℕ) → k < n → p k ≡ true → R (best_below better z p f n) (f k)
  unfolding best_below
  found_bounds zero k h t = absurd (omega arith)
  found_bounds (suc n) k h t = go (ℕ_discrete k n) (λ l. found_bounds n k l t)
    where
      found : ℕ
      found = best_below better z p f n

      go : Dec (k ≡ n) → (k < n → R found (f k)) → R (cond (p n) (better found (f n)) found) (f k)
      go (yes e) ih = rw (e, ap p (sym e) ∙ t) (B.right found (f n))
      go (no e) ih = by_bool (p n)
          (λ u. rw u (B.over (better found (f n)) found (f k) (B.left found (f n)) (ih (omega arith))))
          (λ u. rw u (ih (omega arith)))

  found_below : (n x : ℕ) → R x z → ((k : ℕ) → k < n → p k ≡ true → R x (f k)) → R x (best_below better z p f n)
  unfolding best_below
  found_below zero x r h = r
  found_below (suc n) x r h =
      go (p n) refl (found_below n x r (λ k l. h k (omega arith)))
    where
      found : ℕ
      found = best_below better z p f n

      go : (b : Bool) → p n ≡ b → R x found → R x (cond b (better found (f n)) found)
      go true t ih = B.both x found (f n) ih (h n (omega arith) t)
      go false t ih = ih

  -- the best is x, where x is the value of one that passes and stands to all their values, and to z, as R says
  pub found_best : (n x k : ℕ) → k < n → p k ≡ true → f k ≡ x → R x z → ((j : ℕ) → j < n → p j ≡ true → R x (f j)) → best_below better z p f n ≡ x
  found_best n x k h t e worst all = B.same (best_below better z p f n) x (rw e at (found_bounds n k h t)) (found_below n x worst all)
