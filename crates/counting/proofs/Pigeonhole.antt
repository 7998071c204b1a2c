-- Bounded search, and the pigeonhole principle for a relation. Assumes nothing.
use Rattle.std.proofs.Common.{◌≡◌, refl, subst, ℕ, zero, suc, ◌≤◌, ◌<◌, zero-le, suc-le-suc, arith}
use Rattle.std.proofs.Math.Logic.{by_cases}
use Rattle.std.proofs.Math.Decide.{ℕ_discrete}

-- a decided statement holds at the lowest i below n, or at none
pub data Found (P : ℕ → Type 0) (n : ℕ) : Type 0 where
  at : (i : ℕ) → i < n → P i → ((j : ℕ) → j < i → ¬ P j) → Found P n
  nowhere : ((j : ℕ) → j < n → ¬ P j) → Found P n

module _ (P : ℕ → Type 0) (dec : (i : ℕ) → Dec (P i)) where
  pub find : (n : ℕ) → Found P n
  find zero = nowhere (λ j h. absurd (omega arith))
  find (suc n) = go (find n) (dec n)
    where
      go : Found P n → Dec (P n) → Found P (suc n)
      go (at i h p l) d = at i (omega arith) p l
      go (nowhere f) (yes p) = at n (omega arith) p f
      go (nowhere f) (no g) = nowhere (λ j h p. by_cases (ℕ_discrete j n) (λ e. g (subst P e p)) (λ e. f j (omega arith) p))

-- a partner of i below m
abbrev pub Sent : (ℕ → ℕ → Type 0) → ℕ → ℕ → Type 0
Sent R m i = (k : ℕ) × (k < m) × R i k

-- no two of the i below n share a partner
abbrev pub Apart : (ℕ → ℕ → Type 0) → ℕ → Type 0
Apart R n = (i i' k : ℕ) → i < n → i' < n → R i k → R i' k → i ≡ i'

-- the partner j is taken out, and m takes its place
data Moved (R : ℕ → ℕ → Type 0) (j m : ℕ) : ℕ → ℕ → Type 0 where
  stays : {i k : ℕ} → R i k → Moved R j m i k
  comes : {i k : ℕ} → k ≡ j → R i m → Moved R j m i k

module _ (R : ℕ → ℕ → Type 0) (n m j : ℕ) (h : j < suc m) (r : R n j) (u : Apart R (suc n)) where
  moved_sent : ((i : ℕ) → i < suc n → Sent R (suc m) i) → (i : ℕ) → i < n → Sent (Moved R j m) m i
  moved_sent s i l = go (s i (omega arith))
    where
      go : Sent R (suc m) i → Sent (Moved R j m) m i
      go (k, g, t) = by_cases (ℕ_discrete k m)
          (λ e. by_cases (ℕ_discrete k j)
          (λ f. absurd (let z = u i n j (omega arith) (omega arith) (subst (R i) f t) r in omega arith))
          (λ f. (j, omega arith, comes refl (subst (R i) e t))))
          (λ e. (k, omega arith, stays t))

  moved_apart : Apart (Moved R j m) n
  moved_apart i i' k l l' (stays a) (stays b) = u i i' k (omega arith) (omega arith) a b
  moved_apart i i' k l l' (stays a) (comes e b) = absurd (let z = u i n j (omega arith) (omega arith) (subst (R i) e a) r in omega arith)
  moved_apart i i' k l l' (comes e a) (stays b) = absurd (let z = u i' n j (omega arith) (omega arith) (subst (R i') e b) r in omega arith)
  moved_apart i i' k l l' (comes e a) (comes e' b) = u i i' m (omega arith) (omega arith) a b

-- if each i below n has a partner below m, and no two share one, then n is at most m
pub pigeonhole : (n m : ℕ) (R : ℕ → ℕ → Type 0) → ((i : ℕ) → i < n → Sent R m i) → Apart R n → n ≤ m
pigeonhole zero m R s u = zero-le
pigeonhole (suc n) zero R s u = absurd (let h = (s n (omega arith)).1 in omega arith)
pigeonhole (suc n) (suc m) R s u =
    let t : Sent R (suc m) n = s n (omega arith) in
    suc-le-suc (pigeonhole n m (Moved R t.0 m) (moved_sent R n m t.0 t.1 t.2 u s) (moved_apart R n m t.0 t.1 t.2 u))
