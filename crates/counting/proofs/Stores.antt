-- What stands in an array, and after a store. Assumes nothing.
use Rattle.std.proofs.Common.{ℕ, ◌<◌, ◌≡◌, List, get_or, set, length, get_or-set_same, get_or-set_other, zero, suc, refl, replicate}
use Rattle.std.proofs.Math.Decide.{ℕ_discrete}

-- a list of one value, and what is past its end
pub replicate_at : {A : Type 0} (z : A) (n k : ℕ) → get_or (replicate n z) k z ≡ z
replicate_at z zero k = refl
replicate_at z (suc n) zero = refl
replicate_at z (suc n) (suc k) = replicate_at z n k

pub data Stored {A : Type 0} (l : List A) (i : ℕ) (x : A) (j : ℕ) (z : A) : Type 0 where
  here : j ≡ i → get_or (set l i x) j z ≡ x → Stored l i x j z
  apart : (j ≡ i → ⊥) → get_or (set l i x) j z ≡ get_or l j z → Stored l i x j z

pub stored : {A : Type 0} (l : List A) (i : ℕ) (x : A) (j : ℕ) (z : A) → i < length l → Stored l i x j z
stored l i x j z h = go (ℕ_discrete j i)
  where
    go : Dec (j ≡ i) → Stored l i x j z
    go (yes e) = here e (rw e (get_or-set_same l i x z h))
    go (no n) = apart n (get_or-set_other l i j x z n)
