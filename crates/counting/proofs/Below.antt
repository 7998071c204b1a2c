-- Tests and tables over the numbers below n. Assumes nothing.
use Rattle.std.proofs.Common.{ℕ, zero, suc, ◌<◌, ◌≡◌, refl, sym, ap, ◌∙◌, Bool, true, false, ◌&&◌, List, [], ◌∷◌, ◌++◌, arith, get_or, length, length-append, ne_eqb, eq-eqb}
use Rattle.std.proofs.Math.Logic.{by_cases}
use Rattle.std.proofs.Math.Bool.{and-true, and-eq-true_iff, and_assoc}
use Rattle.std.proofs.Math.Decide.{ℕ_discrete}
use Rattle.std.proofs.Math.ListN.{get_or-append}
use Rattle.std.proofs.Math.Seq.{get_or_at}
use Rattle.std.specs.List.{list_all}
use Rattle.counting.specs.Below.{all_below, lowest_below, tabulate}
use Rattle.counting.proofs.Iterate.{clash}

module _ (p : ℕ → Bool) where
  pub all_none : all_below p 0 ≡ true
  unfolding all_below
  all_none = refl

  pub all_at : (n : ℕ) → all_below p n ≡ true → (k : ℕ) → k < n → p k ≡ true
  unfolding all_below
  all_at zero a k l = absurd (omega arith)
  all_at (suc n) a k l =
      let (before, last) = (and-eq-true_iff (all_below p n) (p n)).0 a in
      by_cases (ℕ_discrete k n) (λ e. ap p e ∙ last) (λ e. all_at n before k (omega arith))

  pub all_of : (n : ℕ) → ((k : ℕ) → k < n → p k ≡ true) → all_below p n ≡ true
  unfolding all_below
  all_of zero h = refl
  all_of (suc n) h = rw (all_of n (λ k l. h k (omega arith)), h n (omega arith)) refl

module _ (p q : ℕ → Bool) where
  pub all_agree : (n : ℕ) → ((k : ℕ) → k < n → p k ≡ q k) → all_below p n ≡ all_below q n
  unfolding all_below
  all_agree zero h = refl
  all_agree (suc n) h = rw (all_agree n (λ k l. h k (omega arith)), h n (omega arith)) refl

  pub all_both : (n : ℕ) → all_below (λ k. p k && q k) n ≡ (all_below p n && all_below q n)
  unfolding all_below
  all_both zero = refl
  all_both (suc n) = rw (all_both n) (regroup (all_below p n) (all_below q n) (p n) (q n))
    where
      regroup : (a b c d : Bool) → (a && b && (c && d)) ≡ (a && c && (b && d))
      regroup true true c d = refl
      regroup true false true d = refl
      regroup true false false d = refl
      regroup false b c d = refl

-- the first number, and those after it
pub all_front : (p : ℕ → Bool) (n : ℕ) → all_below p (suc n) ≡ (p 0 && all_below (λ k. p (suc k)) n)
unfolding all_below
all_front p zero = sym (and-true (p 0))
all_front p (suc n) = rw (all_front p n) (and_assoc (p 0) _ _)

-- a test of the entries of a list
pub list_all_below : (p : ℕ → Bool) (l : List ℕ) → list_all p l ≡ all_below (λ k. p (get_or l k 0)) (length l)
unfolding all_below
list_all_below p [] = refl
list_all_below p (x ∷ l) = rw (list_all_below p l) (sym (all_front (λ k. p (get_or (x ∷ l) k 0)) (length l)))

-- the lowest number below n that passes, if any does
pub data Lowest (p : ℕ → Bool) (n : ℕ) : Type 0 where
  found : lowest_below p n < n → p (lowest_below p n) ≡ true → ((k : ℕ) → k < lowest_below p n → p k ≡ false) → Lowest p n
  none : lowest_below p n ≡ n → ((k : ℕ) → k < n → p k ≡ false) → Lowest p n

pub lowest : (p : ℕ → Bool) (n : ℕ) → Lowest p n
unfolding lowest_below
lowest p zero = none refl (λ k h. absurd (omega arith))
lowest p (suc n) = go (lowest p n) (p n) refl
  where
    go : Lowest p n → (b : Bool) → p n ≡ b → Lowest p (suc n)
    go (found h t f) b e =
        let same : lowest_below p (suc n) ≡ lowest_below p n = rw (ne_eqb (lowest_below p n) n (omega arith)) refl in
        found (omega arith) (ap p same ∙ t) (λ k l. f k (omega arith))
    go (none q f) true e =
        let same : lowest_below p (suc n) ≡ n = rw (eq-eqb (lowest_below p n) n q, e) refl in
        found (omega arith) (ap p same ∙ e) (λ k l. f k (omega arith))
    go (none q f) false e =
        let same : lowest_below p (suc n) ≡ suc n = rw (eq-eqb (lowest_below p n) n q, e) refl in
        none same (λ k h. by_cases (ℕ_discrete k n) (λ r. ap p r ∙ e) (λ r. f k (omega arith)))

-- where one passes, so does the lowest
pub lowest_found : (p : ℕ → Bool) (n k : ℕ) → k < n → p k ≡ true → (lowest_below p n < n) × (p (lowest_below p n) ≡ true) × ((j : ℕ) → j < lowest_below p n → p j ≡ false)
lowest_found p n k h t = elim (lowest p n) [ found b u f ↦ (b, u, f) | none q f ↦ clash t (f k h) ]

pub length_tabulate {ℓ} : {A : Type ℓ} (f : ℕ → A) (n : ℕ) → length (tabulate f n) ≡ n
unfolding tabulate
length_tabulate f zero = refl
length_tabulate f (suc n) = length-append (tabulate f n) (f n ∷ []) ∙ omega (arith, length_tabulate f n)

pub get_d_tabulate {ℓ} : {A : Type ℓ} (f : ℕ → A) (z : A) (n k : ℕ) → k < n → get_or (tabulate f n) k z ≡ f k
unfolding tabulate
get_d_tabulate f z zero k l = absurd (omega arith)
get_d_tabulate {A = A} f z (suc n) k l = go (ℕ_discrete k n) (λ h. get_d_tabulate f z n k h)
  where
    go : Dec (k ≡ n) → (k < n → get_or (tabulate f n) k z ≡ f k) → get_or (tabulate f n ++ f n ∷ []) k z ≡ f k
    go (yes e) ih = rw e (get_or_at (tabulate f n) (f n) [] z n (length_tabulate f n))
    go (no e) ih = get_or-append (tabulate f n) (f n ∷ []) z k (omega (arith, length_tabulate f n)) ∙ ih (omega arith)

-- whatever comes after the list
pub get_d_tabulated : {A : Type 0} (f : ℕ → A) (rest : List A) (z : A) (n k : ℕ) → k < n → get_or (tabulate f n ++ rest) k z ≡ f k
get_d_tabulated f rest z n k h = get_or-append (tabulate f n) rest z k (omega (arith, length_tabulate f n)) ∙ get_d_tabulate f z n k h
