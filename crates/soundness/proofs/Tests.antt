-- What a test says, clause by clause, and laws of the tests over the numbers below n. Assumes nothing.
use Rattle.std.proofs.Common.{◌≡◌, refl, sym, ap, ◌↔◌, ◌⊎◌, inl, inr, Bool, true, false, not, ◌&&◌, ◌||◌, ℕ, zero, suc, ◌≤◌, ◌<◌, arith, eqb, ltb, leb, ltb-true, leb-true, eqb-true, lt-ltb, le-leb, eq-eqb}
use Rattle.std.proofs.Math.Logic.{by_cases}
use Rattle.std.proofs.lemmas.Bool.{false≢true, not-true, false_from_ne_true}
use Rattle.std.proofs.Math.Bool.{beq, and-eq-true_iff}
use Rattle.std.proofs.Math.Decide.{ℕ_discrete}
use Rattle.counting.specs.Below.{all_below, some_below}
use Rattle.counting.proofs.Iterate.{clash}

-- ---- what a test says

abbrev pub Says : Bool → Type 0 → Type 0
Says b P = b ≡ true ↔ P

pub le_says : (m n : ℕ) → Says (leb m n) (m ≤ n)
le_says m n = (leb-true m n, le-leb m n)

pub lt_says : (m n : ℕ) → Says (ltb m n) (m < n)
lt_says m n = (ltb-true m n, lt-ltb m n)

pub eq_says : (m n : ℕ) → Says (eqb m n) (m ≡ n)
eq_says m n = (eqb-true m n, eq-eqb m n)

pub itself : (b : Bool) → Says b (b ≡ true)
itself b = (λ t. t, λ t. t)

-- in other words
pub reworded : {b : Bool} {P Q : Type 0} → Says b P → (P → Q) → (Q → P) → Says b Q
reworded x f g = (λ t. f (x.0 t), λ q. x.1 (g q))

pub and_says : {a b : Bool} {P Q : Type 0} → Says a P → Says b Q → Says (a && b) (P × Q)
and_says {a} {b} x y = (
  λ t. let (l, r) = (and-eq-true_iff a b).0 t in (x.0 l, y.0 r),
  λ (p, q). (and-eq-true_iff a b).1 (x.1 p, y.1 q),
)

pub not_says : {b : Bool} {P : Type 0} → Says b P → Says (not b) (¬ P)
not_says {b} x = (λ t p. clash (x.1 p) (not-true b t), λ n. ap not (false_from_ne_true b (λ t. n (x.0 t))))

pub or_says : {a b : Bool} {P Q : Type 0} → Says a P → Says b Q → Says (a || b) (P ⊎ Q)
or_says {a = true} x y = (λ _. inl (x.0 refl), λ _. refl)
or_says {a = false} x y = (λ t. inr (y.0 t), λ w. elim w [ inl p ↦ absurd (false≢true (x.1 p)) | inr q ↦ y.1 q ])

-- where the first holds, the second does
pub implies_says : {a b : Bool} {P Q : Type 0} → Says a P → Says b Q → Says (not a || b) (P → Q)
implies_says {a = true} x y = (λ t _. y.0 t, λ f. y.1 (f (x.0 refl)))
implies_says {a = false} x y = (λ _ p. absurd (false≢true (x.1 p)), λ _. refl)

-- the one holds exactly where the other does
pub same_says : {a b : Bool} {P Q : Type 0} → Says a P → Says b Q → Says (beq a b) (P ↔ Q)
same_says {a = true} {b = true} x y = (λ _. (λ _. y.0 refl, λ _. x.0 refl), λ _. refl)
same_says {a = true} {b = false} x y = (λ t. absurd (false≢true t), λ w. y.1 (w.0 (x.0 refl)))
same_says {a = false} {b = true} x y = (λ t. absurd (false≢true t), λ w. x.1 (w.1 (y.0 refl)))
same_says {a = false} {b = false} x y = (λ _. (λ p. absurd (false≢true (x.1 p)), λ q. absurd (false≢true (y.1 q))), λ _. refl)

-- tests that say one thing are one
pub says_once : {a b : Bool} {P : Type 0} → Says a P → Says b P → a ≡ b
says_once {a = true} {b = true} x y = refl
says_once {a = true} {b = false} x y = sym (y.1 (x.0 refl))
says_once {a = false} {b = true} x y = x.1 (y.0 refl)
says_once {a = false} {b = false} x y = refl

module _ {p : ℕ → Bool} {P : ℕ → Type 0} where
  pub all_says : (n : ℕ) → ((k : ℕ) → k < n → Says (p k) (P k)) → Says (all_below p n) ((k : ℕ) → k < n → P k)
  unfolding all_below
  all_says zero x = (λ t k h. absurd (omega arith), λ f. refl)
  all_says (suc n) x =
      reworded (and_says (all_says n (λ k h. x k (omega arith))) (x n (omega arith)))
      (λ w k h. by_cases (ℕ_discrete k n) (λ e. rw e w.1) (λ e. w.0 k (omega arith)))
      (λ f. (λ k h. f k (omega arith), f n (omega arith)))

  pub some_says : (n : ℕ) → ((k : ℕ) → Says (p k) (P k)) → Says (some_below p n) ((k : ℕ) × (k < n) × P k)
  unfolding some_below
  some_says zero x = (λ t. absurd (false≢true t), λ w. absurd (omega (arith, w.1)))
  some_says (suc n) x =
      reworded (or_says (some_says n x) (x n))
      (λ w. elim w [ inl (k, h, q) ↦ (k, omega arith, q) | inr q ↦ (n, omega arith, q) ])
      (λ (k, h, q). by_cases (ℕ_discrete k n) (λ e. inr (rw e at q)) (λ e. inl (k, omega arith, q)))
