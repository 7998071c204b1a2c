-- The values of the numbers below n that pass a test, as a list; the least and the greatest of a list. Assumes nothing.
use Rattle.std.proofs.Common.{◌≡◌, refl, sym, ◌∙◌, ap, inl, inr, Bool, true, false, cond, List, [], ◌∷◌, map, ℕ, zero, suc, ◌≤◌, ◌<◌, max, arith}
use Rattle.std.proofs.Math.Logic.{by_cases}
use mathlib.Core.List.Memᴰ
use mathlib.Core.List.{Memᴰ}
use Rattle.std.proofs.Math.Decide.{ℕ_discrete, dec_le}
use Rattle.counting.specs.Below.{list_below}
use Rattle.drawing.specs.Draw.{least, greatest}

-- ---- values of what passes

module _ (p : ℕ → Bool) where
  pub listed : (n k : ℕ) → k < n → p k ≡ true → Memᴰ k (list_below p n)
  unfolding list_below
  listed zero k h t = absurd (omega arith)
  listed (suc n) k h t = by_cases (ℕ_discrete k n)
      (λ e. Memᴰ.append_right (list_below p n) (rw (ap p (sym e) ∙ t) (Memᴰ.head e)))
      (λ e. Memᴰ.append_left (cond (p n) (n ∷ []) []) (listed n k (omega arith) t))

  pub passes : (n k : ℕ) → Memᴰ k (list_below p n) → (k < n) × (p k ≡ true)
  unfolding list_below
  passes zero k m = absurd (Memᴰ.not-nil m)
  passes (suc n) k m = elim (Memᴰ.append_cases (list_below p n) m) [
    | inl l ↦ (omega (arith, (passes n k l).0), (passes n k l).1)
    | inr l ↦ last (p n) refl l
  ]
    where
      last : (b : Bool) → p n ≡ b → Memᴰ k (cond b (n ∷ []) []) → (k < suc n) × (p k ≡ true)
      last true t l = let e = Memᴰ.eq_of_singleton l in (omega arith, ap p e ∙ t)
      last false t l = absurd (Memᴰ.not-nil l)

module _ (f : ℕ → ℕ) where
  pub valued : {k : ℕ} {l : List ℕ} → Memᴰ k l → Memᴰ (f k) (map f l)
  valued (Memᴰ.head e) = Memᴰ.head (ap f e)
  valued (Memᴰ.tail m) = Memᴰ.tail (valued m)

  pub value_of : {x : ℕ} (l : List ℕ) → Memᴰ x (map f l) → (k : ℕ) × Memᴰ k l × (x ≡ f k)
  value_of [] m = absurd (Memᴰ.not-nil m)
  value_of (y ∷ l) m = elim (Memᴰ.cases_cons m) [
    | inl e ↦ (y, Memᴰ.head refl, e)
    | inr r ↦ let (k, i, e) = value_of l r in (k, Memᴰ.tail i, e)
  ]

-- ---- the least and the greatest

-- `best` is one of the list, and stands to each of the list as R says
pub record Extreme (R : ℕ → ℕ → Type 0) (best : List ℕ → ℕ) : Type 0 where
  pub chosen : (x : ℕ) (l : List ℕ) → Memᴰ (best (x ∷ l)) (x ∷ l)
  pub bounds : (x : ℕ) (l : List ℕ) {z : ℕ} → Memᴰ z (x ∷ l) → R (best (x ∷ l)) z

least_of : (x : ℕ) (l : List ℕ) → Memᴰ (least (x ∷ l)) (x ∷ l)
unfolding least
least_of x [] = Memᴰ.head refl
least_of x (y ∷ l) = by_cases (dec_le x (least (y ∷ l)))
    (λ h. Memᴰ.head (omega arith))
    (λ h. Memᴰ.tail (Memᴰ.cast (omega arith) (least_of y l)))

least_le : (x : ℕ) (l : List ℕ) {z : ℕ} → Memᴰ z (x ∷ l) → least (x ∷ l) ≤ z
unfolding least
least_le x [] (Memᴰ.head e) = omega arith
least_le x [] (Memᴰ.tail m) = absurd (Memᴰ.not-nil m)
least_le x (y ∷ l) (Memᴰ.head e) = omega arith
least_le x (y ∷ l) (Memᴰ.tail m) = omega (arith, least_le y l m)

pub least_extreme : Extreme (λ a b. a ≤ b) least
least_extreme = record { chosen = least_of; bounds = least_le }

greatest_of : (x : ℕ) (l : List ℕ) → Memᴰ (greatest (x ∷ l)) (x ∷ l)
unfolding greatest
greatest_of x [] = let e : max x 0 ≡ x = omega arith in Memᴰ.head e
greatest_of x (y ∷ l) = by_cases (dec_le (greatest (y ∷ l)) x)
    (λ h. Memᴰ.head (omega arith))
    (λ h. Memᴰ.tail (Memᴰ.cast (omega arith) (greatest_of y l)))

greatest_ge : (x : ℕ) (l : List ℕ) {z : ℕ} → Memᴰ z (x ∷ l) → z ≤ greatest (x ∷ l)
unfolding greatest
greatest_ge x [] (Memᴰ.head e) = omega arith
greatest_ge x [] (Memᴰ.tail m) = absurd (Memᴰ.not-nil m)
greatest_ge x (y ∷ l) (Memᴰ.head e) = omega arith
greatest_ge x (y ∷ l) (Memᴰ.tail m) = omega (arith, greatest_ge y l m)

pub greatest_extreme : Extreme (λ a b. b ≤ a) greatest
greatest_extreme = record { chosen = greatest_of; bounds = greatest_ge }

-- of the values of the numbers below n that pass, of which k is one: the best is one of them, and stands to each as R says
module _ {R : ℕ → ℕ → Type 0} {best : List ℕ → ℕ} (E : Extreme R best) (p : ℕ → Bool) (f : ℕ → ℕ) (n k : ℕ) (h : k < n) (t : p k ≡ true) where
  pub best_is : (j : ℕ) × (j < n) × (p j ≡ true) × (best (map f (list_below p n)) ≡ f j)
  best_is =
      let (j, m, e) = value_of f (list_below p n) (some (map f (list_below p n)) (valued f (listed p n k h t))) in
      (j, (passes p n j m).0, (passes p n j m).1, e)
    where
      some : {x : ℕ} (l : List ℕ) → Memᴰ x l → Memᴰ (best l) l
      some [] m = absurd (Memᴰ.not-nil m)
      some (x ∷ l) m = E.chosen x l

  pub best_bounds : (j : ℕ) → j < n → p j ≡ true → R (best (map f (list_below p n))) (f j)
  best_bounds j l u = all (map f (list_below p n)) (valued f (listed p n j l u))
    where
      all : {x : ℕ} (l : List ℕ) → Memᴰ x l → R (best l) x
      all [] m = absurd (Memᴰ.not-nil m)
      all (x ∷ l) m = E.bounds x l m
