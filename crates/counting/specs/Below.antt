-- Tests and lists over the numbers below n, in rising order.
use Rattle.std.specs.Prelude.{Bool, true, false, cond, ◌&&◌, ◌||◌, List, [], ◌∷◌, ◌++◌, ℕ, zero, suc, ◌-◌, eqb, replicate}

-- all numbers below n pass
unfoldable pub all_below : (ℕ → Bool) → ℕ → Bool
all_below p zero = true
all_below p (suc n) = all_below p n && p n

-- some number below n passes
unfoldable pub some_below : (ℕ → Bool) → ℕ → Bool
some_below p zero = false
some_below p (suc n) = some_below p n || p n

-- the lowest number below n that passes, or n
unfoldable pub lowest_below : (ℕ → Bool) → ℕ → ℕ
lowest_below p zero = zero
lowest_below p (suc n) = cond (eqb (lowest_below p n) n) (cond (p n) n (suc n)) (lowest_below p n)

-- the numbers below n that pass
unfoldable pub list_below : (ℕ → Bool) → ℕ → List ℕ
list_below p zero = []
list_below p (suc n) = list_below p n ++ cond (p n) (n ∷ []) []

-- f 0 up to f (n - 1), one after the other
unfoldable pub tabulate {ℓ} : {A : Type ℓ} → (ℕ → A) → ℕ → List A
tabulate f zero = []
tabulate f (suc n) = tabulate f n ++ f n ∷ []

-- an array of `size` entries: f 0 up to f (n - 1), and z past them
unfoldable pub table : {A : Type 0} → (ℕ → A) → ℕ → ℕ → A → List A
table f n size z = tabulate f n ++ replicate (size - n) z

unfoldable pub join_below : (ℕ → List ℕ) → ℕ → List ℕ
join_below f zero = []
join_below f (suc n) = join_below f n ++ f n
