-- What a call refuses, in order, as statements.
use Rattle.std.specs.Prelude.{ℕ, ◌≡◌, ◌⊎◌, List, [], ◌∷◌}

infix 80 ◌when◌
-- a refusal number, and the statement on which it falls
pub record Clause : Type 1 where
  pub number : ℕ
  pub falls : Type 0

abbrev pub ◌when◌ : ℕ → Type 0 → Clause
n when p = record { number = n; falls = p }

-- the number is that of the first clause of the list that holds, or 0 where none does
unfoldable pub First : List Clause → ℕ → Type 0
First [] number = number ≡ 0
First (c ∷ cs) number = (c.falls × (number ≡ c.number)) ⊎ (¬ c.falls × First cs number)
