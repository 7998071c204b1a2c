-- Lines by how many numbers they have: `bad` where a line has another layout.
use Rattle.std.specs.Prelude.{ℕ, List, [], ◌∷◌, Option, Some, None}
use Rattle.text.specs.Reading.{Listed}
use Rattle.text.specs.Reading.Listed.{listed, unlisted}

-- a line of exactly one number, of two, of three, of four
unfoldable pub with_one : {A : Type 0} → Listed → A → (ℕ → ℕ → A) → A
with_one unlisted bad good = bad
with_one (listed [] next) bad good = bad
with_one (listed (a ∷ []) next) bad good = good a next
with_one (listed (a ∷ b ∷ vs) next) bad good = bad

unfoldable pub with_two : {A : Type 0} → Listed → A → (ℕ → ℕ → ℕ → A) → A
with_two unlisted bad good = bad
with_two (listed [] next) bad good = bad
with_two (listed (a ∷ []) next) bad good = bad
with_two (listed (a ∷ b ∷ []) next) bad good = good a b next
with_two (listed (a ∷ b ∷ c ∷ vs) next) bad good = bad

unfoldable pub with_three : {A : Type 0} → Listed → A → (ℕ → ℕ → ℕ → ℕ → A) → A
with_three unlisted bad good = bad
with_three (listed [] next) bad good = bad
with_three (listed (a ∷ []) next) bad good = bad
with_three (listed (a ∷ b ∷ []) next) bad good = bad
with_three (listed (a ∷ b ∷ c ∷ []) next) bad good = good a b c next
with_three (listed (a ∷ b ∷ c ∷ d ∷ vs) next) bad good = bad

unfoldable pub with_four : {A : Type 0} → Listed → A → (ℕ → ℕ → ℕ → ℕ → ℕ → A) → A
with_four unlisted bad good = bad
with_four (listed [] next) bad good = bad
with_four (listed (a ∷ []) next) bad good = bad
with_four (listed (a ∷ b ∷ []) next) bad good = bad
with_four (listed (a ∷ b ∷ c ∷ []) next) bad good = bad
with_four (listed (a ∷ b ∷ c ∷ d ∷ []) next) bad good = good a b c d next
with_four (listed (a ∷ b ∷ c ∷ d ∷ e ∷ vs) next) bad good = bad

-- a line of one number or more
unfoldable pub with_some : {A : Type 0} → Listed → A → (List ℕ → ℕ → A) → A
with_some unlisted bad good = bad
with_some (listed vs next) bad good = good vs next

-- the number of a line and the place after it
abbrev pub one_of : Listed → Option (ℕ × ℕ)
one_of l = with_one l None (λ a next. Some (a, next))

-- the two numbers of a line and the place after it
abbrev pub pair_of : Listed → Option (ℕ × ℕ × ℕ)
pair_of l = with_two l None (λ a b next. Some (a, b, next))

-- the three numbers of a line and the place after it
abbrev pub three_of : Listed → Option (ℕ × ℕ × ℕ × ℕ)
three_of l = with_three l None (λ a b c next. Some (a, b, c, next))
