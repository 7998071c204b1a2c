-- What is read at a place of a text. Past the end there is byte 0, which is no digit, no comma and no line end.
use Rattle.std.specs.Prelude.{ℕ, zero, suc, ◌+◌, ◌-◌, ◌*◌, List, [], ◌∷◌, Bool, true, false, cond, ◌&&◌, Option, Some, None, get_or, length, drop, leb, eqb}
use Rattle.counting.specs.Choice.{pick}
use Rattle.text.specs.declared.Numbers.{Numbers}

-- the value of a digit, or 10 of any other byte
unfoldable pub digit_of : ℕ → ℕ
digit_of b = cond (leb 48 b) (cond (leb b 57) (b - 48) 10) 10

abbrev pub digit_at : List ℕ → ℕ → ℕ
digit_at s at = digit_of (get_or s at 0)

-- a number with the place after it, or none
abbrev pub Number : Type 0
Number = Option (ℕ × ℕ)

-- the number that four places' digits begin with
unfoldable pub number_of : (at a b c d : ℕ) → Number
number_of at a b c d =
    cond (leb 10 a) None
    (cond (leb 10 b) (Some (a, at + 1))
    (cond (eqb a 0) None
    (cond (leb 10 c) (Some (a * 10 + b, at + 2))
    (cond (leb 10 d) (Some (a * 100 + b * 10 + c, at + 3))
    None))))

-- Numbers have one to three digits, no leading zero except 0 itself.
abbrev pub number_at : List ℕ → ℕ → Number
number_at s at = number_of at (digit_at s at) (digit_at s (at + 1)) (digit_at s (at + 2)) (digit_at s (at + 3))

-- the text begins with the key
unfoldable pub starts_with : List ℕ → List ℕ → Bool
starts_with [] s = true
starts_with (k ∷ ks) [] = false
starts_with (k ∷ ks) (b ∷ s) = eqb b k && starts_with ks s

-- numbers with a comma between, at least one, and the place after them; or none of that layout
pub data Listed : Type 0 where
  listed : List ℕ → ℕ → Listed
  unlisted : Listed

unfoldable pub before : ℕ → Listed → Listed
before v (listed vs next) = listed (v ∷ vs) next
before v unlisted = unlisted

-- the bytes of a line end that stands at a place: 1 of 10 alone, 2 of 13 followed by 10, 0 where there is none
unfoldable pub line_end_at : List ℕ → ℕ → ℕ
line_end_at s at = cond (eqb (get_or s at 0) 10) 1 (cond (eqb (get_or s at 0) 13 && eqb (get_or s (at + 1) 0) 10) 2 0)

-- after a number: a comma and more numbers, or nothing more
unfoldable pub after_number : List ℕ → Number → (ℕ → Listed) → Listed
after_number s None more = unlisted
after_number s (Some (v, next)) more = pick (eqb (get_or s next 0) 44) (λ _. before v (more (next + 1))) (λ _. listed (v ∷ []) next)

unfoldable pub numbers_from : ℕ → List ℕ → ℕ → Listed
numbers_from zero s at = unlisted
numbers_from (suc n) s at = after_number s (number_at s at) (λ i. numbers_from n s i)

abbrev pub numbers_at : List ℕ → ℕ → Listed
numbers_at s at = numbers_from (length s) s at

-- numbers that a line end follows
unfoldable pub closed : List ℕ → Listed → Listed
closed s (listed vs next) = pick (eqb (line_end_at s next) 0) (λ _. unlisted) (λ _. listed vs (next + line_end_at s next))
closed s unlisted = unlisted

-- a whole line: the key, numbers with a comma between, the line's end
unfoldable pub line_at : List ℕ → List ℕ → ℕ → Listed
line_at key s at = pick (starts_with key (drop at s)) (λ _. closed s (numbers_at s (at + length key))) (λ _. unlisted)

-- the same for a line that may be the text's last: the end of the text is a line end too
unfoldable pub last_closed : List ℕ → Listed → Listed
last_closed s (listed vs next) = pick (leb (length s) next) (λ _. listed vs next) (λ _. closed s (listed vs next))
last_closed s unlisted = unlisted

unfoldable pub last_line_at : List ℕ → List ℕ → ℕ → Listed
last_line_at key s at = pick (starts_with key (drop at s)) (λ _. last_closed s (numbers_at s (at + length key))) (λ _. unlisted)

-- what the reading calls answer, with the place after it: the first four numbers stand for themselves, 0 where there are fewer
unfoldable pub numbers_of : Listed → Option (Numbers × ℕ)
numbers_of (listed vs next) = Some (record { count = length vs; values = get_or vs 0 0 ∷ get_or vs 1 0 ∷ get_or vs 2 0 ∷ get_or vs 3 0 ∷ [] }, next)
numbers_of unlisted = None
