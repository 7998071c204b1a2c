-- The lines of a drawing's text: they end in byte 10 alone, their numbers are load's.
use Rattle.std.specs.Prelude.{ℕ, ◌+◌, List, eqb, get_or, length, drop}
use Rattle.counting.specs.Choice.{pick}
use Rattle.text.specs.Reading.{Listed, starts_with, numbers_at}
use Rattle.text.specs.Reading.Listed.{listed, unlisted}

-- numbers that byte 10 follows
unfoldable pub plain_closed : List ℕ → Listed → Listed
plain_closed s (listed vs next) = pick (eqb (get_or s next 0) 10) (λ _. listed vs (next + 1)) (λ _. unlisted)
plain_closed s unlisted = unlisted

-- a whole line: the key, numbers with a comma between, byte 10
unfoldable pub plain_line_at : List ℕ → List ℕ → ℕ → Listed
plain_line_at key s at = pick (starts_with key (drop at s)) (λ _. plain_closed s (numbers_at s (at + length key))) (λ _. unlisted)
