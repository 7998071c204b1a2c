-- What the functions behind the directions promise each other.
use Rattle.std.specs.Prelude.{ℕ, ◌≤◌, cond, List, Option, Some, None, ltb, get_or}
use Rattle.orientation.specs.Ears.{Graph}

-- no entry is above p
abbrev pub Low : ℕ → List ℕ → Type 0
Low p l = (v : ℕ) → get_or l v 0 ≤ p

-- the two vertices of dart d; none for the number of darts
unfoldable pub dart_ends : Graph → ℕ → Option (ℕ × ℕ)
dart_ends G d = cond (ltb d G.darts) (Some (G.from d, G.to d)) None
