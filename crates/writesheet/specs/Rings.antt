-- A bar's wires clockwise, as they are written.
use Rattle.std.specs.Prelude.{ℕ, zero, suc, ◌/◌, List, [], ◌∷◌, eqb}
use Rattle.counting.specs.Below.{lowest_below}
use Rattle.counting.specs.Choice.{pick}
use Rattle.clauses.specs.declared.Sheet.{Sheet}
use Rattle.sheet.specs.Darts.{darts, touches, dart_at, next}

-- the wires of the ends from d on, up to where the ring returns to `start`
unfoldable pub ring_from : ℕ → Sheet → ℕ → ℕ → List ℕ
ring_from zero s start d = []
ring_from (suc n) s start d = d / 2 ∷ pick (eqb (next s d) start) (λ _. []) (λ _. ring_from n s start (next s d))

-- the end at bar v of its lowest wire number
abbrev pub lowest_dart : Sheet → ℕ → ℕ
lowest_dart s v = dart_at s (lowest_below (λ k. touches s k v) s.edges) v

-- each ring from its lowest wire number
unfoldable pub rotation : Sheet → ℕ → List ℕ
rotation s v = ring_from (darts s) s (lowest_dart s v) (lowest_dart s v)
