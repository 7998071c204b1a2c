-- What the directions that we choose are worth.
use Rattle.std.specs.Prelude.{ℕ, ◌≤◌, ◌<◌, ◌↔◌}
use Rattle.clauses.specs.declared.Sheet.{Sheet}
use Rattle.sheet.specs.Sound.{Limits, Joins}
use Rattle.orientation.specs.Links.{Choice, Bipolar, Orientable}
use Rattle.orientation.specs.Ears.{oriented}

-- They are a choice of directions for these links.
abbrev pub OrientedChoice : Type 0
OrientedChoice = (s : Sheet) → 1 ≤ s.edges → Choice s (oriented s)

-- Some choice of directions is bipolar exactly where ours is.
abbrev pub OrientedLaw : Type 0
OrientedLaw = (s : Sheet) → Limits s → ((k : ℕ) → k < s.edges → Joins s k) → Orientable s ↔ Bipolar (oriented s)
