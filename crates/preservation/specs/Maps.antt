-- The clauses of soundness that speak of numbers alone.
use Rattle.std.specs.Prelude.{ℕ, ◌<◌}
use Rattle.clauses.specs.declared.Sheet.{Sheet}
use Rattle.sheet.specs.Sound.{Limits, Joins, Unused}

-- limits, edges and unused entries
pub record Framed (s : Sheet) : Type 0 where
  pub limits : Limits s
  pub joins : (k : ℕ) → k < s.edges → Joins s k
  pub unused : Unused s
