-- What the reading call answered, by how many numbers are wanted.
use Rattle.std.specs.Prelude.{ℕ, List, Option, Some, None, cond, eqb}
use Rattle.text.specs.declared.Numbers.{Numbers}

-- the numbers of a line of n, of which the first four stand for themselves
abbrev pub counted : ℕ → Option (Numbers × ℕ) → Option (List ℕ)
counted n None = None
counted n (Some (r, next)) = cond (eqb r.count n) (Some r.values) None
