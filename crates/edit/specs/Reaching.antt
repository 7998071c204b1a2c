-- Whether a directed path leads from one bar to another, as a test that computes.
use Rattle.std.specs.Prelude.{ℕ, zero, suc, Bool, true, false, cond, List, get_or, set, replicate}
use Rattle.clauses.specs.declared.Sheet.{Sheet}
use Rattle.sheet.specs.Darts.{tail, head}

-- the heads of wires 0 to k - 1 whose tails are marked are marked too
unfoldable pub marked : Sheet → ℕ → List Bool → List Bool
marked s zero marks = marks
marked s (suc k) marks = let m = marked s k marks in cond (get_or m (tail s k) false) (set m (head s k) true) m

-- that, n times
unfoldable pub marked_times : ℕ → Sheet → List Bool → List Bool
marked_times zero s marks = marks
marked_times (suc n) s marks = marked_times n s (marked s s.edges marks)

-- a directed path leads from b to a
unfoldable pub leads_to : Sheet → ℕ → ℕ → Bool
leads_to s b a = get_or (marked_times s.vertices s (set (replicate 128 false) b true)) a false
