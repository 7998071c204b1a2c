use Rattle.std.proofs.Common.{ℕ, ◌≡◌, ◌<◌}
use Rattle.counting.specs.Below.{table}
use Rattle.draw.proofs.table.Given as goal

abbrev pub invariant-loop-k : goal.invariant-loop-k
invariant-loop-k g l = (of : ℕ → _) → ((k : ℕ) (x : _) → k < l.m → g.F.Fn.post l.entry (k, tt) x → x ≡ of k) → l.place-items ≡ table of l.k l.m l.fn.zero
