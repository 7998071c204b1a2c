-- The items from k on stand on the lists of their keys.
use Rattle.std.proofs.Common.{ℕ, ◌≡◌, ◌<◌}
use Rattle.contact.specs.Lists.{Linked}
use Rattle.contact.proofs.lists.Lists.by.Given as goal

abbrev pub invariant-loop-k : goal.invariant-loop-k
invariant-loop-k g l = (of : ℕ → ℕ) → ((k r : ℕ) → k < l.items → g.F.Fn.post l.key (k, tt) r → r ≡ of k) → Linked l.k l.items of l.lists.first l.lists.after
