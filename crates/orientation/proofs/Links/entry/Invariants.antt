-- No dart of the links so far passes.
use Rattle.std.proofs.Common.{◌≡◌, ◌*◌}
use Rattle.counting.specs.Below.{lowest_below}
use Rattle.orientation.specs.Ears.{enters}
use Rattle.orientation.proofs.Darts.{by_dart}
use Rattle.orientation.proofs.Links.entry.Given as goal

abbrev pub invariant-loop-k : goal.invariant-loop-k
invariant-loop-k l = lowest_below (by_dart l.self.sheet.now (enters l.order)) (2 * l.k) ≡ 2 * l.k
