use Rattle.std.proofs.Common.{◌≡◌, true}
use Rattle.counting.specs.Below.{all_below}
use Rattle.digraph.specs.Inner.{Waiting}
use Rattle.rings.specs.Inner.{Placed}
use Rattle.rings.proofs.Poles.{pole_tests}
use Rattle.rings.proofs.Darts.has_poles.Given as goal

abbrev pub invariant-loop-v : goal.invariant-loop-v
invariant-loop-v l = (P : Placed l.self.count l.self.at.now) → Waiting P.edges P.to (λ j. true) l.into → l.only ≡ all_below (pole_tests P) l.v
