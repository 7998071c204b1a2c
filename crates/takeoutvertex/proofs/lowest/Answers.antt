-- `takeoutvertex::lowest` meets its contract. Assumes nothing.
use Rattle.std.proofs.Common.{eqb, rules, tests}
use Rattle.std.proofs.lemmas.Iterator.{YieldsList-from_slice}
use Rattle.std.proofs.lemmas.Iterator.Search.{position_from_yields_List}
use Rattle.takeoutvertex.proofs.Ends.{placed}
use Rattle.takeoutvertex.proofs.lowest.Goals as goal

pub returns : goal.returns
returns c =
    let a = c.args in
    placed (λ e. eqb e a.v) a.ends.now _
    (position_from_yields_List (λ e. eqb e a.v) _ _ _ c.position.ensures.ran (YieldsList-from_slice a.ends.now cc) (λ x b q k. search (rules, tests)))
