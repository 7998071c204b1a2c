use Rattle.std.proofs.Common.{eqb, arith, rules, tests}
use Rattle.std.proofs.lemmas.Grind.{common_steps}
use Rattle.std.proofs.lemmas.Iterator.{YieldsList-from_slice}
use Rattle.std.proofs.lemmas.Iterator.Search.{position_from_yields_List}
use Rattle.edit.proofs.Reading.{length_steps}
use Rattle.edit.proofs.line_length.Goals as goal

pub returns : goal.returns
returns c =
    let found = position_from_yields_List (λ b. eqb b 10) _ _ _ c.position.ensures.ran (YieldsList-from_slice c.args.text.now cc) (λ x b q k. search (rules, tests)) in
    let h = c.map_or.ensures in
    grind (arith, common_steps, length_steps)
