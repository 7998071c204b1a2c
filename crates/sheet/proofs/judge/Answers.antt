-- `sheet::judge` meets its contract. The answer of what is judged. Assumes nothing.
use Rattle.std.proofs.Common.{◌≡◌, sym, ◌∙◌, rules, Err}
use Rattle.sheet.proofs.Clauses.{judged_refused, judged_accepted}
use Rattle.sheet.proofs.judge.Goals as goal

pub returns-in_err-judged : goal.returns-in_err-judged
returns-in_err-judged c =
    let e : c.from_residual.result ≡ Err c.in_err-judged.field-0.0 = search rules in
    e ∙ sym (judged_refused _ _ _ _ (sym c.judged.ensures ∙ c.in_err-judged.was))

pub returns : goal.returns
returns c = sym (judged_accepted _ _ _ _ (sym c.judged.ensures ∙ c.in_ok-judged.was))
