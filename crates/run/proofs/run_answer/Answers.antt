-- `run::run_answer` meets its contract. Test by test, in order. Assumes nothing.
use Rattle.std.proofs.Common.{◌≡◌, ◌∙◌, ap, rules, Err, refl, sym, arith}
use Rattle.std.proofs.lemmas.Grind.{common_steps}
use Rattle.answers.specs.Refusals.{first}
use Rattle.sheet.specs.declared.Findings.{Findings}
use Rattle.sheet.specs.Inner.{findings_in}
use Rattle.sheet.proofs.Found.{not_found, found_is}
use Rattle.sheet.specs.Darts.{Sized}
use Rattle.soundness.proofs.Law.{sound_law}
use Rattle.run.proofs.Answers.{named_in}
use Rattle.edit.specs.Calls.{run_answer}
use Rattle.run.proofs.run_answer.Goals as goal

pub returns-in_err-found : goal.returns-in_err-found
unfolding run_answer first
returns-in_err-found c =
    let e : c.from_residual.result ≡ Err c.in_err-found.field-0.0 = search rules in
    let (n, q) = not_found _ _ c.examine.ensures _ c.in_err-found.was in
    e ∙ ap Err q ∙ rw n refl

pub returns-then-not-is_named : goal.returns-then-not-is_named
unfolding run_answer first
returns-then-not-is_named c =
    let (is, _) = found_is _ _ c.examine.ensures _ c.in_ok-found.was in
    grind (arith, common_steps, is)

pub returns-then-not-is_named-2 : goal.returns-then-not-is_named-2
unfolding run_answer first
returns-then-not-is_named-2 c =
    let (is, _) = found_is _ _ c.examine.ensures _ c.in_ok-found.was in
    grind (arith, common_steps, is)

pub join_answer-requires : goal.join_answer-requires
unfolding findings_in
join_answer-requires c =
    let (is, f) = found_is _ _ c.examine.ensures _ c.in_ok-found.was in
    let sized : Sized c.args.s = search rules in
    let (a_in, p_in) = named_in c.args.s c.args.from (sym c.is_named.ensures ∙ c.if-not-is_named.false) in
    let (b_in, q_in) = named_in c.args.s c.args.to (sym c.is_named-2.ensures ∙ c.if-not-is_named-2.false) in (
      record {
        sized = sized;
        accepted = is;
        sound = (sound_law c.args.s sized).0 is;
        faced = ap (λ (x : Findings). x.faces) f;
        a_in = a_in;
        b_in = b_in;
        p_in = p_in;
        q_in = q_in;
      },
      ap (λ (x : Findings). x.rows) f,
    )
