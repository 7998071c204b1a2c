use Rattle.std.proofs.Common.{rules, Err, ◌≡◌, sym, ◌∙◌, ap, arith}
use Rattle.roundtrip.proofs.Taken.{taken_within}
use Rattle.program.specs.Program.{input_form}
use Rattle.program.proofs.Put.{rest_part}
use Rattle.checkdrawing.specs.Call.{check_drawing_call}
use Rattle.verification.specs.Verify.{answer_line}
use Rattle.verification.proofs.Lines.{load_refused, load_accepted}
use Rattle.verification.proofs.check_input.Goals as goal

pub returns-in_err-loaded : goal.returns-in_err-loaded
unfolding answer_line
returns-in_err-loaded c =
    let e : c.from_residual.result ≡ Err c.in_err-loaded.field-0.0 = search rules in
    ap answer_line e ∙ sym (load_refused c.args.input.now (omega arith) _ c.load_input.ensures _ c.in_err-loaded.was)

pub slice_bounds-text-count : goal.slice_bounds-text-count
slice_bounds-text-count c = taken_within (input_form c.args.input.now) c.args.input.now c.in_ok-loaded.loaded (sym c.load_input.ensures ∙ c.in_ok-loaded.was)

pub slice_bounds-text-start : goal.slice_bounds-text-start
slice_bounds-text-start c = taken_within (input_form c.args.input.now) c.args.input.now c.in_ok-loaded.loaded (sym c.load_input.ensures ∙ c.in_ok-loaded.was)

pub returns : goal.returns
returns c =
    let text = rest_part c.args.input.now c.in_ok-loaded.loaded.taken in
    ap answer_line (c.check_drawing.ensures ∙ ap (check_drawing_call c.in_ok-loaded.loaded.sheet) text)
    ∙ sym (load_accepted c.args.input.now (omega arith) _ c.load_input.ensures _ c.in_ok-loaded.was)
