use Rattle.std.proofs.Common.{◌≡◌, ◌-◌, ◌<◌, get_or, sym, refl, ap, ◌∙◌, arith, ℕ}
use Rattle.std.proofs.lemmas.List.{length-take, get_or-take}
use Rattle.load.specs.declared.Form.{Form}
use Rattle.std.proofs.lemmas.Grind.{common_steps}
use Rattle.load.proofs.Turns.{line_by, rings_step}
use Rattle.load.proofs.around.ring_lines.Goals as goal
use Rattle.counting.proofs.Stores.{replicate_at}

pub loop-v-init : goal.loop-v-init
loop-v-init c =
    let z : c.args.sheet.now.vertices - 0 ≡ c.args.sheet.now.vertices = omega arith in
    record { same = refl; rest = λ form. rw z refl; clear = λ k. omega (arith, replicate_at {A = ℕ} 0 256 k); size = refl }

pub returns-in_err-line : goal.returns-in_err-line
returns-in_err-line c =
    let a = c.args in
    let loop = c.loop-v in
    let text = a.reader.now.text.now in
    let more : loop.v < a.sheet.now.vertices = grind (arith, length-take) in
    let degree : c.from.result ≡ get_or a.degrees.now loop.v 0 = grind (arith, get_or-take) in
    let step = λ (form : Form). rings_step form text a.sheet.now loop.nexts loop.v loop.reader.at more loop.seen (omega arith) loop.invariant.clear c.from.result (degree ∙ c.requires.1 loop.v (omega arith)) in
    let whole = λ (form : Form). ap (line_by form text a.sheet.now loop.nexts loop.v loop.reader.at) (rw loop.invariant.same at c.in_err-line.ensures.rest) ∙ sym (step form) ∙ loop.invariant.rest form in
    grind (arith, common_steps)

pub loop-v-preserved : goal.loop-v-preserved
loop-v-preserved c =
    let a = c.args in
    let loop = c.loop-v in
    let text = a.reader.now.text.now in
    let more : loop.v < a.sheet.now.vertices = grind (arith, length-take) in
    let degree : c.from.result ≡ get_or a.degrees.now loop.v 0 = grind (arith, get_or-take) in
    let step = λ (form : Form). rings_step form text a.sheet.now loop.nexts loop.v loop.reader.at more loop.seen (omega arith) loop.invariant.clear c.from.result (degree ∙ c.requires.1 loop.v (omega arith)) in
    record {
      same = c.in_ok-line.ensures.text ∙ loop.invariant.same;
      rest = λ form. ap (line_by form text a.sheet.now loop.nexts loop.v loop.reader.at) (rw loop.invariant.same at c.in_ok-line.ensures.rest) ∙ sym (step form) ∙ loop.invariant.rest form;
      clear = λ k. c.in_ok-line.ensures.marks k (omega (arith, loop.invariant.clear k));
      size = omega arith;
    }
