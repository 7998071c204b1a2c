use Rattle.std.proofs.Common.{◌≡◌, ◌∙◌, sym, ap, Ok, arith, refl, le-leb}
use Rattle.std.proofs.lemmas.Bool.{lt-leb}
use Rattle.drawing.specs.Draw.{draw_call, drawing_of, returned}
use Rattle.demand.specs.Calls.{after_calls}
use Rattle.demand.proofs.Demand.{demand}
use Rattle.replay.specs.Encoded.{calls_of}
use Rattle.replay.specs.Inner.{pair_put}
use Rattle.replay.proofs.Parts.{five}
use Rattle.replay.proofs.Turns.{made_none, made_sound, made_more, made_all}
use Rattle.replay.proofs.replay.Goals as goal
use Rattle.replay.proofs.replay.Goals.{then-i-answers, else-i-answers}

pub loop-i-init : goal.loop-i-init
loop-i-init c = made_none _ _ _ _ c.fresh-s.ensures

pub step-reply-requires : goal.step-reply-requires
step-reply-requires c = made_sound _ _ _ c.loop-i.invariant

pub loop-i-preserved : goal.loop-i-preserved
unfolding pair_put
loop-i-preserved c =
    let made = c.step-reply in
    let chunks = c.as_chunks.ensures in
    let put : c.if-i-answers.answers ≡ pair_put c.loop-i.i made.result.number made.result.taken c.loop-i.answers =
    elim c.if-i-answers.branch [
      | then-i-answers w ↦ w.answers-is ∙ sym (rw (le-leb _ _ w.if-i-answers.true) refl)
      | else-i-answers w ↦ w.answers-is ∙ sym (rw (lt-leb _ _ w.if-i-answers.false) refl)
    ] in
    made_more _ _ _ c.loop-i.invariant (five _ _ _ chunks.front c.loop-i-test.true chunks.front_len) made.result made.ensures _ put

pub returns : goal.returns
unfolding returned
returns c =
    let (s, answers) = made_all _ _ _ c.loop-i.invariant (omega arith) in
    let holds = demand (calls_of c.args.calls.now c.args.text.now) in
    let is : c.returned.result ≡ drawing_of (after_calls (calls_of c.args.calls.now c.args.text.now)) =
    c.returned.ensures ∙ ap returned (c.draw.ensures ∙ ap draw_call s ∙ holds.drawn) in
    record { drawn = holds.drawn ∙ ap Ok (sym is); answers = answers; holds = holds }
