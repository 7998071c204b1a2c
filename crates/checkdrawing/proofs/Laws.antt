-- Check drawing accepts what write drawing writes, after every list of calls too. Assumes nothing.
use Rattle.std.proofs.Common.{◌≡◌, sym, ◌∙◌, ap, ◌++◌, take, drop, length, take_all, arith}
use Rattle.std.proofs.Math.Seq.{take-append-le}
use Rattle.answers.proofs.Refusals.{accepts}
use Rattle.soundness.proofs.Law.{sound_law}
use Rattle.soundness.proofs.Fresh.{fresh_law, fresh_sized}
use Rattle.sheet.specs.Check.{sound}
use Rattle.sheet.specs.Fresh.{fresh_sheet}
use Rattle.writesheet.specs.Write.{write_answer, buffer_after}
use Rattle.roundtrip.proofs.Written.{answered}
use Rattle.drawing.specs.Write.{drawing_text_of}
use Rattle.demand.proofs.Demand.{after_whole}
use Rattle.checkdrawing.specs.Laws.{OwnAcceptedLaw, WrittenAcceptedLaw, CallsAcceptedLaw}
use Rattle.checkdrawing.proofs.Answered.{accepted_law}
use Rattle.checkdrawing.proofs.Own.{own_accepted}

pub own_accepted_law : OwnAcceptedLaw
own_accepted_law s S z = (accepted_law s (drawing_text_of s) z).1 (own_accepted S)

pub written_accepted : WrittenAcceptedLaw
unfolding buffer_after write_answer
written_accepted s z buffer count e =
    let (accepted, n) = answered (write_answer s (drawing_text_of s) buffer) (drawing_text_of s) count e in
    let (t, _) = (accepts _ (sound s) _).0 accepted in
    let front : take count (drawing_text_of s ++ drop (length (drawing_text_of s)) buffer) ≡ drawing_text_of s =
    ap (λ c. take c (drawing_text_of s ++ drop (length (drawing_text_of s)) buffer)) (sym n) ∙ take-append-le (length (drawing_text_of s)) (drawing_text_of s) _ (omega arith) ∙ take_all _ (drawing_text_of s) (omega arith) in
    rw (accepted, front) (own_accepted_law s ((sound_law s z).0 t) z)

pub calls_accepted : CallsAcceptedLaw
calls_accepted cs = let (S, z) = after_whole fresh_sheet (fresh_law, fresh_sized) cs in own_accepted_law _ S z
