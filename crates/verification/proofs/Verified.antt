-- What `verify` prints of a sheet and a drawing's text. Assumes nothing.
use Rattle.std.proofs.Common.{ℕ, Ok, Err, ◌≡◌, ◌↔◌, refl, sym, ap, ◌∙◌, arith, [], ◌∷◌, ◌++◌, get_or, length, drop, drop_at}
use Rattle.text.specs.Bytes.{bytes}
use Rattle.text.specs.Written.{line}
use Rattle.answers.specs.Answers.{Answer, answer_number}
use Rattle.sheet.specs.Darts.{Sized}
use Rattle.writesheet.specs.Write.{sheet_text}
use Rattle.drawing.specs.Write.{drawing_text_of}
use Rattle.roundtrip.proofs.Loaded.{loaded_sound}
use Rattle.program.specs.Program.{refused_line, input_form}
use Rattle.checkdrawing.specs.Call.{check_drawing_call}
use Rattle.checkdrawing.proofs.Answered.{check_drawing_answered, accepted_law}
use Rattle.checkdrawing.proofs.Laws.{own_accepted_law}
use Rattle.verification.specs.Verify.{accepted_line, answer_line}
use Rattle.verification.specs.Laws.{VerifyAcceptsLoaded, VerifyAccepts, VerifyAnswered}
use Rattle.verification.proofs.Written.{written_loads, together_short}
use Rattle.verification.proofs.Lines.{load_accepted}

-- the line of an answer is `accepted` exactly where it is acceptance, and has the number of a refusal
accepted_is : (a : Answer) → answer_line a ≡ accepted_line ↔ a ≡ Ok tt
unfolding answer_line refused_line line
accepted_is (Ok tt) = (λ _. refl, λ _. refl)
accepted_is (Err r) = (λ e. (let z : ◌≡◌ {A = ℕ} 114 97 = ap (λ l. get_or l 0 0) e in absurd (omega arith)), λ e. cc e)

refused_is : (a : Answer) → ¬ (a ≡ Ok tt) → answer_line a ≡ line (bytes "refused=") (answer_number a ∷ [])
unfolding answer_line refused_line answer_number
refused_is (Ok tt) n = absurd (n refl)
refused_is (Err r) n = refl

pub verify_accepts_loaded : VerifyAcceptsLoaded
unfolding answer_line
verify_accepts_loaded front l h e t =
    let input = front ++ drawing_text_of l.sheet in
    let (z, S) = loaded_sound (input_form input) input l e in
    load_accepted input h _ refl l e
    ∙ ap (λ text. answer_line (check_drawing_call l.sheet text)) (drop_at front (drawing_text_of l.sheet) l.taken (sym t))
    ∙ ap answer_line (own_accepted_law l.sheet S z)

pub verify_accepts : VerifyAccepts
verify_accepts s S z =
    verify_accepts_loaded (sheet_text s) (record { sheet = s; taken = length (sheet_text s) }) (together_short s S z) (written_loads s S z (drawing_text_of s)) refl

pub verify_answered : VerifyAnswered
verify_answered input h l e =
    let z : Sized l.sheet = (loaded_sound (input_form input) input l e).0 in
    let text = drop l.taken input in
    let a = check_drawing_call l.sheet text in
    let p = load_accepted input h _ refl l e in
    record {
      accepts = (λ o. (accepted_law l.sheet text z).0 ((accepted_is a).0 (sym p ∙ o)), λ A. p ∙ (accepted_is a).1 ((accepted_law l.sheet text z).1 A));
      number = answer_number a;
      refusal = check_drawing_answered l.sheet text z;
      refuses = λ n. p ∙ refused_is a (λ q. n ((accepted_law l.sheet text z).0 q));
    }
