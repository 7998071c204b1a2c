-- What `verify` prints, of which inputs.
use Rattle.std.specs.Prelude.{ℕ, ◌≤◌, ◌≡◌, ◌↔◌, List, [], ◌∷◌, ◌++◌, length, drop, Ok}
use Rattle.text.specs.Bytes.{bytes}
use Rattle.text.specs.Written.{line}
use Rattle.answers.specs.Clauses.{First}
use Rattle.clauses.specs.declared.Sheet.{Sheet}
use Rattle.sheet.specs.Darts.{Sized}
use Rattle.sheet.specs.Sound.{Sound}
use Rattle.load.specs.declared.Loaded.{Loaded}
use Rattle.writesheet.specs.Write.{sheet_text}
use Rattle.drawing.specs.Write.{drawing_text_of}
use Rattle.program.specs.Program.{load_input}
use Rattle.checkdrawing.specs.Answered.{check_drawing_refusals, Accepted}
use Rattle.verification.specs.Verify.{accepted_line, verify_output, longest_line}

abbrev pub VerifyBound : Type 0
VerifyBound = (input : List ℕ) → length (verify_output input) ≤ longest_line

-- It accepts what our program makes: every text that is loaded, in either form, followed by the text of the drawing of its sheet;
abbrev pub VerifyAcceptsLoaded : Type 0
VerifyAcceptsLoaded = (front : List ℕ) (l : Loaded) → length (front ++ drawing_text_of l.sheet) ≤ 16384 → load_input (front ++ drawing_text_of l.sheet) ≡ Ok l
    → l.taken ≡ length front → verify_output (front ++ drawing_text_of l.sheet) ≡ accepted_line

-- so every written sheet. With its drawing it never has more than 16,384 bytes.
abbrev pub VerifyAccepts : Type 0
VerifyAccepts = (s : Sheet) → Sound s → Sized s → verify_output (sheet_text s ++ drawing_text_of s) ≡ accepted_line

-- What it prints of a sheet and a drawing's text: `accepted` exactly where the drawing is accepted, else `refused=` and the number of the first refusal that holds.
pub record Verified (s : Sheet) (text output : List ℕ) : Type 0 where
  pub accepts : output ≡ accepted_line ↔ Accepted s text
  pub number : ℕ
  pub refusal : First (check_drawing_refusals s text) number
  pub refuses : ¬ Accepted s text → output ≡ line (bytes "refused=") (number ∷ [])

abbrev pub VerifyAnswered : Type 0
VerifyAnswered = (input : List ℕ) → length input ≤ 16384 → (l : Loaded) → load_input input ≡ Ok l → Verified l.sheet (drop l.taken input) (verify_output input)
