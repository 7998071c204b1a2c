-- Check drawing answers as laid down, and accepts every drawing that our program makes.
use Rattle.std.specs.Prelude.{ℕ, ◌≡◌, ◌↔◌, List, Ok, take}
use Rattle.answers.specs.Answers.{answer_number}
use Rattle.answers.specs.Clauses.{First}
use Rattle.clauses.specs.declared.Sheet.{Sheet}
use Rattle.sheet.specs.Darts.{Sized}
use Rattle.sheet.specs.Sound.{Sound}
use Rattle.drawing.specs.Write.{drawing_text_of, write_drawing, buffer_after_drawing}
use Rattle.demand.specs.Calls.{Call, after_calls}
use Rattle.checkdrawing.specs.Answered.{check_drawing_refusals, Accepted}
use Rattle.checkdrawing.specs.Call.{check_drawing_call}

-- Its number is that of the first refusal that holds, or 0.
abbrev pub CheckDrawingAnsweredLaw : Type 0
CheckDrawingAnsweredLaw = (s : Sheet) (text : List ℕ) → Sized s → First (check_drawing_refusals s text) (answer_number (check_drawing_call s text))

abbrev pub AcceptedLaw : Type 0
AcceptedLaw = (s : Sheet) (text : List ℕ) → Sized s → check_drawing_call s text ≡ Ok tt ↔ Accepted s text

-- Every drawing that our program makes is accepted: the text of a sound sheet's drawing,
abbrev pub OwnAcceptedLaw : Type 0
OwnAcceptedLaw = (s : Sheet) → Sound s → Sized s → check_drawing_call s (drawing_text_of s) ≡ Ok tt

-- what write drawing leaves at the front of its buffer,
abbrev pub WrittenAcceptedLaw : Type 0
WrittenAcceptedLaw = (s : Sheet) → Sized s → (buffer : List ℕ) (count : ℕ) → write_drawing s buffer ≡ Ok count
    → check_drawing_call s (take count (buffer_after_drawing s buffer)) ≡ Ok tt

-- and the drawing after every list of loads and edits from the fresh sheet, whatever their texts and numbers.
abbrev pub CallsAcceptedLaw : Type 0
CallsAcceptedLaw = (cs : List Call) → check_drawing_call (after_calls cs) (drawing_text_of (after_calls cs)) ≡ Ok tt
