-- Read edit answers as laid down.
use Rattle.std.specs.Prelude.{ℕ, ◌≡◌, List}
use Rattle.answers.specs.Answers.{answer_number}
use Rattle.edit.specs.declared.Edit.{Edit}
use Rattle.edit.specs.Lines.{edit_answer, read_edit}
use Rattle.editlines.specs.Lines.{ReadAnswered}

abbrev pub ReadAnsweredLaw : Type 0
ReadAnsweredLaw = (text : List ℕ) → ReadAnswered text (answer_number (edit_answer (read_edit text).edit)) (read_edit text).edit (read_edit text).taken

-- What is laid down leaves nothing free: no other answer is as laid down.
abbrev pub ReadOnce : Type 0
ReadOnce = (text : List ℕ) (number : ℕ) (edit : Edit) (taken : ℕ) → ReadAnswered text number edit taken
    → (number ≡ answer_number (edit_answer (read_edit text).edit)) × (edit ≡ (read_edit text).edit) × (taken ≡ (read_edit text).taken)
