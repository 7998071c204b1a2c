-- An edit line reads as one of four edits: `in=k`, `run=a,p,b,q`, `out=k`, `off=v`, with load's numbers and line ends; a last line may lack its end.
use Rattle.std.specs.Prelude.{ℕ, suc, cond, List, [], ◌∷◌, eqb, Ok, Err}
use Rattle.text.specs.Bytes.{bytes}
use Rattle.text.specs.Reading.{last_line_at}
use Rattle.text.specs.Shapes.{with_one, with_four}
use Rattle.answers.specs.Answers.{Answer}
use Rattle.answers.specs.declared.Refusal.TheVariants.{BadLayout}
use Rattle.edit.specs.declared.Edit.{Edit}
use Rattle.edit.specs.declared.Edit.TheVariants.{In, Run, Out, Off, Refused}
use Rattle.edit.specs.declared.EditRead.{EditRead}

abbrev pub in_key : List ℕ
in_key = bytes "in="

abbrev pub run_key : List ℕ
run_key = bytes "run="

abbrev pub out_key : List ℕ
out_key = bytes "out="

abbrev pub off_key : List ℕ
off_key = bytes "off="

-- the edit at the front of a text
unfoldable pub edit_of : List ℕ → Edit
edit_of text =
    with_one (last_line_at in_key text 0)
    (with_four (last_line_at run_key text 0)
    (with_one (last_line_at out_key text 0)
    (with_one (last_line_at off_key text 0) Refused (λ v _. Off v))
    (λ k _. Out k))
    (λ a p b q _. Run a p b q))
    (λ k _. In k)

-- the bytes up to and with the first byte 10, or all where there is none
unfoldable pub line_length : List ℕ → ℕ
line_length [] = 0
line_length (b ∷ s) = cond (eqb b 10) 1 (suc (line_length s))

-- Read edit refuses by 1 alone: line not of the layout.
abbrev pub edit_answer : Edit → Answer
edit_answer (In k) = Ok tt
edit_answer (Run a p b q) = Ok tt
edit_answer (Out k) = Ok tt
edit_answer (Off v) = Ok tt
edit_answer Refused = Err BadLayout

-- Read edit
unfoldable pub read_edit : List ℕ → EditRead
read_edit text = record { edit = edit_of text; taken = line_length text }
