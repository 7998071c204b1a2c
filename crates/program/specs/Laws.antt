-- What the output of `plate` is, line after line, and how long it is at most.
use Rattle.std.specs.Prelude.{ℕ, ◌≤◌, ◌<◌, ◌≡◌, ◌≢◌, ◌↔◌, List, [], ◌∷◌, ◌++◌, get_or, length, drop}
use Rattle.text.specs.Keys.{link_key}
use Rattle.load.specs.declared.Form.TheVariants.{Undirected}
use Rattle.clauses.specs.declared.Sheet.{Sheet}
use Rattle.edit.specs.Lines.{edit_of, line_length}
use Rattle.edit.specs.Calls.{apply, sheet_after}
use Rattle.drawing.specs.Write.{drawing_text_of}
use Rattle.program.specs.Program.{input_form, edit_output, edits_output, plate_output, longest_output}

-- What is printed for edit lines to the end of a text: at the end the drawing; before it the line of a refused edit, then what is printed for the
-- lines after it.
pub data Printed : Sheet → List ℕ → List ℕ → Type 0 where
  at_end : {s : Sheet} → Printed s [] (drawing_text_of s)
  edit_line : {s : Sheet} {text later : List ℕ} → 0 < length text
      → Printed (sheet_after s (apply s (edit_of text))) (drop (line_length text) text) later → Printed s text (edit_output (apply s (edit_of text)) ++ later)

-- The bound r on the number of edit lines is never what stops them: a bound of the text's length is enough.
abbrev pub EditsPrinted : Type 0
EditsPrinted = (s : Sheet) (text output : List ℕ) (r : ℕ) → length text ≤ r → Printed s text output ↔ (output ≡ edits_output r s text)

-- no byte 10
abbrev pub OneLine : List ℕ → Type 0
OneLine text = (i : ℕ) → i < length text → get_or text i 0 ≢ 10

-- the input's third line, which need not be complete, begins with `link=`
pub record ThirdLineLinks (input : List ℕ) : Type 0 where
  pub first : List ℕ
  pub second : List ℕ
  pub rest : List ℕ
  pub first_line : OneLine first
  pub second_line : OneLine second
  pub whole : input ≡ first ++ 10 ∷ (second ++ 10 ∷ (link_key ++ rest))

-- `plate` uses the load of links there, and load for every other input.
abbrev pub FormLaw : Type 0
FormLaw = (input : List ℕ) → input_form input ≡ Undirected ↔ ThirdLineLinks input

abbrev pub OutputBound : Type 0
OutputBound = (input : List ℕ) → length (plate_output input) ≤ longest_output
