-- The program `plate`: the whole output as a function of the whole input, and that output in a lent buffer.
use Rattle.std.specs.Prelude.{ℕ, zero, suc, ◌+◌, ◌*◌, List, [], ◌∷◌, ◌++◌, cond, ltb, leb, length, drop, Result, Ok, Err}
use Rattle.text.specs.Bytes.{bytes}
use Rattle.counting.specs.Choice.{pick}
use Rattle.text.specs.Keys.{link_key}
use Rattle.text.specs.Reading.{starts_with}
use Rattle.text.specs.Written.{line}
use Rattle.clauses.specs.declared.Sheet.{Sheet}
use Rattle.answers.specs.declared.Refusal.{Refusal}
use Rattle.answers.specs.declared.Refusal.TheVariants.{BufferTooShort, InputTooLong}
use Rattle.answers.specs.Answers.{Answer, refusal_number}
use Rattle.answers.specs.Refusals.{first, ◌if◌}
use Rattle.load.specs.declared.Loaded.{Loaded}
use Rattle.load.specs.declared.Form.{Form}
use Rattle.load.specs.declared.Form.TheVariants.{Directed, Undirected}
use Rattle.load.specs.Load.{Parsed, load_from}
use Rattle.writesheet.specs.Write.{written, buffer_after}
use Rattle.edit.specs.Lines.{edit_of, line_length}
use Rattle.edit.specs.Calls.{apply, sheet_after}
use Rattle.drawing.specs.Write.{drawing_text_of}

-- a line `refused=` and number
unfoldable pub refused_line : Refusal → List ℕ
refused_line r = line (bytes "refused=") (refusal_number r ∷ [])

-- one such line for a refused edit
unfoldable pub edit_output : Result Sheet Refusal → List ℕ
edit_output (Ok s) = []
edit_output (Err r) = refused_line r

-- edit lines to the end of the text, at most r of them: a line for each refused edit, then the drawing
unfoldable pub edits_output : ℕ → Sheet → List ℕ → List ℕ
edits_output zero s text = drawing_text_of s
edits_output (suc r) s text = pick (ltb 0 (length text))
    (λ _. let e = apply s (edit_of text) in edit_output e ++ edits_output r (sheet_after s e) (drop (line_length text) text))
    (λ _. drawing_text_of s)

-- what follows the first line of a text
abbrev pub after_line : List ℕ → List ℕ
after_line text = drop (line_length text) text

-- The input's third line is what follows the second byte 10; it need not be complete. Where it begins with `link=`, the load is that of links.
unfoldable pub input_form : List ℕ → Form
input_form input = cond (starts_with link_key (after_line (after_line input))) Undirected Directed

abbrev pub load_input : List ℕ → Parsed
load_input input = load_from (input_form input) input

-- after load: its refusal only, or the edits
unfoldable pub loaded_output : List ℕ → Result Loaded Refusal → List ℕ
loaded_output input (Ok l) = edits_output (length input) l.sheet (drop l.taken input)
loaded_output input (Err r) = refused_line r

-- More than 16,384 bytes: it prints `refused=18` only.
unfoldable pub plate_output : List ℕ → List ℕ
plate_output input = pick (leb (length input) 16384) (λ _. loaded_output input (load_input input)) (λ _. refused_line InputTooLong)

-- No output is longer: at most 11 bytes for each byte of the input (an edit line has at least one, its refusal at most 11), and a drawing of at most 6,807.
abbrev pub longest_output : ℕ
longest_output = 11 * 16384 + 6807

-- An output in a lent buffer. 17: lent buffer shorter than the longest output; whatever the input, it is then untouched.
unfoldable pub room_answer : ℕ → List ℕ → Answer
room_answer longest buffer = first (BufferTooShort if ltb (length buffer) longest ∷ [])

abbrev pub write_output : List ℕ → List ℕ → Result ℕ Refusal
write_output input buffer = written (room_answer longest_output buffer) (plate_output input)

abbrev pub buffer_after_output : List ℕ → List ℕ → List ℕ
buffer_after_output input buffer = buffer_after (room_answer longest_output buffer) (plate_output input) buffer
