-- The program `verify`: a sheet, followed directly by a drawing's text. It prints one line: `accepted`, or `refused=` and the number.
use Rattle.std.specs.Prelude.{ℕ, List, ◌++◌, leb, length, drop, Result, Ok, Err}
use Rattle.counting.specs.Choice.{pick}
use Rattle.text.specs.Bytes.{bytes}
use Rattle.text.specs.Written.{line_end}
use Rattle.answers.specs.declared.Refusal.{Refusal}
use Rattle.answers.specs.declared.Refusal.TheVariants.{InputTooLong}
use Rattle.answers.specs.Answers.{Answer}
use Rattle.load.specs.declared.Loaded.{Loaded}
use Rattle.writesheet.specs.Write.{written, buffer_after}
use Rattle.program.specs.Program.{refused_line, load_input, room_answer}
use Rattle.checkdrawing.specs.Call.{check_drawing_call}

abbrev pub accepted_line : List ℕ
accepted_line = bytes "accepted" ++ line_end

-- the line that tells an answer
unfoldable pub answer_line : Answer → List ℕ
answer_line (Ok _) = accepted_line
answer_line (Err r) = refused_line r

-- after load: its refusal, or what check drawing answers; the drawing's text is all that follows the sheet
unfoldable pub checked_output : List ℕ → Result Loaded Refusal → List ℕ
checked_output input (Ok l) = answer_line (check_drawing_call l.sheet (drop l.taken input))
checked_output input (Err r) = refused_line r

-- The sheet is loaded as `plate` loads it. More than 16,384 bytes: it prints `refused=18` only.
unfoldable pub verify_output : List ℕ → List ℕ
verify_output input = pick (leb (length input) 16384) (λ _. checked_output input (load_input input)) (λ _. refused_line InputTooLong)

-- No output is longer.
abbrev pub longest_line : ℕ
longest_line = 11

-- the output in a lent buffer, as that of `plate`
abbrev pub write_line : List ℕ → List ℕ → Result ℕ Refusal
write_line input buffer = written (room_answer longest_line buffer) (verify_output input)

abbrev pub buffer_after_line : List ℕ → List ℕ → List ℕ
buffer_after_line input buffer = buffer_after (room_answer longest_line buffer) (verify_output input) buffer
