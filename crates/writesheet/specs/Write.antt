-- Write sheet: load's layout, each ring from its lowest wire number.
use Rattle.std.specs.Prelude.{ℕ, not, List, [], ◌∷◌, ◌++◌, ltb, length, drop, Result, Ok, Err}
use Rattle.counting.specs.Below.{join_below}
use Rattle.text.specs.Written.{line}
use Rattle.clauses.specs.declared.Sheet.{Sheet}
use Rattle.answers.specs.Answers.{Answer}
use Rattle.answers.specs.declared.Refusal.{Refusal}
use Rattle.answers.specs.declared.Refusal.TheVariants.{NotSound, BufferTooShort}
use Rattle.answers.specs.Refusals.{first, ◌if◌, answering}
use Rattle.sheet.specs.Darts.{tail, head}
use Rattle.sheet.specs.Check.{sound}
use Rattle.text.specs.Keys.{bars_key, wires_key, wire_key, around_key}
use Rattle.writesheet.specs.Rings.{rotation}

-- the lines of load's layout, with a list of wires for each bar
abbrev pub sheet_lines : Sheet → (ℕ → List ℕ) → List ℕ
sheet_lines s ring =
    line bars_key (s.vertices ∷ [])
    ++ line wires_key (s.edges ∷ [])
    ++ join_below (λ k. line wire_key (tail s k ∷ head s k ∷ [])) s.edges
    ++ join_below (λ v. line around_key (ring v)) s.vertices

unfoldable pub sheet_text : Sheet → List ℕ
sheet_text s = sheet_lines s (rotation s)

-- Writers refuse 9, then 17: lent buffer shorter than the text.
unfoldable pub write_answer : Sheet → List ℕ → List ℕ → Answer
write_answer s text buffer = first (NotSound if not (sound s) ∷ BufferTooShort if ltb (length buffer) (length text) ∷ [])

-- how many bytes of the buffer are filled: the text's length, or a refusal
abbrev pub written : Answer → List ℕ → Result ℕ Refusal
written a text = answering a (λ _. length text)

-- Refused, the buffer is untouched; otherwise the text fills its front, the rest is untouched.
unfoldable pub buffer_after : Answer → List ℕ → List ℕ → List ℕ
buffer_after (Ok _) text buffer = text ++ drop (length text) buffer
buffer_after (Err _) text buffer = buffer

abbrev pub write_sheet : Sheet → List ℕ → Result ℕ Refusal
write_sheet s buffer = written (write_answer s (sheet_text s) buffer) (sheet_text s)

abbrev pub buffer_after_sheet : Sheet → List ℕ → List ℕ
buffer_after_sheet s buffer = buffer_after (write_answer s (sheet_text s) buffer) (sheet_text s) buffer
