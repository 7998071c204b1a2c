-- Trace faces, and the laws between it and what is laid down.
use Rattle.std.specs.Prelude.{ℕ, ◌+◌, ◌-◌, ◌<◌, ◌≡◌, not, List, [], ◌∷◌, replicate, Result, Ok, Err}
use Rattle.clauses.specs.declared.Sheet.{Sheet}
use Rattle.answers.specs.Answers.{Answer}
use Rattle.answers.specs.declared.Refusal.{Refusal}
use Rattle.answers.specs.declared.Refusal.TheVariants.{NotSound}
use Rattle.answers.specs.Refusals.{first, ◌if◌, answering}
use Rattle.sheet.specs.Darts.{Sized}
use Rattle.sheet.specs.Sound.{Sound, Faces}
use Rattle.sheet.specs.Levels.{Column}
use Rattle.sheet.specs.Check.{sound, face_table, column}
use Rattle.orbits.specs.Meaning.{entries}
use Rattle.tracefaces.specs.Table.{FaceTable, TraceFacesAnswered}

-- Trace faces: only 9, and then 512 zeros.
unfoldable pub trace_faces_answer : Sheet → Answer
trace_faces_answer s = first (NotSound if not (sound s) ∷ [])

abbrev pub trace_faces_call : Sheet → Result (List ℕ) Refusal
trace_faces_call s = answering (trace_faces_answer s) (λ _. (face_table s).orbit)

unfoldable pub returned : Result (List ℕ) Refusal → List ℕ
returned (Ok table) = table
returned (Err r) = replicate 512 0

-- Trace faces answers as laid down.
abbrev pub TraceFacesAnsweredLaw : Type 0
TraceFacesAnsweredLaw = (s : Sheet) → Sized s → TraceFacesAnswered s (trace_faces_call s) (returned (trace_faces_call s))

-- What is laid down leaves nothing free: a sound sheet has one table.
abbrev pub OneTableLaw : Type 0
OneTableLaw = (s : Sheet) (table : List ℕ) → Sound s → FaceTable s table → table ≡ (face_table s).orbit

-- The table has the m − n + 2 faces of the sheet, and by its numbers every column is found.
pub record Numbered (s : Sheet) (table : List ℕ) : Type 0 where
  pub faces : Faces s (entries table) (s.edges + 2 - s.vertices)
  pub columns : (c : ℕ) → c < s.edges + 2 - s.vertices → Column s (entries table) c (column s c)

abbrev pub NumberedLaw : Type 0
NumberedLaw = (s : Sheet) (table : List ℕ) → Sound s → FaceTable s table → Numbered s table
