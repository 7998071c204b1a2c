-- The insulation mask of a sheet, and the call.
use Rattle.std.specs.Prelude.{ℕ, ◌+◌, ◌-◌, Bool, not, ◌&&◌, ◌||◌, cond, eqb, ltb, List, [], ◌∷◌, ◌++◌, map, length, replicate, Result, Ok, Err}
use Rattle.counting.specs.Below.{list_below, tabulate}
use Rattle.answers.specs.declared.Refusal.{Refusal}
use Rattle.answers.specs.declared.Refusal.TheVariants.{NotSound}
use Rattle.answers.specs.Answers.{Answer}
use Rattle.answers.specs.Refusals.{first, ◌if◌, answering}
use Rattle.clauses.specs.declared.Sheet.{Sheet}
use Rattle.sheet.specs.Darts.{tail}
use Rattle.sheet.specs.Levels.{left_face, right_face}
use Rattle.sheet.specs.Check.{sound, row, face, face_count, column}
use Rattle.drawing.specs.Draw.{edge_column, right_column, least, greatest}
use Rattle.halves.specs.Halves.{half_below, half_above}
use Rattle.segments.specs.declared.Segment.{Segment}
use Rattle.segments.specs.declared.Segment.TheVariants.{Upright, Level}
use Rattle.segments.specs.Segments.{frame_of}
use Rattle.insulationmask.specs.declared.Mask.{Mask}
use Rattle.insulationmask.specs.Laid.{no_segment, no_mask}

-- the level segment of wire k ends on the segment of face g
unfoldable pub ends_on : Sheet → ℕ → ℕ → Bool
ends_on s g k = not (eqb k 0) && (eqb (left_face (face s) k) g || eqb (right_face (face s) k) g)

-- a level segment lies half a row above this row
abbrev pub level_row : Sheet → ℕ → ℕ
level_row s k = row s (tail s k)

-- the rows of the level segments that end on a face's
unfoldable pub rows_beside : Sheet → ℕ → List ℕ
rows_beside s g = map (level_row s) (list_below (ends_on s g) s.edges)

unfoldable pub upright_of : Sheet → ℕ → Segment
upright_of s g = Upright (half_below (column s g)) (half_above (least (rows_beside s g))) (half_above (greatest (rows_beside s g)))

unfoldable pub level_of : Sheet → ℕ → Segment
level_of s k = Level (half_above (level_row s k)) (half_below (edge_column s k)) (half_below (right_column s k))

-- segment i: faces first, then wires from 1 up
unfoldable pub nth_segment : Sheet → ℕ → Segment
nth_segment s i = cond (ltb i (face_count s)) (upright_of s i) (level_of s (i - face_count s + 1))

unfoldable pub segments_of : Sheet → List Segment
segments_of s = tabulate (nth_segment s) (face_count s + (s.edges - 1))

-- the mask with these segments
unfoldable pub mask_with : List Segment → Mask
mask_with ss = record { count = length ss; segments = ss ++ replicate (511 - length ss) no_segment; frame = frame_of ss }

abbrev pub mask_of : Sheet → Mask
mask_of s = mask_with (segments_of s)

-- It refuses 9 alone.
unfoldable pub insulation_mask_answer : Sheet → Answer
insulation_mask_answer s = first (NotSound if not (sound s) ∷ [])

abbrev pub insulation_mask_call : Sheet → Result Mask Refusal
insulation_mask_call s = answering (insulation_mask_answer s) (λ _. mask_of s)

unfoldable pub returned : Result Mask Refusal → Mask
returned (Ok M) = M
returned (Err r) = no_mask
