-- What is proved of sheets.
use Rattle.std.specs.Prelude.{ℕ, ◌≤◌, ◌<◌, ◌≡◌, ◌≢◌, ◌↔◌, true, Ok}
use Rattle.clauses.specs.declared.Sheet.{Sheet}
use Rattle.answers.specs.declared.Refusal.{Refusal}
use Rattle.sheet.specs.Darts.{Sized, tail, head}
use Rattle.sheet.specs.Fresh.{fresh_sheet}
use Rattle.sheet.specs.Sound.{Sound, Faces}
use Rattle.sheet.specs.Levels.{Row, Column, left_face, right_face}
use Rattle.sheet.specs.Check.{within_limits, joined, in_rings, unused_zero, sound, judge_by, row, face, face_count, column}

-- The test that computes says what soundness is.
abbrev pub SoundLaw : Type 0
SoundLaw = (s : Sheet) → Sized s → sound s ≡ true ↔ Sound s

-- what a text is refused for before its last line is read
pub record Lined (s : Sheet) : Type 0 where
  pub limits : within_limits s ≡ true
  pub joins : joined s ≡ true
  pub rings : in_rings s ≡ true
  pub unused : unused_zero s ≡ true

-- Where it is not refused before, a load accepts the sheets that are sound, whatever it refuses circles and the rule on bars 0 and 1 by.
abbrev pub JudgeLaw : Type 0
JudgeLaw = (circle bars : Refusal) (s : Sheet) → Lined s → judge_by circle bars s ≡ Ok tt ↔ sound s ≡ true

-- The fresh sheet is sound.
abbrev pub FreshLaw : Type 0
FreshLaw = Sound fresh_sheet

-- Rows of a sound sheet are the longest paths from bar 0.
pub record Rows (s : Sheet) : Type 0 where
  pub longest : (v : ℕ) → v < s.vertices → Row s v (row s v)
  pub rises : (k : ℕ) → k < s.edges → row s (tail s k) < row s (head s k)
  pub first : row s 0 ≡ 0
  pub fewer : (v : ℕ) → v < s.vertices → row s v < s.vertices

-- Columns of a sound sheet are the longest paths between faces from the right face of wire 0.
pub record Columns (s : Sheet) : Type 0 where
  pub faces : Faces s (face s) (face_count s)
  pub longest : (c : ℕ) → c < face_count s → Column s (face s) c (column s c)
  pub rises : (k : ℕ) → k < s.edges → k ≢ 0 → column s (left_face (face s) k) < column s (right_face (face s) k)
  pub first : column s (right_face (face s) 0) ≡ 0
  pub last : (c : ℕ) → c < face_count s → column s c ≤ column s (left_face (face s) 0)
  pub fewer : (c : ℕ) → c < face_count s → column s c < face_count s
