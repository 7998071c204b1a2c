-- Rows of bars and columns of faces.
use Rattle.std.specs.Prelude.{ℕ, ◌<◌, ◌≡◌, ◌≢◌}
use Rattle.counting.specs.Paths.{Longest}
use Rattle.clauses.specs.declared.Sheet.{Sheet}
use Rattle.clauses.specs.Darts.{tail_dart, head_dart}
use Rattle.sheet.specs.Sound.{Leads}

-- Row of a bar: the most wires on a directed path from bar 0 to it.
abbrev pub Row : Sheet → ℕ → ℕ → Type 0
Row s v r = Longest (Leads s) 0 v r

-- The left face of a wire holds its walk from tail to head, which leaves by its tail end; the right face its walk from head to tail.
abbrev pub left_face : (ℕ → ℕ) → ℕ → ℕ
left_face face k = face (tail_dart k)

abbrev pub right_face : (ℕ → ℕ) → ℕ → ℕ
right_face face k = face (head_dart k)

-- Each wire but wire 0 leads from its left face to its right face; wire 0 leads from its right face to its left.
pub data FaceLeads (s : Sheet) (face : ℕ → ℕ) (b c : ℕ) : Type 0 where
  across : (k : ℕ) → k < s.edges → k ≢ 0 → left_face face k ≡ b → right_face face k ≡ c → FaceLeads s face b c
  root : right_face face 0 ≡ b → left_face face 0 ≡ c → FaceLeads s face b c

-- Column of a face: the most steps on such a path from the right face of wire 0.
abbrev pub Column : Sheet → (ℕ → ℕ) → ℕ → ℕ → Type 0
Column s face c k = Longest (FaceLeads s face) (right_face face 0) c k
