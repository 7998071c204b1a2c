-- What the check of a sheet finds: its refusal, or the rows and the faces that later steps go on with.
use Rattle.std.specs.Prelude.{ℕ, ◌+◌, ◌*◌, Bool, cond, ◌&&◌, List, eqb, Option, Some, None, Result, Ok, Err}
use Rattle.orbits.specs.Tables.{traced}
use Rattle.clauses.specs.Inner.{walk_of}
use Rattle.clauses.specs.declared.Sheet.{Sheet}
use Rattle.answers.specs.declared.Refusal.{Refusal}
use Rattle.answers.specs.declared.Refusal.TheVariants.{NotSound}
use Rattle.sheet.specs.declared.Findings.{Findings}
use Rattle.answers.specs.Refusals.{answering}
use Rattle.sheet.specs.Check.{within_limits, joined, in_rings, unused_zero, row_levels, face_table, sound, judge_by}

unfoldable pub findings_in : Sheet → Findings
findings_in s = record { rows = (row_levels s).level; faces = (face_table s).orbit; count = (face_table s).count }

-- the first four clauses of soundness, which load finds met line by line
unfoldable pub structured : Sheet → Bool
structured s = within_limits s && joined s && in_rings s && unused_zero s

-- three of them: limits, wires, unused entries
unfoldable pub bounded : Sheet → Bool
bounded s = within_limits s && joined s && unused_zero s

-- by the number of faces of m edges, where all else is met: n vertices with these rows
unfoldable pub faced_of : ℕ → ℕ → List ℕ → List ℕ → Option Findings
faced_of n m nexts rows =
    let faces = traced (2 * m) (walk_of nexts) in
    cond (eqb (n + faces.count) (m + 2)) (Some (record { rows = rows; faces = faces.orbit; count = faces.count })) None

-- by the other four
unfoldable pub judged_of : (circle bars : Refusal) → Sheet → Result Findings Refusal
judged_of circle bars s = answering (judge_by circle bars s) (λ _. findings_in s)

-- by all
unfoldable pub findings_of : Sheet → Result Findings Refusal
findings_of s = cond (sound s) (Ok (findings_in s)) (Err NotSound)
