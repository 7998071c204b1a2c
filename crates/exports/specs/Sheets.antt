-- What the calls answer, in parts.
use Rattle.std.specs.Prelude.{ℕ, ◌≡◌, List, Result}
use Rattle.sheet.specs.Darts.{sheet_of}
use Rattle.std.specs.Result.{result_unwrap_or}
use Rattle.answers.specs.declared.Refusal.{Refusal}
use Rattle.answers.specs.Answers.{answer_number}
use Rattle.clauses.specs.declared.Sheet.{Sheet}
use Rattle.load.specs.declared.Loaded.{Loaded}
use Rattle.load.specs.Load.{returned}
use Rattle.edit.specs.Calls.{sheet_after}

-- the answer's number, the sheet in parts, and the bytes taken; s is the present sheet
pub record Parts (l : Result Loaded Refusal) (s : Sheet) (number vertices edges : ℕ) (tails heads nexts : List ℕ) (taken : ℕ) : Type 0 where
  pub answer : number ≡ answer_number l
  pub sheet : sheet_of vertices edges tails heads nexts ≡ (returned s l).sheet
  pub bytes : taken ≡ (returned s l).taken

-- the answer's number, and the sheet in parts; s is the sheet that the edit got
pub record Changed (e : Result Sheet Refusal) (s : Sheet) (number vertices edges : ℕ) (tails heads nexts : List ℕ) : Type 0 where
  pub answer : number ≡ answer_number e
  pub sheet : sheet_of vertices edges tails heads nexts ≡ sheet_after s e

-- the answer's number, the bytes written, 0 where it refuses, and the buffer afterwards
pub record Filled (w : Result ℕ Refusal) (after : List ℕ) (number count : ℕ) (buffer : List ℕ) : Type 0 where
  pub answer : number ≡ answer_number w
  pub bytes : count ≡ result_unwrap_or w 0
  pub filled : buffer ≡ after
