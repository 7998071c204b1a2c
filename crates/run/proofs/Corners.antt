-- Corners over the arrays of a sheet are those of the sheet. Assumes nothing.
use Rattle.std.proofs.Common.{ℕ, ◌≡◌, refl, List}
use Rattle.clauses.specs.Darts.{dart_of}
use Rattle.clauses.specs.declared.Sheet.{Sheet}
use Rattle.sheet.specs.Check.{face_table}
use Rattle.edit.specs.Calls.{corner_face}
use Rattle.run.specs.Inner.{corner_of}

module _ (s : Sheet) (k v : ℕ) where
  pub corner_is : (faces : List ℕ) → faces ≡ (face_table s).orbit → corner_face s v k ≡ corner_of faces s.tails k v
  unfolding corner_face corner_of dart_of
  corner_is faces e = rw e refl
