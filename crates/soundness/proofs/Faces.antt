-- The faces of a sheet, and what the test of Euler's formula says. Assumes nothing.
use Rattle.std.proofs.Common.{◌≡◌, sym, ◌∙◌, ap, ℕ, ◌+◌, ◌≤◌, arith}
use Rattle.counting.specs.Orbits.{Perm}
use Rattle.counting.proofs.Orbits.{number_unique}
use Rattle.orbits.specs.Meaning.{Numbering}
use Rattle.orbits.proofs.Numbering.{traced_law}
use Rattle.clauses.specs.declared.Sheet.{Sheet}
use Rattle.clauses.specs.Darts.{opposite}
use Rattle.sheet.specs.Darts.{darts, walk}
use Rattle.sheet.specs.Sound.{Faces, Euler}
use Rattle.sheet.specs.Check.{face_table, face, face_count, planar}
use Rattle.soundness.proofs.Tests.{Says, eq_says, reworded}
use Rattle.sheet.proofs.Darts.{opposite_below, opposite_opposite}
use Rattle.soundness.proofs.Rings.{Rotation}

-- the faces of a sheet whose walk permutes the darts, in the order of their lowest darts
pub walk_numbering : (s : Sheet) → s.edges ≤ 256 → Perm (darts s) (walk s) → Numbering (darts s) (walk s) (face_table s)
unfolding face_table
walk_numbering s few p = traced_law (darts s) (walk s) (omega arith) p

pub walk_faces : (s : Sheet) → s.edges ≤ 256 → Perm (darts s) (walk s) → Faces s (face s) (face_count s)
walk_faces s few p = (walk_numbering s few p).orbits

module _ (s : Sheet) (few : s.edges ≤ 256) (r : Rotation s) where
  pub walk_perm : Perm (darts s) (walk s)
  walk_perm = record {
    below = λ d h. r.perm.below (opposite d) (opposite_below s d h);
    one_one = λ d e h k q.
        sym (opposite_opposite d)
        ∙ ap opposite (r.perm.one_one (opposite d) (opposite e) (opposite_below s d h) (opposite_below s e k) q)
        ∙ opposite_opposite e;
  }

  pub faces_numbered : Faces s (face s) (face_count s)
  faces_numbered = walk_faces s few walk_perm

  -- however the faces are numbered, there are as many
  pub faces_unique : {label : ℕ → ℕ} {count : ℕ} → Faces s label count → count ≡ face_count s
  faces_unique o = number_unique walk_perm o faces_numbered

  pub planar_law : Says (planar s) (Euler s)
  unfolding planar
  planar_law = reworded (eq_says (s.vertices + face_count s) (s.edges + 2))
      (λ e. record { faces = face_count s; face = face s; numbered = faces_numbered; two = e })
      (λ E. omega (arith, E.two, faces_unique E.numbered))
