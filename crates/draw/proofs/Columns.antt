-- The columns beside the edges of a sound sheet. Assumes nothing.
use Rattle.std.proofs.Common.{ℕ, ◌+◌, ◌*◌, ◌≤◌, ◌<◌, ◌≡◌, refl, arith, ne_eqb}
use Rattle.std.proofs.Math.Logic.{by_cases}
use Rattle.std.proofs.Math.Decide.{ℕ_discrete}
use Rattle.clauses.specs.declared.Sheet.{Sheet}
use Rattle.clauses.specs.Darts.{tail_dart, head_dart}
use Rattle.sheet.specs.Darts.{darts}
use Rattle.sheet.specs.Sound.{Sound}
use Rattle.sheet.specs.Check.{face_table, face, face_count, face_from, face_to, edge_table, column_levels}
use Rattle.soundness.proofs.Columns.{columns_within, column_law}
use Rattle.drawing.specs.Draw.{edge_column, right_column}
use Rattle.counting.specs.Below.{table}
use Rattle.draw.specs.Inner.{leading_face, leading_faces, Beside, column_from, end_from}
use Rattle.counting.proofs.Tables.{table_agree}
use Rattle.draw.proofs.Ends.{end_column}

-- ---- the faces between which each edge leads

from_is : (s : Sheet) (k : ℕ) → leading_face 0 (face_table s).orbit k ≡ face_from s k
unfolding leading_face face_from
from_is s k = by_cases (ℕ_discrete k 0) (λ e. rw e refl) (λ n. let e : 2 * k + 0 ≡ 2 * k = omega arith in rw (ne_eqb k 0 n, e) refl)

to_is : (s : Sheet) (k : ℕ) → leading_face 1 (face_table s).orbit k ≡ face_to s k
unfolding leading_face face_to
to_is s k = by_cases (ℕ_discrete k 0) (λ e. rw e refl) (λ n. rw (ne_eqb k 0 n) refl)

pub from_table : (s : Sheet) → leading_faces s.edges 0 (face_table s).orbit ≡ edge_table (face_from s) s
unfolding leading_faces edge_table table
from_table s = table_agree _ 256 0 (face_from s) s.edges (λ k _. from_is s k)

pub to_table : (s : Sheet) → leading_faces s.edges 1 (face_table s).orbit ≡ edge_table (face_to s) s
unfolding leading_faces edge_table table
to_table s = table_agree _ 256 0 (face_to s) s.edges (λ k _. to_is s k)

module _ {s : Sheet} (S : Sound s) where
  pub some : 0 < s.edges
  some = omega (arith, S.limits.edges_least)

  -- how many faces there are
  few_faces : face_count s ≤ 256
  few_faces = (columns_within S).few_nodes

  face_small : (d : ℕ) → d < darts s → face s d < 256
  face_small d h = omega (arith, (column_law S).faces.inside d h, few_faces)

  -- a face to which another edge leads is right of the one from which it leads, and so of the first column
  pub beside : Beside s.edges (column_levels s).level (face_table s).orbit
  beside = record {
    few = S.limits.edges_most;
    left_in = λ k h. face_small (tail_dart k) (omega arith);
    right_in = λ k h. face_small (head_dart k) (omega arith);
    past_first = λ k h n. omega (arith, (column_law S).rises k h n);
  }

  pub column_small : (k : ℕ) → k < s.edges → edge_column s k < 256
  unfolding edge_column
  column_small k h = omega (arith, (column_law S).fewer (face s (tail_dart k)) ((column_law S).faces.inside (tail_dart k) (omega arith)), few_faces)

-- the columns of the edges, and how far right they let their vertices go
pub columns_are : (s : Sheet) (k : ℕ) → column_from (column_levels s).level (face_table s).orbit k ≡ edge_column s k
unfolding column_from edge_column
columns_are s k = refl

pub ends_are : (s : Sheet) (k : ℕ) → end_from (column_levels s).level (face_table s).orbit k ≡ end_column s k
unfolding end_from column_from end_column edge_column right_column
ends_are s k = refl
