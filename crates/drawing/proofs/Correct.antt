-- Demand 3: the drawing of a sound sheet is right.
use Rattle.std.proofs.Common.{ap, true, false, ℕ, ◌<◌, arith}
use Rattle.std.proofs.Math.Logic.{by_cases}
use Rattle.std.proofs.Math.Decide.{ℕ_discrete}
use Rattle.counting.proofs.Paths.{longest_unique}
use Rattle.planarmap.proofs.Chain.{row_ends}
use Rattle.clauses.specs.declared.Sheet.{Sheet}
use Rattle.clauses.specs.Darts.{tail_dart, head_dart}
use Rattle.sheet.specs.Darts.{head}
use Rattle.sheet.specs.Sound.{Sound}
use Rattle.sheet.specs.Check.{face, face_count}
use Rattle.sheet.proofs.Darts.{dart_below}
use Rattle.soundness.proofs.Plane.{plane_of}
use Rattle.soundness.proofs.Rows.{row_law}
use Rattle.soundness.proofs.Columns.{column_law}
use Rattle.drawing.specs.Draw.{edge_column, drawing_of}
use Rattle.drawing.specs.Points.{vertex_of, edge_of}
use Rattle.drawing.specs.Laid.{GreatestColumn, Laid}
use Rattle.drawing.specs.Clear.{Fits, Correct}
use Rattle.drawing.proofs.Segments.{vertex_row, edge_stands}
use Rattle.drawing.proofs.Laid.{drawing_laid}
use Rattle.drawing.proofs.Contact.{clear}
use Rattle.drawing.proofs.Order.{ordered}

module _ {s : Sheet} (S : Sound s) where
  L : Laid s (drawing_of s)
  L = drawing_laid S

  -- no bar is above bar 1, and no wire is right of wire 0
  row_inside : (v : ℕ) → v < s.vertices → (vertex_of (drawing_of s) v).row < (drawing_of s).rows
  row_inside v h = by_cases (ℕ_discrete v 1)
      (λ e. omega (arith, L.rows, ap (λ v. (vertex_of (drawing_of s) v).row) e))
      (λ n. omega (arith, L.rows, vertex_row s v h, vertex_row s 1 S.limits.vertices_least, (row_ends (plane_of S).bipolar).highest h n))

  column_inside : (k : ℕ) → k < s.edges → (edge_of (drawing_of s) k).column < (drawing_of s).columns
  unfolding edge_column
  column_inside k h =
      let C = column_law S in
      omega (arith, L.columns, edge_stands s k h, edge_stands s 0 (omega arith), C.last (face s (tail_dart k)) (C.faces.inside (tail_dart k) (dart_below true h)))

  -- and no bar goes past wire 0
  greatest_inside : {v c : ℕ} → GreatestColumn s (drawing_of s) v c → c < (drawing_of s).columns
  greatest_inside g = rw g.stands at (column_inside g.edge g.edge_at.0)

  last_inside : (v : ℕ) → v < s.vertices → (vertex_of (drawing_of s) v).last < (drawing_of s).columns
  unfolding edge_column
  last_inside v h =
      by_cases (ℕ_discrete v 0) (λ e. rw e (greatest_inside L.last_0)) (λ n0. by_cases (ℕ_discrete v 1) (λ e. rw e (greatest_inside L.last_1)) (λ n1.
      let C = column_law S in
      let (c, F, k) = L.last (face s) (face_count s) C.faces v h n0 n1 in
      let i : c < face_count s = rw F.right_of_upward at (C.faces.inside (head_dart F.upward) (dart_below false F.upward_rightmost.inside)) in
      omega (arith, longest_unique k (C.longest c i), C.last c i, L.columns, edge_stands s 0 (omega (arith, S.limits.edges_least)))))

  fits : Fits s (drawing_of s)
  unfolding edge_column
  fits =
      let C = column_law S in
      let z : 0 < s.edges = omega (arith, S.limits.edges_least) in
      record {
        vertex_row = row_inside;
        vertex_first = λ v h. let c = L.first v h in rw c.stands at (column_inside c.edge c.edge_at.0);
        vertex_last = last_inside;
        edge_column = column_inside;
        edge_high = λ k h. rw (L.high k h) (row_inside (head s k) (S.joins k h).head_in);
        rows = omega (arith, L.rows, vertex_row s 1 S.limits.vertices_least, (row_law S).fewer 1 S.limits.vertices_least);
        columns = omega (arith, L.columns, edge_stands s 0 z, C.fewer (face s 0) (C.faces.inside 0 (omega arith)), (plane_of S).euler);
      }

pub drawing_correct : {s : Sheet} → Sound s → Correct s (drawing_of s)
drawing_correct S = record { clear = clear S; ordered = ordered S; fits = fits S }
