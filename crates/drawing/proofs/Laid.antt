-- The drawing of a sound sheet is as laid down.
use Rattle.std.proofs.Common.{◌≡◌, sym, ◌∙◌, ap, true, List, [], ◌∷◌, ◌++◌, ℕ, zero, suc, ◌+◌, ◌-◌, ◌≤◌, ◌<◌, arith, get_or, length, length-append, replicate}
use Rattle.std.proofs.Math.ListN.{length-replicate}
use Rattle.counting.specs.Below.{tabulate}
use Rattle.counting.proofs.Below.{length_tabulate}
use Rattle.counting.proofs.Stores.{replicate_at}
use Rattle.clauses.specs.declared.Sheet.{Sheet}
use Rattle.clauses.specs.Darts.{tail_dart}
use Rattle.sheet.specs.Darts.{tail, head}
use Rattle.sheet.specs.Sound.{Sound, Faces}
use Rattle.sheet.specs.Levels.{Column, left_face}
use Rattle.sheet.specs.Check.{face}
use Rattle.sheet.proofs.Darts.{dart_below}
use Rattle.soundness.proofs.Tests.{lt_says}
use Rattle.soundness.proofs.Rows.{row_law}
use Rattle.soundness.proofs.Columns.{column_law}
use Rattle.soundness.proofs.Ends.{touches_says}
use Rattle.drawing.specs.declared.Drawing.{Drawing}
use Rattle.drawing.specs.Draw.{edge_column, columns_at, first_column, last_column, vertex_segment, edge_segment, no_vertex_segment, no_edge_segment, drawing_of}
use Rattle.drawing.specs.Points.{vertex_of, edge_of}
use Rattle.drawing.specs.Laid.{EdgeAt, LeastColumn, GreatestColumn, Laid}
use Rattle.drawing.proofs.Extremes.{Extreme, least_extreme, greatest_extreme}
use Rattle.drawing.proofs.Segments.{vertex_entry, vertex_row, edge_entry, edge_stands, edge_found, edge_bound}
use Rattle.drawing.proofs.Renumbering.{column_renumbered}
use Rattle.drawing.proofs.Sides.{to_right}

-- ---- a table that is filled up with one value

module _ {A : Type 0} (z : A) where
  past_at : (xs : List A) (n k : ℕ) → length xs ≤ k → get_or (xs ++ replicate n z) k z ≡ z
  past_at [] n k h = replicate_at z n k
  past_at (x ∷ xs) n zero h = absurd (omega arith)
  past_at (x ∷ xs) n (suc k) h = past_at xs n k (omega arith)

  table_size : (f : ℕ → A) (n size : ℕ) → n ≤ size → length (tabulate f n ++ replicate (size - n) z) ≡ size
  table_size f n size h = length-append (tabulate f n) (replicate (size - n) z) ∙ omega (arith, length_tabulate f n, length-replicate (size - n) z)

  table_past : (f : ℕ → A) (n j k : ℕ) → n ≤ k → get_or (tabulate f n ++ replicate j z) k z ≡ z
  table_past f n j k h = past_at (tabulate f n) j k (omega (arith, length_tabulate f n))

-- ---- the drawing

module _ {s : Sheet} (S : Sound s) where
  abbrev D : Drawing
  D = drawing_of s

  column_at : (label : ℕ → ℕ) (f : ℕ) → Faces s label f → (k : ℕ) → k < s.edges → Column s label (left_face label k) (edge_of D k).column
  unfolding edge_column
  column_at label f o k h =
      let C = column_law S in
      let d = dart_below true h in
      rw (edge_stands s k h) (column_renumbered S C.faces o (tail_dart k) d (C.longest (face s (tail_dart k)) (C.faces.inside (tail_dart k) d)))

  edge_low : (k : ℕ) → k < s.edges → (edge_of D k).low ≡ (vertex_of D (tail s k)).row
  unfolding edge_segment
  edge_low k h = ap (λ z. z.low) (edge_entry s k h) ∙ sym (vertex_row s (tail s k) (S.joins k h).tail_in)

  edge_high : (k : ℕ) → k < s.edges → (edge_of D k).high ≡ (vertex_of D (head s k)).row
  unfolding edge_segment
  edge_high k h = ap (λ z. z.high) (edge_entry s k h) ∙ sym (vertex_row s (head s k) (S.joins k h).head_in)

  -- the best column of the wires of a bar
  module _ {R : ℕ → ℕ → Type 0} {best : List ℕ → ℕ} (E : Extreme R best) (v : ℕ) (h : v < s.vertices) where
    found : (k : ℕ) × EdgeAt s v k × ((edge_of D k).column ≡ best (columns_at (edge_column s) s v))
    found = let (k, i, t, p) = edge_found S E (edge_column s) v h in (k, (i, (touches_says s k v).0 t), edge_stands s k i ∙ sym p)

    bound : (k : ℕ) → EdgeAt s v k → R (best (columns_at (edge_column s) s v)) (edge_of D k).column
    bound k (i, a) = rw (edge_stands s k i) (edge_bound S E (edge_column s) v h k i ((touches_says s k v).1 a))

  least_at : (v : ℕ) → v < s.vertices → LeastColumn s D v (vertex_of D v).first
  unfolding vertex_segment first_column
  least_at v h =
      let (k, a, e) = found least_extreme v h in
      rw (vertex_entry s v h) (record { edge = k; edge_at = a; stands = e; least = bound least_extreme v h })

  greatest_at : (v : ℕ) → v < s.vertices → v < 2 → GreatestColumn s D v (vertex_of D v).last
  unfolding vertex_segment last_column
  greatest_at v h l =
      let (k, a, e) = found greatest_extreme v h in
      rw (vertex_entry s v h, (lt_says v 2).1 l) (record { edge = k; edge_at = a; stands = e; greatest = bound greatest_extreme v h })

pub drawing_laid : {s : Sheet} → Sound s → Laid s (drawing_of s)
unfolding drawing_of
drawing_laid {s} S = record {
  row = λ v h. rw (vertex_row s v h) ((row_law S).longest v h);
  column = column_at S;
  low = edge_low S;
  high = edge_high S;
  first = least_at S;
  last = to_right S;
  last_0 = greatest_at S 0 (omega (arith, S.limits.vertices_least)) (omega arith);
  last_1 = greatest_at S 1 S.limits.vertices_least (omega arith);
  rows = ap (λ r. r + 1) (sym (vertex_row s 1 S.limits.vertices_least));
  columns = ap (λ c. c + 1) (sym (edge_stands s 0 (omega (arith, S.limits.edges_least))));
  vertex_entries = table_size no_vertex_segment (vertex_segment s) s.vertices 128 S.limits.vertices_most;
  edge_entries = table_size no_edge_segment (edge_segment s) s.edges 256 S.limits.edges_most;
  unused_vertices = λ v h. table_past no_vertex_segment (vertex_segment s) s.vertices (128 - s.vertices) v h;
  unused_edges = λ k h. table_past no_edge_segment (edge_segment s) s.edges (256 - s.edges) k h;
}
