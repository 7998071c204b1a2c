-- The drawing that is composed from rows and columns is the drawing of the sheet. Assumes nothing.
use Rattle.std.proofs.Common.{ℕ, ◌+◌, ◌<◌, min, max, ◌≡◌, refl, ◌∙◌, ◌≢◌, Bool, List, arith, eqb, get_or, eqb-true, eq-eqb, ne_eqb}
use Rattle.std.proofs.Math.Logic.{by_cases}
use Rattle.std.proofs.Math.Decide.{ℕ_discrete}
use Rattle.clauses.specs.declared.Sheet.{Sheet}
use Rattle.sheet.specs.Darts.{tail}
use Rattle.sheet.specs.Sound.{Sound}
use Rattle.sheet.specs.Check.{row_levels, row}
use Rattle.soundness.proofs.Rows.{row_law}
use Rattle.drawing.specs.Draw.{edge_column, first_column, last_column, vertex_segment, edge_segment, no_vertex_segment, no_edge_segment, drawing_of}
use Rattle.counting.specs.Below.{table}
use Rattle.draw.specs.Inner.{best_below, edge_from, vertex_from, segment_from, drawing_from}
use Rattle.counting.proofs.Tables.{table_at, table_agree}
use Rattle.draw.proofs.Best.{min_better, max_better, found_best}
use Rattle.draw.proofs.Ends.{end_column, first_bound, first_found, first_poles, last_bound, last_found, last_poles}
use Rattle.draw.proofs.Columns.{some, column_small}

module _ {s : Sheet} (S : Sound s) where
  rows : List ℕ
  rows = (row_levels s).level

  columns : List ℕ
  columns = table (edge_column s) s.edges 256 0

  ends : List ℕ
  ends = table (end_column s) s.edges 256 0

  column_at : (k : ℕ) → k < s.edges → get_or columns k 0 ≡ edge_column s k
  unfolding columns
  column_at k h = table_at (edge_column s) 256 0 0 s.edges k h

  end_at_law : (k : ℕ) → k < s.edges → get_or ends k 0 ≡ end_column s k
  unfolding ends
  end_at_law k h = table_at (end_column s) 256 0 0 s.edges k h

  pub small : (row s 1 < 256) × (get_or (table (edge_column s) s.edges 256 0) 0 0 < 256)
  unfolding columns
  small = (omega (arith, (row_law S).fewer 1 S.limits.vertices_least, S.limits.vertices_most), omega (arith, column_at 0 (some S), column_small S 0 (some S)))

  module _ (v : ℕ) (h : v < s.vertices) (n : v ≢ 1) where
    abbrev leaves : ℕ → Bool
    leaves j = eqb (tail s j) v

    first_is : best_below min 65535 leaves (λ j. get_or columns j 0) s.edges ≡ first_column s v
    first_is =
        let (k, l, t, e) = first_found S v h n in
        found_best min_better 65535 leaves (λ j. get_or columns j 0) s.edges (first_column s v) k l (eq-eqb (tail s k) v t) (column_at k l ∙ e) (omega (arith, e, column_small S k l))
        (λ j i p. omega (arith, column_at j i, first_bound S v h j i (eqb-true (tail s j) v p)))

    last_is : best_below max 0 leaves (λ j. get_or ends j 0) s.edges ≡ last_column s v
    last_is =
        let (k, l, t, e) = last_found S v h n in
        found_best max_better 0 leaves (λ j. get_or ends j 0) s.edges (last_column s v) k l (eq-eqb (tail s k) v t) (end_at_law k l ∙ e) (omega arith)
        (λ j i p. omega (arith, end_at_law j i, last_bound S v h j i (eqb-true (tail s j) v p)))

  vertex_is : (v : ℕ) → v < s.vertices → segment_from s.edges s.tails rows columns ends v ≡ vertex_segment s v
  unfolding segment_from vertex_from vertex_segment rows
  vertex_is v h = by_cases (ℕ_discrete v 1)
      (λ e.
      let z : 0 < s.vertices = omega arith in
      rw (e, first_is 0 z (omega arith), last_is 0 z (omega arith), first_poles S, last_poles S) refl)
      (λ n. rw (ne_eqb v 1 n, first_is v h n, last_is v h n) refl)

  edge_is : (k : ℕ) → k < s.edges → edge_from s.tails s.heads rows columns k ≡ edge_segment s k
  unfolding edge_from edge_segment rows
  edge_is k h = rw (column_at k h) refl

  vertices_are : table (segment_from s.edges s.tails rows columns ends) s.vertices 128 no_vertex_segment ≡ table (vertex_segment s) s.vertices 128 no_vertex_segment
  vertices_are = table_agree _ 128 no_vertex_segment (vertex_segment s) s.vertices vertex_is

  edges_are : table (edge_from s.tails s.heads rows columns) s.edges 256 no_edge_segment ≡ table (edge_segment s) s.edges 256 no_edge_segment
  edges_are = table_agree _ 256 no_edge_segment (edge_segment s) s.edges edge_is

  composed : drawing_from s rows columns ends ≡ record {
    rows = row s 1 + 1;
    columns = edge_column s 0 + 1;
    vertices = table (vertex_segment s) s.vertices 128 no_vertex_segment;
    edges = table (edge_segment s) s.edges 256 no_edge_segment;
  }
  unfolding drawing_from rows
  composed = rw (column_at 0 (some S), vertices_are, edges_are) refl

  pub drawing_is : drawing_from s (row_levels s).level (table (edge_column s) s.edges 256 0) (table (end_column s) s.edges 256 0) ≡ drawing_of s
  unfolding drawing_of table rows columns ends
  drawing_is = composed
