-- The segments of a sound sheet's drawing, read as those of its map.
use Rattle.std.proofs.Common.{◌≡◌, refl, sym, ◌∙◌, ap, ◌≢◌, Bool, true, false, List, ℕ, suc, ◌-◌, ◌/◌, ◌≤◌, ◌<◌, arith, replicate, le-ltb}
use Rattle.counting.proofs.Iterate.{clash}
use Rattle.planarmap.specs.Contact as plane
use Rattle.planarmap.specs.Contact.{Least, Greatest, Long}
use Rattle.planarmap.specs.Corners.{Right, corner_face}
use Rattle.planarmap.specs.Columns.{ColumnLaws}
use Rattle.planarmap.proofs.Laws.{next_below}
use Rattle.planarmap.proofs.Columns.{column_laws}
use Rattle.planarmap.proofs.Spans.{right_span}
use Rattle.planarmap.proofs.Sides.{right_side}
use Rattle.clauses.specs.declared.Sheet.{Sheet}
use Rattle.clauses.specs.Darts.{is_tail}
use Rattle.sheet.specs.Darts.{darts, vertex, touches, dart_at}
use Rattle.sheet.specs.Sound.{Sound}
use Rattle.sheet.specs.Levels.{right_face}
use Rattle.sheet.specs.Check.{row, face, column}
use Rattle.soundness.specs.Maps.{map_of}
use Rattle.counting.proofs.Below.{get_d_tabulated}
use Rattle.soundness.proofs.Tests.{lt_says}
use Rattle.sheet.proofs.Darts.{dart, dart_is, dart_kind, dart_opposite, edge_below}
use Rattle.soundness.proofs.Plane.{plane_of}
use Rattle.soundness.proofs.Columns.{columns_of}
use Rattle.soundness.proofs.Ends.{at_edge, at_end, end_touches, touched}
use Rattle.drawing.specs.Draw.{edge_column, right_column, columns_at, first_column, last_column, vertex_segment, edge_segment, no_vertex_segment, no_edge_segment, drawing_of}
use Rattle.drawing.specs.Points.{vertex_of, edge_of}
use Rattle.drawing.proofs.Extremes.{Extreme, least_extreme, greatest_extreme, best_is, best_bounds}

-- ---- the drawing's entries

module _ (s : Sheet) where
  pub vertex_entry : (v : ℕ) → v < s.vertices → vertex_of (drawing_of s) v ≡ vertex_segment s v
  unfolding drawing_of
  vertex_entry v h = get_d_tabulated (vertex_segment s) (replicate (128 - s.vertices) no_vertex_segment) no_vertex_segment s.vertices v h

  pub vertex_row : (v : ℕ) → v < s.vertices → (vertex_of (drawing_of s) v).row ≡ row s v
  unfolding vertex_segment
  vertex_row v h = ap (λ z. z.row) (vertex_entry v h)

  pub edge_entry : (k : ℕ) → k < s.edges → edge_of (drawing_of s) k ≡ edge_segment s k
  unfolding drawing_of
  edge_entry k h = get_d_tabulated (edge_segment s) (replicate (256 - s.edges) no_edge_segment) no_edge_segment s.edges k h

  pub edge_stands : (k : ℕ) → k < s.edges → (edge_of (drawing_of s) k).column ≡ edge_column s k
  unfolding edge_segment
  edge_stands k h = ap (λ z. z.column) (edge_entry k h)

  -- ---- the column of a dart's edge

  pub dart_column_law : (b : Bool) (k : ℕ) → plane.edge_column (map_of s) (column s) (dart b k) ≡ edge_column s k
  unfolding edge_column plane.edge_column
  dart_column_law true k = rw (dart_kind true k)
  dart_column_law false k = rw (dart_kind false k, dart_opposite false k)

  pub column_at : (d : ℕ) → plane.edge_column (map_of s) (column s) d ≡ edge_column s (d / 2)
  column_at d = ap (plane.edge_column (map_of s) (column s)) (sym (dart_is d)) ∙ dart_column_law (is_tail d) (d / 2)

  -- ---- the face to the right of a dart's edge

  pub dart_right : (b : Bool) (k : ℕ) → plane.right_face (map_of s) (dart b k) ≡ right_face (face s) k
  unfolding plane.right_face
  dart_right true k = rw (dart_kind true k, dart_opposite true k)
  dart_right false k = rw (dart_kind false k)

  pub right_at_law : (d : ℕ) → column s (plane.right_face (map_of s) d) ≡ right_column s (d / 2)
  unfolding right_column
  right_at_law d = ap (column s) (ap (plane.right_face (map_of s)) (sym (dart_is d)) ∙ dart_right (is_tail d) (d / 2))

-- ---- how far a vertex reaches

module _ {s : Sheet} (S : Sound s) where
  -- each vertex has a dart
  pub some_dart : (v : ℕ) → v < s.vertices → (d : ℕ) × (d < darts s) × (vertex s d ≡ v)
  some_dart v h =
      let (k, l, t) = touched S v h in
      let e = at_end s k v l t in
      (dart_at s k v, e.below, e.here)

  module _ {R : ℕ → ℕ → Type 0} {best : List ℕ → ℕ} (E : Extreme R best) (column_of : ℕ → ℕ) (v : ℕ) (h : v < s.vertices) where
    -- the best column at a vertex is that of an edge that touches it, and stands to that of each such edge as R says
    pub edge_found : (k : ℕ) × (k < s.edges) × (touches s k v ≡ true) × (best (columns_at column_of s v) ≡ column_of k)
    unfolding columns_at
    edge_found = let (k, l, t) = touched S v h in best_is E (λ k. touches s k v) column_of s.edges k l t

    pub edge_bound : (k : ℕ) → k < s.edges → touches s k v ≡ true → R (best (columns_at column_of s v)) (column_of k)
    unfolding columns_at
    edge_bound k i t = best_bounds E (λ k. touches s k v) column_of s.edges k i t k i t

    -- and so for darts, where `dart_column` is the column of a dart's edge
    module _ (dart_column : ℕ → ℕ) (same : (d : ℕ) → dart_column d ≡ column_of (d / 2)) where
      found : (d : ℕ) × (d < darts s) × (vertex s d ≡ v) × (best (columns_at column_of s v) ≡ dart_column d)
      found =
          let (j, i, t, p) = edge_found in
          let e = at_end s j v i t in
          (dart_at s j v, e.below, e.here, p ∙ ap column_of (sym (at_edge s j v)) ∙ sym (same (dart_at s j v)))

      bound : (d : ℕ) → d < darts s → vertex s d ≡ v → R (best (columns_at column_of s v)) (dart_column d)
      bound d l q = rw (same d) (edge_bound (d / 2) (edge_below s l) (end_touches s (record { below = l; here = q })))

  pub laws : ColumnLaws (map_of s) (column s)
  laws = column_laws (plane_of S) (columns_of S)

  first_least : (v : ℕ) → v < s.vertices → Least (map_of s) (column s) v (first_column s v)
  unfolding first_column
  first_least v h = record { found = found least_extreme (edge_column s) v h _ (column_at s); least = bound least_extreme (edge_column s) v h _ (column_at s) }

  last_greatest : (v : ℕ) → v < s.vertices → v < 2 → Greatest (map_of s) (column s) v (last_column s v)
  unfolding last_column
  last_greatest v h l = rw ((lt_says v 2).1 l) (record { found = found greatest_extreme (edge_column s) v h _ (column_at s); greatest = bound greatest_extreme (edge_column s) v h _ (column_at s) })

  -- a vertex with a right corner is neither 0 nor 1
  inner : {k : ℕ} → Right (map_of s) k → 2 ≤ vertex s k
  inner {k} R = omega (arith, off_source, off_sink)
    where
      off_source : vertex s k ≢ 0
      off_source e = clash ((plane_of S).bipolar.source (next_below (plane_of S).bipolar R.below) ((plane_of S).bipolar.next_vertex R.below ∙ e)) R.second

      off_sink : vertex s k ≢ 1
      off_sink e = clash R.first ((plane_of S).bipolar.sink R.below e)

  last_right : {k : ℕ} → Right (map_of s) k → suc (last_column s (vertex s k)) ≡ column s (corner_face (map_of s) k)
  unfolding last_column
  last_right {k} R =
      let h = (plane_of S).bipolar.vertex_below R.below in
      let (d, l, e, p) = found greatest_extreme (right_column s) (vertex s k) h _ (right_at_law s) in
      let most = (right_side (plane_of S) laws R).greatest d l e in
      let corner = (right_side (plane_of S) laws R).one_face true k (right_side (plane_of S) laws R).outgoing in
      let least = bound greatest_extreme (right_column s) (vertex s k) h _ (right_at_law s) k R.below refl in
      rw (le-ltb (vertex s k) 2 (inner R))
      (omega (arith, p, most, least, ap (column s) corner, right_span (plane_of S) laws R R.below refl))

  pub long_of : Long (map_of s) (column s) (first_column s) (last_column s)
  long_of = record {
    begins = λ {v} h. first_least v h;
    ends = last_right;
    source = last_greatest 0 (omega (arith, S.limits.vertices_least)) (omega arith);
    sink = last_greatest 1 S.limits.vertices_least (omega arith);
  }
