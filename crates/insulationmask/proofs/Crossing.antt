-- Plate and mask of a sound sheet: each wire but wire 0 crosses its own level segment in one point, and they meet nowhere else. Assumes nothing.
use Rattle.std.proofs.Common.{◌≢◌, ◌↔◌, inl, inr, Bool, true, false, List, ℕ, ◌+◌, ◌*◌, ◌<◌, arith}
use Rattle.std.proofs.Math.Decide.{ℕ_discrete}
use Rattle.insulation.specs.Mask as mask
use Rattle.insulation.proofs.Points.{vertical_halves, horizontal_halves, long_no_mask_contact}
use Rattle.clauses.specs.declared.Sheet.{Sheet}
use Rattle.clauses.specs.Darts.{tail_dart, opposite}
use Rattle.sheet.specs.Darts.{vertex}
use Rattle.sheet.specs.Sound.{Sound}
use Rattle.sheet.specs.Check.{row, face, face_count, column}
use Rattle.sheet.proofs.Darts.{dart, dart_below, dart_opposite}
use Rattle.soundness.specs.Maps.{map_of}
use Rattle.soundness.proofs.Plane.{plane_of}
use Rattle.soundness.proofs.Columns.{column_law}
use Rattle.drawing.specs.Draw.{edge_column, right_column, first_column, last_column, least, greatest, drawing_of}
use Rattle.drawing.specs.Points.{Point, OnVertex, OnEdge}
use Rattle.drawing.proofs.Extremes.{Extreme, least_extreme, greatest_extreme}
use Rattle.drawing.proofs.Segments.{edge_stands, laws, long_of}
use Rattle.drawing.proofs.Contact.{edge_low, on_edge, on_vertex, edge_of_law, clear}
use Rattle.halves.specs.Halves.{half_below}
use Rattle.halves.proofs.Fractions.{Compared, below_compared, above_compared}
use Rattle.insulationmask.specs.Mask.{level_row, rows_beside, upright_of, level_of, mask_of}
use Rattle.insulationmask.specs.Insulated.{OnSegment, CrossesOnce, Insulated}
use Rattle.insulationmask.proofs.Places.{own_level, entry_is}
use Rattle.insulationmask.proofs.Places.Entry.{upright, level}
use Rattle.insulationmask.proofs.Uprights.{tail_row, row_found, uprights_of}
use Rattle.insulationmask.proofs.Coordinates.{few_columns, few_rows}

module _ {s : Sheet} (S : Sound s) where
  -- the rows of the ends of a face's upright segment are half a row above these
  abbrev low : ℕ → ℕ
  low g = least (rows_beside s g)

  abbrev high : ℕ → ℕ
  high g = greatest (rows_beside s g)

  -- plate and mask of its map meet nowhere but where an edge crosses its own level
  contact : mask.NoMaskContact (map_of s) (column s) (first_column s) (last_column s) low high
  contact = long_no_mask_contact (plane_of S) (laws S) (long_of S) (uprights_of S)

  -- ---- a point of a wire, a bar or a segment of the mask is one of an edge, a vertex, an upright or a level of the map, counted in halves

  edge_point : {k : ℕ} {p : Point} → k < s.edges → OnEdge (drawing_of s) k p → mask.OnEdge (map_of s) (column s) (tail_dart k) (2 * p.x + p.d) (2 * p.y) p.d
  edge_point {k} {p} h q = (vertical_halves (column s (face s (tail_dart k))) (row s (vertex s (tail_dart k))) (row s (vertex s (opposite (tail_dart k)))) p.x p.y p.d).0 (on_edge S h q)

  vertex_point : {v : ℕ} {p : Point} → v < s.vertices → OnVertex (drawing_of s) v p
      → mask.OnVertex (map_of s) (first_column s) (last_column s) v (2 * p.x + p.d) (2 * p.y) p.d
  vertex_point {v} {p} h q = (horizontal_halves (row s v) (first_column s v) (last_column s v) p.x p.y p.d).0 (on_vertex S h q)

  -- columns and rows are below 256, so their halves come out exact
  best_small : {R : ℕ → ℕ → Type 0} {best : List ℕ → ℕ} → Extreme R best → {g : ℕ} → g < face_count s → best (rows_beside s g) < 256
  best_small E h = let (k, A, q) = row_found E S h in omega (arith, few_rows S k A.inside)

  upright_point : {g : ℕ} (p : Point) → g < face_count s → OnSegment (upright_of s g) p → mask.OnUpright (column s) low high g (2 * p.x + p.d) (2 * p.y) p.d
  unfolding upright_of
  upright_point {g} p h (x, l, u) =
      let X = (below_compared (column s g) (few_columns S g h) p.x p.d p.whole).is.0 x in
      let L = (above_compared (low g) (best_small least_extreme h) p.y p.d p.whole).at_most.0 l in
      let H = (above_compared (high g) (best_small greatest_extreme h) p.y p.d p.whole).at_least.0 u in
      omega arith

  -- the float half a column left of a wire's left or right face, beside a point's column
  side : (b : Bool) {k : ℕ} (p : Point) → k < s.edges → Compared (half_below (column s (face s (dart b k)))) (2 * column s (face s (dart b k))) p.x p.d
  side b {k} p h = below_compared (column s (face s (dart b k))) (few_columns S (face s (dart b k)) ((column_law S).faces.inside (dart b k) (dart_below b h))) p.x p.d p.whole

  level_point : {k : ℕ} (p : Point) → k < s.edges → OnSegment (level_of s k) p ↔ mask.OnLevel (map_of s) (column s) (tail_dart k) (2 * p.x + p.d) (2 * p.y) p.d
  unfolding level_of edge_column right_column
  level_point {k} p h =
      let Y = above_compared (level_row s k) (few_rows S k h) p.y p.d p.whole in
      let A = side true p h in
      let Z = side false p h in
      rw (dart_opposite true k, ← tail_row s k) (
        (λ (y, l, r). record { here = omega (arith, Y.is.0 y); from = A.at_most.0 l; to = Z.at_least.0 r }),
        (λ q. (Y.is.1 (omega (arith, q.here)), A.at_most.1 q.from, Z.at_least.1 q.to)),
      )

  -- ---- a wire and its own level segment

  module _ {k : ℕ} (h : k < s.edges) (n : k ≢ 0) where
    -- where they cross
    crossing : Point
    crossing = record { x = 2 * edge_column s k; y = 2 * row s (vertex s (tail_dart k)) + 1; d = 2; whole = omega arith }

    -- the points of both in the map
    own : (p : Point) → mask.OnBoth (map_of s) (column s) (tail_dart k) (2 * p.x + p.d) (2 * p.y) p.d
        ↔ mask.Crossing (map_of s) (column s) (tail_dart k) (2 * p.x + p.d) (2 * p.y) p.d
    own p = contact.own (edge_of_law S h) (omega arith)

    -- they cross there, inside both, and meet nowhere else
    crosses : CrossesOnce (drawing_of s) k (level_of s k)
    unfolding crossing level_of edge_column right_column
    crosses = record {
      point = crossing;
      inside_edge = record {
        on = record { upright = omega (arith, edge_stands s k h); from_low = omega (arith, edge_low S k h); to_high = omega (arith, edge_low S k h, (clear S).rises k h) };
        not_low = omega (arith, edge_low S k h);
        not_high = omega arith;
      };
      inside_segment = record {
        on = (level_point crossing h).1 ((own crossing).1 (record { across = omega arith; up = omega arith })).level;
        no_end = λ e. elim e [ inl q ↦ omega (arith, (side true crossing h).is.0 q) | inr q ↦ omega (arith, (side false crossing h).is.0 q) ];
      };
      only = λ p q r. let C = (own p).0 (record { edge = edge_point h q; level = (level_point p h).0 r }) in record { x = omega (arith, C.across); y = omega (arith, C.up) };
    }

  pub mask_insulated : Insulated s (drawing_of s) (mask_of s)
  mask_insulated = record {
    own = λ k i h o. rw (own_level S h o) (crosses h o.not_0);
    edges = λ k i p h j q r. elim (entry_is S j) [
      | upright l e ↦ absurd (contact.edge_upright p.whole (edge_of_law S h) l (edge_point h q) (upright_point p l (rw e at r)))
      | level l m o ↦ elim (ℕ_discrete k l) [
        | yes z ↦ rw z o
        | no n ↦ absurd (contact.edge_level p.whole (edge_of_law S h) (edge_of_law S m) (omega (arith, o.not_0)) (omega arith) (edge_point h q) ((level_point p m).0 (rw (own_level S m o) at r)))
      ]
    ];
    vertices = λ v i p h j q r. elim (entry_is S j) [
      | upright l e ↦ contact.vertex_upright p.whole h l (vertex_point h q) (upright_point p l (rw e at r))
      | level l m o ↦ contact.vertex_level p.whole h (edge_of_law S m) (omega (arith, o.not_0)) (vertex_point h q) ((level_point p m).0 (rw (own_level S m o) at r))
    ];
  }
