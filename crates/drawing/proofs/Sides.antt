-- The face to the right of a bar's rightmost wires, in the drawing of a sound sheet.
use Rattle.std.proofs.Common.{◌≡◌, refl, sym, ◌∙◌, ap, subst, ◌≢◌, Bool, true, false, cond, ℕ, ◌+◌, ◌/◌, ◌<◌, arith}
use Rattle.counting.proofs.Iterate.{clash}
use Rattle.planarmap.specs.Corners.{Right, corner_face}
use Rattle.planarmap.specs.Contact as plane
use Rattle.planarmap.proofs.Corners.{has_corners}
use Rattle.planarmap.proofs.Sides.{right_side}
use Rattle.clauses.specs.declared.Sheet.{Sheet}
use Rattle.clauses.specs.Darts.{is_tail, head_dart}
use Rattle.sheet.specs.Darts.{tail, head, vertex, next}
use Rattle.sheet.specs.Sound.{Sound, Faces}
use Rattle.sheet.specs.Levels.{Column, right_face}
use Rattle.sheet.specs.Check.{face, column}
use Rattle.soundness.specs.Maps.{map_of}
use Rattle.sheet.proofs.Darts.{dart, dart_kind, dart_edge, dart_below, dart_vertex, edge_below}
use Rattle.soundness.proofs.Plane.{plane_of}
use Rattle.soundness.proofs.Columns.{column_law}
use Rattle.drawing.specs.declared.Drawing.{Drawing}
use Rattle.drawing.specs.Draw.{edge_column, last_column, vertex_segment, drawing_of}
use Rattle.drawing.specs.Points.{vertex_of}
use Rattle.drawing.specs.Laid.{Rightmost, FaceToRight, OneFaceLaw}
use Rattle.drawing.proofs.Segments.{vertex_entry, edge_stands, dart_column_law, column_at, dart_right, laws, long_of}
use Rattle.drawing.proofs.Renumbering.{renumbered, column_renumbered}

-- the bar at a wire's tail end, or at its head end
abbrev pub end_at : Bool → Sheet → ℕ → ℕ
end_at b s k = cond b (tail s k) (head s k)

pub end_at_law : (s : Sheet) (b : Bool) (d : ℕ) → is_tail d ≡ b → end_at b s (d / 2) ≡ vertex s d
unfolding vertex
end_at_law s b d o = rw o refl

module _ {s : Sheet} (S : Sound s) where
  abbrev D : Drawing
  D = drawing_of s

  -- ---- the rightmost wires are those of the map's rightmost darts

  to_map : (b : Bool) (v k : ℕ) → Rightmost s D (end_at b) v k → plane.Rightmost (map_of s) (column s) v b (dart b k)
  to_map b v k F = record {
    below = dart_below b F.inside;
    at_v = dart_vertex s b k ∙ F.at_bar;
    kind = dart_kind b k;
    greatest = λ e h p o. omega (arith, column_at s e, column_at s (dart b k), ap (edge_column s) (dart_edge b k), edge_stands s k F.inside, edge_stands s (e / 2) (edge_below s h), F.greatest (e / 2) (edge_below s h) (end_at_law s b e o ∙ p));
  }

  from_map : (b : Bool) (v d : ℕ) → plane.Rightmost (map_of s) (column s) v b d → Rightmost s D (end_at b) v (d / 2)
  from_map b v d F = record {
    inside = edge_below s F.below;
    at_bar = end_at_law s b d F.kind ∙ F.at_v;
    greatest = λ j h p. omega (arith, column_at s d, dart_column_law s b j, edge_stands s j h, edge_stands s (d / 2) (edge_below s F.below), F.greatest (dart b j) (dart_below b h) (dart_vertex s b j ∙ p) (dart_kind b j));
  }

  -- ---- the one face to the right

  right_of : (b : Bool) (v k q : ℕ) → Right (map_of s) q → vertex s q ≡ v → Rightmost s D (end_at b) v k → right_face (face s) k ≡ corner_face (map_of s) q
  right_of b v k q R e F = sym (dart_right s b k) ∙ (right_side (plane_of S) (laws S) R).one_face b (dart b k) (rw e (to_map b v k F))

  one_right : (label : ℕ → ℕ) (f : ℕ) → Faces s label f → (v k l : ℕ) → Rightmost s D tail v k → Rightmost s D head v l → right_face label k ≡ right_face label l
  one_right label f o v k l F G =
      let B = (plane_of S).bipolar in
      let U = to_map true v k F in
      let W = to_map false v l G in
      let (q, R, e) = (has_corners B).right (rw U.at_v at (B.vertex_below U.below))
      (λ z. clash (B.source W.below (W.at_v ∙ z)) W.kind) (λ z. clash U.kind (B.sink U.below (U.at_v ∙ z))) in
      renumbered S (column_law S).faces o (head_dart k) (head_dart l) (dart_below false F.inside) (dart_below false G.inside)
      (right_of true v k q R e F ∙ sym (right_of false v l q R e G))

  -- ---- where a bar ends

  pub last_is : (v : ℕ) → v < s.vertices → (vertex_of D v).last ≡ last_column s v
  unfolding vertex_segment
  last_is v h = ap (λ z. z.last) (vertex_entry s v h)

  pub to_right : (label : ℕ → ℕ) (f : ℕ) → Faces s label f → (v : ℕ) → v < s.vertices → v ≢ 0 → v ≢ 1
      → (c : ℕ) × FaceToRight s D label v c × Column s label c ((vertex_of D v).last + 1)
  to_right label f o v h n0 n1 =
      let (q, R, e) = (has_corners (plane_of S).bipolar).right h n0 n1 in
      let X = right_side (plane_of S) (laws S) R in
      let U = rw e at (from_map true (vertex s q) q X.outgoing) in
      let W = rw e at (from_map false (vertex s q) (next s q) X.incoming) in
      let below = dart_below false U.inside in
      let C = column_law S in
      let ends : column s (face s (head_dart (q / 2))) ≡ (vertex_of D v).last + 1
      = omega (arith, ap (column s) (right_of true v (q / 2) q R e U), (long_of S).ends R, ap (last_column s) e, last_is v h) in (
        right_face label (q / 2),
        record {
          upward = q / 2;
          upward_rightmost = U;
          right_of_upward = refl;
          downward = next s q / 2;
          downward_rightmost = W;
          right_of_downward = sym (one_right label f o v (q / 2) (next s q / 2) U W);
        },
        subst (Column s label (right_face label (q / 2))) ends
            (column_renumbered S C.faces o (head_dart (q / 2)) below (C.longest (face s (head_dart (q / 2))) (C.faces.inside (head_dart (q / 2)) below))),
      )

pub one_face_law : OneFaceLaw
one_face_law s S = one_right S
