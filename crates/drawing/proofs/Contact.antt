-- Nothing touches that may not, in the drawing of a sound sheet.
use Rattle.std.proofs.Common.{◌≡◌, sym, ◌∙◌, ap, subst, inl, inr, Bool, true, false, ℕ, ◌*◌, ◌<◌, mul-le-mul_right, arith}
use Rattle.std.proofs.Math.Logic.{by_cases}
use Rattle.std.proofs.Math.Decide.{ℕ_discrete}
use Rattle.planarmap.specs.Order.{Edge}
use Rattle.planarmap.specs.Contact.{NoContact, Reaches, Joins}
use Rattle.planarmap.specs.Contact as plane
use Rattle.planarmap.proofs.Contact.{apart}
use Rattle.planarmap.proofs.Spans.{long_extent, long_reaches}
use Rattle.planarmap.proofs.Points.{no_contact}
use Rattle.clauses.specs.declared.Sheet.{Sheet}
use Rattle.clauses.specs.Darts.{tail_dart, opposite}
use Rattle.sheet.specs.Darts.{vertex}
use Rattle.sheet.specs.Sound.{Sound}
use Rattle.sheet.specs.Check.{row, column}
use Rattle.soundness.specs.Maps.{map_of}
use Rattle.sheet.proofs.Darts.{dart, dart_kind, dart_below, dart_opposite, dart_vertex}
use Rattle.soundness.proofs.Plane.{plane_of}
use Rattle.drawing.specs.declared.Drawing.{Drawing}
use Rattle.drawing.specs.Draw.{edge_column, first_column, last_column, vertex_segment, edge_segment, drawing_of}
use Rattle.drawing.specs.Points.{Point, edge_of, OnVertex, OnEdge}
use Rattle.drawing.specs.Clear.{Meet, Clear}
use Rattle.drawing.proofs.Segments.{vertex_entry, edge_entry, edge_stands, dart_column_law, laws, long_of}

module _ {s : Sheet} (S : Sound s) where
  abbrev D : Drawing
  D = drawing_of s

  contact : NoContact (map_of s) (column s) (first_column s) (last_column s)
  contact = no_contact (apart (plane_of S) (laws S) (long_extent (plane_of S) (laws S) (long_of S)))

  reaches : Reaches (map_of s) (column s) (first_column s) (last_column s)
  reaches = long_reaches (plane_of S) (laws S) (long_of S)

  -- ---- the drawing's points are the map's

  pub edge_low : (k : ℕ) → k < s.edges → (edge_of D k).low ≡ row s (vertex s (tail_dart k))
  unfolding edge_segment
  edge_low k h = ap (λ z. z.low) (edge_entry s k h) ∙ ap (row s) (sym (dart_vertex s true k))

  pub edge_high : (k : ℕ) → k < s.edges → (edge_of D k).high ≡ row s (vertex s (opposite (tail_dart k)))
  unfolding edge_segment
  edge_high k h = ap (λ z. z.high) (edge_entry s k h) ∙ ap (row s) (sym (ap (vertex s) (dart_opposite true k) ∙ dart_vertex s false k))

  pub on_edge : {k : ℕ} {p : Point} → k < s.edges → OnEdge D k p → plane.OnEdge (map_of s) (column s) (tail_dart k) p.x p.y p.d
  unfolding edge_column
  on_edge {k} h q = record { here = rw (edge_stands s k h) at q.upright; from = rw (edge_low k h) at q.from_low; to = rw (edge_high k h) at q.to_high }

  pub on_vertex : {v : ℕ} {p : Point} → v < s.vertices → OnVertex D v p → plane.OnVertex (map_of s) (first_column s) (last_column s) v p.x p.y p.d
  unfolding vertex_segment
  on_vertex {v} h q = record { here = rw (vertex_entry s v h) at q.level; from = rw (vertex_entry s v h) at q.from_first; to = rw (vertex_entry s v h) at q.to_last }

  pub edge_of_law : {k : ℕ} → k < s.edges → Edge (map_of s) (tail_dart k)
  edge_of_law {k} h = record { below = dart_below true h; is_out = dart_kind true k }

  -- ---- points in common

  meets : {k l : ℕ} {p : Point} → k < s.edges → l < s.edges → OnEdge D k p → OnEdge D l p
      → Joins (map_of s) (tail_dart k) (tail_dart l) p.y p.d → Meet s D k l p
  meets {k} {l} {p} h i q r j = record {
    bar = sym (dart_vertex s false k) ∙ ap (vertex s) (sym (dart_opposite true k)) ∙ j.joint ∙ dart_vertex s true l;
    ends = record { on = q; highest = rw (edge_high k h) (j.there ∙ ap (λ v. row s v * p.d) (sym j.joint)) };
    begins = record { on = r; lowest = rw (edge_low l i) j.there };
  }

  -- a point of an edge, in the row of the vertex of one of its darts, is on that vertex
  on_end : (b : Bool) {k : ℕ} {p : Point} → k < s.edges → OnEdge D k p → p.y ≡ row s (vertex s (dart b k)) * p.d → OnVertex D (vertex s (dart b k)) p
  unfolding vertex_segment
  on_end b {k} {p} h q e =
      let v = vertex s (dart b k) in
      let E = vertex_entry s v ((plane_of S).bipolar.vertex_below (dart_below b h)) in
      let (f, l) = reaches (dart b k) (dart_below b h) in
      let x : p.x ≡ edge_column s k * p.d = q.upright ∙ ap (λ c. c * p.d) (edge_stands s k h) in
      record {
        level = rw E e;
        from_first = rw (E, x) (mul-le-mul_right p.d (rw (dart_column_law s b k) at f));
        to_last = rw (E, x) (mul-le-mul_right p.d (rw (dart_column_law s b k) at l));
      }

  pub clear : Clear s (drawing_of s)
  clear = record {
    vertices_apart = λ v w p h i q r. by_cases (ℕ_discrete v w) (λ e. e)
        (λ n. absurd (contact.vertices p.whole h i n (on_vertex h q) (on_vertex i r)));
    vertex_edge = λ v k p h i q r. elim (contact.vertex_edge p.whole h (edge_of_law i) (on_vertex h q) (on_edge i r)) [
      | inl z ↦ inl (z.end ∙ dart_vertex s true k, record { on = r; lowest = rw (edge_low k i) z.there })
      | inr z ↦ inr (z.end ∙ ap (vertex s) (dart_opposite true k) ∙ dart_vertex s false k, record { on = r; highest = rw (edge_high k i) z.there })
    ];
    edges_apart = λ k l p h i n q r. elim (contact.edges p.whole (edge_of_law h) (edge_of_law i) (omega arith) (on_edge h q) (on_edge i r)) [
      | inl j ↦ inl (meets h i q r j)
      | inr j ↦ inr (meets i h r q j)
    ];
    rises = λ k h. rw (edge_low k h, edge_high k h) ((plane_of S).bipolar.rises (dart_below true h) (dart_kind true k));
    on_tail = λ k p h q. subst (λ v. OnVertex D v p) (dart_vertex s true k) (on_end true h q.on (rw (edge_low k h) at q.lowest));
    on_head = λ k p h q. subst (λ v. OnVertex D v p) (dart_vertex s false k)
        (on_end false h q.on (rw (edge_high k h, dart_opposite true k) at q.highest));
  }
