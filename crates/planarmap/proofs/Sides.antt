-- The face to the right of a vertex: between its rightmost outgoing and its rightmost incoming edge. The edges of vertices 0 and 1 in the first column.
use Rattle.std.proofs.Common.{◌≡◌, refl, sym, ◌∙◌, ap, Bool, true, false, cond, ℕ, ◌≤◌, ◌<◌, arith}
use Rattle.std.proofs.Math.Decide.{dec_le}
use Rattle.counting.proofs.Iterate.{by_bool}
use Rattle.planarmap.specs.Map.{Map, Bipolar, Plane}
use Rattle.planarmap.specs.Corners.{Right, corner_face}
use Rattle.planarmap.specs.Columns.{ColumnLaws}
use Rattle.planarmap.specs.Contact.{edge_column, right_face, Rightmost, RightSide}
use Rattle.planarmap.proofs.Laws.{next_below, face_next, previous}
use Rattle.planarmap.proofs.Contact.{left_at, right_at}
use Rattle.planarmap.proofs.Spans.{column_of_law, right_span}
use Rattle.planarmap.proofs.Rotation.{Dart, one_dart}

face_of : (M : Map) (column : ℕ → ℕ) (b : Bool) (d : ℕ) → M.out d ≡ b → column (right_face M d) ≡ right_at M column b d
unfolding right_face
face_of M column true d o = rw o refl
face_of M column false d o = rw o refl

module _ {M : Map} (P : Plane M) {column : ℕ → ℕ} (L : ColumnLaws M column) where
  B : Bipolar M
  B = P.bipolar

  -- ---- the right side of a vertex

  module _ {k : ℕ} (R : Right M k) where
    abbrev v : ℕ
    v = M.vertex k

    -- the two darts of the corner
    abbrev beside : Bool → ℕ
    beside b = cond b k (M.next k)

    corner : (b : Bool) → Dart P L b v (beside b)
    corner true = record { below = R.below; at_v = refl; kind = R.first }
    corner false = record { below = next_below B R.below; at_v = B.next_vertex R.below; kind = R.second }

    -- the face to the right of both
    corner_face_law : (b : Bool) → right_face M (beside b) ≡ corner_face M k
    unfolding right_face
    corner_face_law true = rw R.first (sym (face_next B R.below))
    corner_face_law false = rw R.second refl

    corner_right : (b : Bool) → right_at M column b (beside b) ≡ column (corner_face M k)
    corner_right b = sym (face_of M column b (beside b) (corner b).kind) ∙ ap column (corner_face_law b)

    -- every edge stands before that face
    before : (b : Bool) {e : ℕ} → Dart P L b v e → left_at M column b e < column (corner_face M k)
    before b {e} E = omega (arith, right_span P L R E.below E.at_v, column_of_law M column b e E.kind)

    module _ (b : Bool) {e : ℕ} (E : Dart P L b v e) where
      -- one that stands as far right as the corner's of its kind is the corner's
      same : left_at M column b (beside b) ≤ left_at M column b e → beside b ≡ e
      same l = one_dart P L (corner b) E l (omega (arith, before b E, corner_right b))

      -- and none stands further right
      no_further : left_at M column b e ≤ left_at M column b (beside b)
      no_further = elim (dec_le (left_at M column b e) (left_at M column b (beside b))) [
        | yes l ↦ l
        | no l ↦ omega (arith, ap (left_at M column b) (same (omega arith)))
      ]

      face_no_further : right_at M column b e ≤ column (corner_face M k)
      face_no_further = elim (dec_le (right_at M column b e) (column (corner_face M k))) [
        | yes l ↦ l
        | no l ↦ omega (arith, corner_right b, ap (right_at M column b) (one_dart P L E (corner b) no_further (omega (arith, before b (corner b)))))
      ]

    rightmost : (b : Bool) → Rightmost M column v b (beside b)
    rightmost b = record {
      below = (corner b).below;
      at_v = (corner b).at_v;
      kind = (corner b).kind;
      greatest = λ e h p o. omega (arith, no_further b (record { below = h; at_v = p; kind = o }), column_of_law M column b e o, column_of_law M column b (beside b) (corner b).kind);
    }

    one_face : (b : Bool) (d : ℕ) → Rightmost M column v b d → right_face M d ≡ corner_face M k
    one_face b d F =
        let D : Dart P L b v d = record { below = F.below; at_v = F.at_v; kind = F.kind } in
        let C = corner b in
        ap (right_face M) (sym (same b D (omega (arith, F.greatest (beside b) C.below C.at_v C.kind, column_of_law M column b d F.kind, column_of_law M column b (beside b) C.kind))))
        ∙ corner_face_law b

    pub right_side : RightSide M column k
    right_side = record {
      outgoing = rightmost true;
      incoming = rightmost false;
      one_face = one_face;
      greatest = λ d h p. by_bool (M.out d) (at true d h p) (at false d h p);
    }
      where
        at : (b : Bool) (d : ℕ) → d < M.darts → M.vertex d ≡ v → M.out d ≡ b → column (right_face M d) ≤ column (corner_face M k)
        at b d h p o = omega (arith, face_of M column b d o, face_no_further b (record { below = h; at_v = p; kind = o }))

  -- ---- the first column

  -- vertices 0 and 1 each have an edge in the first column
  pub source_first : edge_column M column (M.next M.root) ≡ 0
  source_first =
      let h = next_below B B.root_below in
      column_of_law M column true (M.next M.root) (B.source h (B.next_vertex B.root_below ∙ B.root_tail)) ∙ ap column (face_next B B.root_below) ∙ L.first

  pub sink_first : (d : ℕ) × (d < M.darts) × (M.vertex d ≡ 1) × (edge_column M column d ≡ 0)
  sink_first =
      let (d, (h, e), q) = previous B (B.opposite_below B.root_below) in
      let at_1 : M.vertex d ≡ 1 = e ∙ B.root_head in
      (d, h, at_1, column_of_law M column false d (B.sink h at_1) ∙ ap column (sym (face_next B h) ∙ ap M.face q) ∙ L.first)
