-- The rotation round each vertex is the order of the edges by column.
use Rattle.std.proofs.Common.{◌≡◌, refl, sym, ◌∙◌, ap, Bool, true, false, ◌≢◌, ◌⊎◌, inl, inr, ℕ, ◌≤◌, ◌<◌, arith}
use Rattle.std.proofs.Math.Decide.{ℕ_discrete, dec_lt}
use Rattle.counting.proofs.Iterate.{by_bool, clash}
use Rattle.planarmap.specs.Map.{Map, Bipolar, Plane}
use Rattle.planarmap.specs.Corners.{Left, Right}
use Rattle.planarmap.specs.Columns.{ColumnLaws}
use Rattle.planarmap.specs.Rotation.{Before, Follows, Clockwise}
use Rattle.planarmap.specs.Rotation.Before.{rising, turning, falling}
use Rattle.planarmap.specs.Rotation.Follows.{directly, round}
use Rattle.planarmap.proofs.Laws.{root_dart, next_below, face_next}
use Rattle.planarmap.proofs.Corners.{one_corner}
use Rattle.planarmap.proofs.Frontier.{one_front}
use Rattle.planarmap.proofs.Contact.{left_at, right_at, closed, front_at, rises_at, right_last, root_left, before_root}
use Rattle.planarmap.proofs.Spans.{column_of_law, left_span, right_span}

module _ {M : Map} (P : Plane M) {column : ℕ → ℕ} (L : ColumnLaws M column) where
  B : Bipolar M
  B = P.bipolar

  -- a dart at the vertex v, tail or head
  pub record Dart (b : Bool) (v d : ℕ) : Type 0 where
    pub below : d < M.darts
    pub at_v : M.vertex d ≡ v
    pub kind : M.out d ≡ b

  -- the columns of the faces on its two sides
  abbrev at : ℕ → ℕ
  at d = column (M.face d)

  abbrev far : ℕ → ℕ
  far d = column (M.face (M.opposite d))

  at_next : {d : ℕ} → d < M.darts → at (M.next d) ≡ far d
  at_next h = ap column (face_next B h)

  rises : {b : Bool} {v d : ℕ} → Dart b v d → d ≢ root_dart M b → left_at M column b d < right_at M column b d
  rises {b} D n = rises_at P L b D.below D.kind n

  -- of two darts of one kind at a vertex neither has its edge's column within the other's edge
  pub one_dart : {b : Bool} {v d e : ℕ} → Dart b v d → Dart b v e → left_at M column b d ≤ left_at M column b e → left_at M column b e < right_at M column b d → d ≡ e
  one_dart {b} {v} {d} {e} D E l r =
      let other : e ≢ root_dart M b = λ z. omega (arith, ap (left_at M column b) z, root_left P L b, right_last P L b D.below) in
      one_front B (closed P L (left_at M column b e)) (one_corner P)
      (front_at P L b D.below D.kind l r) (front_at P L b E.below E.kind (omega arith) (rises E other)) (D.at_v ∙ sym E.at_v)

  -- so their columns differ
  differ : {b : Bool} {v d e : ℕ} → Dart b v d → Dart b v e → d ≢ e → left_at M column b d ≢ left_at M column b e
  differ {b} {v} {d} {e} D E n p = elim (ℕ_discrete d (root_dart M b)) [
    | no k ↦ n (one_dart D E (omega arith) (omega (arith, rises D k)))
    | yes z ↦ n (sym (one_dart E D (omega arith) (omega (arith, rises E (λ y. n (z ∙ sym y))))))
  ]

  -- in the terms of the statement
  rise : {v d e : ℕ} → Dart true v d → Dart true v e → at d < at e → Before M column d e
  rise {v} {d} {e} D E l = rising D.kind E.kind (omega (arith, column_of_law M column true d D.kind, column_of_law M column true e E.kind))

  fall : {v d e : ℕ} → Dart false v d → Dart false v e → far e < far d → Before M column d e
  fall {v} {d} {e} D E l = falling D.kind E.kind (omega (arith, column_of_law M column false d D.kind, column_of_law M column false e E.kind))

  turn : {v d e : ℕ} → Dart true v d → Dart false v e → Before M column d e
  turn D E = turning D.kind E.kind

  ordered : {d e : ℕ} → d < M.darts → e < M.darts → M.vertex d ≡ M.vertex e → d ≢ e → Before M column d e ⊎ Before M column e d
  ordered {d} {e} h k p n =
      by_bool (M.out d)
      (λ o. by_bool (M.out e)
      (λ o₁.
      let D : Dart true (M.vertex e) d = record { below = h; at_v = p; kind = o } in
      let E : Dart true (M.vertex e) e = record { below = k; at_v = refl; kind = o₁ } in
      elim (dec_lt (at d) (at e)) [ yes l ↦ inl (rise D E l) | no l ↦ inr (rise E D (omega (arith, differ D E n))) ])
      (λ i₁. inl (turning o i₁)))
      (λ i. by_bool (M.out e)
      (λ o₁. inr (turning o₁ i))
      (λ i₁.
      let D : Dart false (M.vertex e) d = record { below = h; at_v = p; kind = i } in
      let E : Dart false (M.vertex e) e = record { below = k; at_v = refl; kind = i₁ } in
      elim (dec_lt (far e) (far d)) [ yes l ↦ inl (fall D E l) | no l ↦ inr (fall E D (omega (arith, differ D E n))) ]))

  -- ---- the four kinds of corner

  -- a fact of every dart at v, by its kind
  each : {v : ℕ} (Q : ℕ → Type 0) → ((e : ℕ) → Dart true v e → Q e) → ((e : ℕ) → Dart false v e → Q e) → (e : ℕ) → e < M.darts → M.vertex e ≡ v → Q e
  each Q t f e h p = by_bool (M.out e) (λ o. t e (record { below = h; at_v = p; kind = o })) (λ i. f e (record { below = h; at_v = p; kind = i }))

  bottom : {d : ℕ} → Dart true (M.vertex d) d → Dart true (M.vertex d) (M.next d) → Follows M column d
  bottom {d} D N = elim (ℕ_discrete d M.root) [
    | yes z ↦
        let none : (e : ℕ) → Dart false (M.vertex d) e → ⊥
        = λ e E. clash (B.source E.below (E.at_v ∙ ap M.vertex z ∙ B.root_tail)) E.kind in
        round
        (each (λ e. e ≢ d → Before M column e d)
        (λ e E n. rise E D (omega (arith, before_root P L true E.below E.kind (λ y. n (y ∙ sym z)), ap at z)))
        (λ e E n. absurd (none e E)))
        (each (λ e. e ≢ M.next d → Before M column (M.next d) e)
        (λ e E n. rise N E (omega (arith, at_next D.below, ap far z, L.first, differ E N n)))
        (λ e E n. absurd (none e E)))
    | no k ↦ directly (rise D N (omega (arith, rises D k, at_next D.below))) (λ e h p n b. elim b [
      | rising o o₁ l ↦
          let E : Dart true (M.vertex d) e = record { below = h; at_v = p; kind = o₁ } in
          let past : at d < at e = omega (arith, column_of_law M column true d o, column_of_law M column true e o₁) in
          elim (dec_lt (at e) (far d)) [
            | yes r ↦ absurd (omega (arith, ap at (one_dart D E (omega arith) r)))
            | no r ↦ rise N E (omega (arith, at_next D.below, differ E N n))
          ]
      | turning o i ↦ turning N.kind i
      | falling i i₁ l ↦ clash D.kind i
    ])
  ]

  right : {d : ℕ} → Dart true (M.vertex d) d → Dart false (M.vertex d) (M.next d) → Follows M column d
  right {d} D N =
      let R : Right M d = record { below = D.below; first = D.kind; second = N.kind } in
      directly (turn D N) (λ e h p n b. elim b [
        | rising o o₁ l ↦
            let E : Dart true (M.vertex d) e = record { below = h; at_v = p; kind = o₁ } in
            let past : at d < at e = omega (arith, column_of_law M column true d o, column_of_law M column true e o₁) in
            absurd (omega (arith, ap at (one_dart D E (omega arith) (omega (arith, right_span P L R h p, column_of_law M column true e o₁, at_next D.below)))))
        | turning o i ↦
            let E : Dart false (M.vertex d) e = record { below = h; at_v = p; kind = i } in
            elim (dec_lt (far e) (far (M.next d))) [
              | yes l ↦ fall N E l
              | no l ↦ absurd (n (sym (one_dart N E (omega arith) (omega (arith, right_span P L R h p, column_of_law M column false e i)))))
            ]
        | falling i i₁ l ↦ clash D.kind i
      ])

  top : {d : ℕ} → Dart false (M.vertex d) d → Dart false (M.vertex d) (M.next d) → Follows M column d
  top {d} D N = elim (ℕ_discrete (M.next d) (M.opposite M.root)) [
    | yes z ↦
        let one : M.vertex d ≡ 1 = sym N.at_v ∙ ap M.vertex z ∙ B.root_head in
        let none : (e : ℕ) → Dart true (M.vertex d) e → ⊥ = λ e E. clash E.kind (B.sink E.below (E.at_v ∙ one)) in
        round
        (each (λ e. e ≢ d → Before M column e d)
        (λ e E n. absurd (none e E))
        (λ e E n. fall E D (omega (arith, at_next D.below, ap at z, L.first, differ E D n))))
        (each (λ e. e ≢ M.next d → Before M column (M.next d) e)
        (λ e E n. absurd (none e E))
        (λ e E n. fall N E (omega (arith, before_root P L false E.below E.kind (λ y. n (y ∙ sym z)), ap far z, ap at (B.opposite_opposite B.root_below)))))
    | no k ↦ directly (fall D N (omega (arith, rises N k, at_next D.below))) (λ e h p n b. elim b [
      | rising o o₁ l ↦ clash o D.kind
      | turning o i ↦ clash o D.kind
      | falling i i₁ l ↦
          let E : Dart false (M.vertex d) e = record { below = h; at_v = p; kind = i₁ } in
          let past : far e < at (M.next d) = omega (arith, column_of_law M column false d i, column_of_law M column false e i₁, at_next D.below) in
          elim (dec_lt (far e) (far (M.next d))) [
            | yes r ↦ fall N E r
            | no r ↦ absurd (n (sym (one_dart N E (omega arith) past)))
          ]
    ])
  ]

  left : {d : ℕ} → Dart false (M.vertex d) d → Dart true (M.vertex d) (M.next d) → Follows M column d
  left {d} D N =
      let A : Left M d = record { below = D.below; first = D.kind; second = N.kind } in
      round
      (each (λ e. e ≢ d → Before M column e d)
      (λ e E n. turn E D)
      (λ e E n. fall E D (omega (arith, left_span P L A E.below E.at_v, column_of_law M column false e E.kind, at_next D.below, differ E D n))))
      (each (λ e. e ≢ M.next d → Before M column (M.next d) e)
      (λ e E n. rise N E (omega (arith, left_span P L A E.below E.at_v, column_of_law M column true e E.kind, differ E N n)))
      (λ e E n. turn N E))

  pub clockwise : Clockwise M column
  clockwise = record {
    ordered = ordered;
    follows = λ {d} h.
        let here : (b : Bool) → M.out d ≡ b → Dart b (M.vertex d) d = λ b o. record { below = h; at_v = refl; kind = o } in
        let next : (b : Bool) → M.out (M.next d) ≡ b → Dart b (M.vertex d) (M.next d)
        = λ b o. record { below = next_below B h; at_v = B.next_vertex h; kind = o } in
        by_bool (M.out d)
        (λ o. by_bool (M.out (M.next d)) (λ o₁. bottom (here true o) (next true o₁)) (λ i₁. right (here true o) (next false i₁)))
        (λ i. by_bool (M.out (M.next d)) (λ o₁. left (here false i) (next true o₁)) (λ i₁. top (here false i) (next false i₁)));
  }
