-- Nothing touches but an edge its own vertices: by the chain lemma, for the faces up to a column.
use Rattle.std.proofs.Common.{◌≡◌, refl, sym, ◌∙◌, ap, Bool, true, false, not, ◌≢◌, ◌⊎◌, inl, inr, ℕ, ◌≤◌, ◌<◌, arith, leb, leb-true, le-leb}
use Rattle.std.proofs.Math.Decide.{ℕ_discrete, dec_le}
use Rattle.std.proofs.lemmas.Bool.{lt-leb}
use Rattle.planarmap.specs.Map.{Map, Bipolar, Plane}
use Rattle.planarmap.specs.Order.{Edge}
use Rattle.planarmap.specs.Columns.{ColumnLaws}
use Rattle.planarmap.specs.Contact.{Cross, Under, Chain, Extent, Apart}
use Rattle.planarmap.proofs.Laws.{root_dart, at_next, next_below, opposite_is}
use Rattle.planarmap.proofs.Corners.{has_corners}
use Rattle.planarmap.proofs.Frontier.{Closed, Front, crossing}
use Rattle.planarmap.proofs.Chain.{at_source, at_sink, chain}

-- whether the face f is in column c or left of it
abbrev pub up_to : (ℕ → ℕ) → ℕ → ℕ → Bool
up_to column c f = leb (column f) c

-- the columns of the left and of the right face of the edge of d, a tail or a head
abbrev pub left_at : Map → (ℕ → ℕ) → Bool → ℕ → ℕ
left_at M column true d = column (M.face d)
left_at M column false d = column (M.face (M.opposite d))

abbrev pub right_at : Map → (ℕ → ℕ) → Bool → ℕ → ℕ
right_at M column b d = left_at M column (not b) d

module _ {M : Map} (P : Plane M) {column : ℕ → ℕ} (L : ColumnLaws M column) where
  B : Bipolar M
  B = P.bipolar

  -- the column of the face of d
  abbrev pub at : ℕ → ℕ
  at d = column (M.face d)

  -- the faces up to a column are a closed set
  pub closed : (c : ℕ) → Closed M (up_to column c)
  closed c = record {
    start = le-leb (at (M.opposite M.root)) c (omega (arith, L.first));
    close = λ e E n p. le-leb (at e) c (omega (arith, L.rises e E n, leb-true (at (M.opposite e)) c p));
  }

  -- and its front edges are those that cross the column
  pub front_at : (b : Bool) {c d : ℕ} → d < M.darts → M.out d ≡ b → left_at M column b d ≤ c → c < right_at M column b d → Front M (up_to column c) b d
  front_at true {c} {d} h o l r = record { below = h; kind = o; this = le-leb (at d) c l; far = lt-leb (at (M.opposite d)) c r }
  front_at false {c} {d} h o l r = record { below = h; kind = o; this = lt-leb (at d) c r; far = le-leb (at (M.opposite d)) c l }

  pub chain_lemma : Chain M column
  chain_lemma c d e D E = chain P (closed c) (front D) (front E)
    where
      front : {c e : ℕ} → Cross M column c e → Front M (up_to column c) true e
      front X = front_at true X.edge.below X.edge.is_out X.left X.right

  -- columns rise across the edge of a dart but the root's, up to the column of the root
  pub rises_at : (b : Bool) {d : ℕ} → d < M.darts → M.out d ≡ b → d ≢ root_dart M b → left_at M column b d < right_at M column b d
  rises_at true {d} h o n = L.rises d (record { below = h; is_out = o }) n
  rises_at false {d} h i n =
      let up = L.rises (M.opposite d) (record { below = B.opposite_below h; is_out = opposite_is B h i })
      (λ p. n (sym (B.opposite_opposite h) ∙ ap M.opposite p)) in
      omega (arith, ap at (B.opposite_opposite h))

  pub last_at : {d : ℕ} → d < M.darts → at d ≤ at M.root
  last_at {d} h = L.last (B.walks.inside d h)

  pub right_last : (b : Bool) {d : ℕ} → d < M.darts → right_at M column b d ≤ at M.root
  right_last true h = last_at (B.opposite_below h)
  right_last false h = last_at h

  pub root_left : (b : Bool) → left_at M column b (root_dart M b) ≡ at M.root
  root_left true = refl
  root_left false = ap at (B.opposite_opposite B.root_below)

  -- the root is alone in its column, the last
  pub before_root : (b : Bool) {d : ℕ} → d < M.darts → M.out d ≡ b → d ≢ root_dart M b → left_at M column b d < at M.root
  before_root b h o n = omega (arith, rises_at b h o n, right_last b h)

  -- an edge other than the root crosses its own column
  own : {e : ℕ} → Edge M e → e ≢ M.root → Front M (up_to column (at e)) true e
  own {e} E n = front_at true E.below E.is_out (omega arith) (L.rises e E n)

  edges_apart : {d e : ℕ} → Edge M d → Edge M e → d ≢ e → at d ≡ at e → Under M d e ⊎ Under M e d
  edges_apart {d} {e} D E n p = elim (ℕ_discrete d M.root) [
    | yes i ↦ absurd (omega (arith, before_root true E.below E.is_out (λ j. n (i ∙ sym j)), ap at i))
    | no i ↦ elim (ℕ_discrete e M.root) [
      | yes j ↦ absurd (omega (arith, before_root true D.below D.is_out i, ap at j))
      | no j ↦
          let X : Front M (up_to column (at e)) true d = rw p at (own D i) in
          let Y = own E j in
          elim (dec_le (M.row (M.vertex d)) (M.row (M.vertex e))) [
            | yes q ↦ elim (chain P (closed (at e)) X Y q) [ inl k ↦ absurd (n k) | inr u ↦ inl u ]
            | no q ↦ elim (chain P (closed (at e)) Y X (omega arith)) [ inl k ↦ absurd (n (sym k)) | inr u ↦ inr u ]
          ]
    ]
  ]

  module _ {first last : ℕ → ℕ} (X : Extent M column first last) where
    -- a vertex other than 0 and 1 has a front edge that leaves it, for each column that it covers
    pub covers : {v c : ℕ} → v < M.vertices → v ≢ 0 → v ≢ 1 → first v ≤ c → c ≤ last v → (e : ℕ) × (M.vertex e ≡ v) × Front M (up_to column c) true e
    covers {v} {c} h n0 n1 a b =
        let (l, A, al) = (has_corners B).left h n0 n1 in
        let (k, Z, ak) = (has_corners B).right h n0 n1 in
        let (y, same, begins) = crossing B (closed c) true (at_next B l (A.below, al)) (at_next B k (Z.below, ak))
        (le-leb (at (M.next l)) c (omega (arith, X.from_left A, ap first al)))
        (lt-leb (at (M.next k)) c (omega (arith, X.to_right Z, ap last ak))) in
        (y, same, elim begins [ inl F ↦ F | inr (is_root, _) ↦ absurd (n1 (sym same ∙ ap M.vertex is_root ∙ B.root_head)) ])

    -- and ends left of the root
    ends_before : {v : ℕ} → v < M.vertices → v ≢ 0 → v ≢ 1 → last v < at M.root
    ends_before h n0 n1 =
        let (k, Z, ak) = (has_corners B).right h n0 n1 in
        omega (arith, X.to_right Z, ap last ak, last_at (next_below B Z.below))

    vertex_edge_apart : {v e : ℕ} → v < M.vertices → Edge M e → first v ≤ at e → at e ≤ last v
        → M.row (M.vertex e) ≤ M.row v → M.row v ≤ M.row (M.vertex (M.opposite e)) → (v ≡ M.vertex e) ⊎ (v ≡ M.vertex (M.opposite e))
    vertex_edge_apart {v} {e} h E a b up down = elim (ℕ_discrete v 0) [
      | yes z ↦ inl (z ∙ sym (at_source B (B.vertex_below E.below) (omega (arith, ap M.row z))))
      | no n0 ↦ elim (ℕ_discrete v 1) [
        | yes z ↦ inr (z ∙ sym (at_sink B (B.vertex_below (B.opposite_below E.below)) (omega (arith, ap M.row z))))
        | no n1 ↦ elim (ℕ_discrete e M.root) [
          | yes j ↦ absurd (omega (arith, ends_before h n0 n1, ap at j))
          | no j ↦
              let (w, same, W) = covers h n0 n1 a b in
              elim (chain P (closed (at e)) (own E j) W (omega (arith, ap M.row same))) [
                | inl q ↦ inl (sym same ∙ ap M.vertex (sym q))
                | inr u ↦ inr (sym (u.meeting (omega (arith, ap M.row same)) ∙ same))
              ]
        ]
      ]
    ]

    vertices_apart : {v w : ℕ} → v < M.vertices → w < M.vertices → v ≢ w → M.row v ≡ M.row w
        → (c : ℕ) → first v ≤ c → c ≤ last v → first w ≤ c → c ≤ last w → ⊥
    vertices_apart {v} {w} h k n p c a b a₁ b₁ = poles (ℕ_discrete v 0) (ℕ_discrete v 1) (ℕ_discrete w 0) (ℕ_discrete w 1)
      where
        inner : (d : ℕ) × (M.vertex d ≡ v) × Front M (up_to column c) true d → (e : ℕ) × (M.vertex e ≡ w) × Front M (up_to column c) true e → ⊥
        inner (d, dv, D) (e, ew, E) = elim (chain P (closed c) D E (omega (arith, ap M.row dv, ap M.row ew))) [
          | inl q ↦ n (sym dv ∙ ap M.vertex q ∙ ew)
          | inr u ↦ omega (arith, B.rises D.below D.kind, ap M.row dv, ap M.row ew)
        ]

        poles : Dec (v ≡ 0) → Dec (v ≡ 1) → Dec (w ≡ 0) → Dec (w ≡ 1) → ⊥
        poles (yes i) j i₁ j₁ = n (i ∙ sym (at_source B k (omega (arith, ap M.row i))))
        poles (no i) (yes j) i₁ j₁ = n (j ∙ sym (at_sink B k (omega (arith, ap M.row j))))
        poles (no i) (no j) (yes i₁) j₁ = i (at_source B h (omega (arith, ap M.row i₁)))
        poles (no i) (no j) (no i₁) (yes j₁) = j (at_sink B h (omega (arith, ap M.row j₁)))
        poles (no i) (no j) (no i₁) (no j₁) = inner (covers h i j a b) (covers k i₁ j₁ a₁ b₁)

    pub apart : Apart M column first last
    apart = record { edges = edges_apart; vertex_edge = vertex_edge_apart; vertices = vertices_apart }
