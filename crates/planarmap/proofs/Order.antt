-- The faces are ordered from left to right: a closed set of faces that is not full has a face that is ready to join.
use Rattle.std.proofs.Common.{◌≡◌, sym, ◌∙◌, ap, Bool, true, false, not, cond, ◌≢◌, inl, inr, ℕ, zero, suc, ◌≤◌, ◌<◌, arith}
use Rattle.std.proofs.Math.Logic.{by_cases}
use Rattle.std.proofs.Math.Decide.{ℕ_discrete, dec_lt}
use Rattle.std.proofs.lemmas.Bool.{not-true, not-false}
use Rattle.counting.specs.Counts.{count}
use Rattle.counting.proofs.Counts.{all, without, without_same, without_other, count_without}
use Rattle.counting.proofs.Iterate.{by_bool, clash, iter_keeps}
use Rattle.counting.proofs.Pigeonhole.{find}
use Rattle.counting.proofs.Pigeonhole.Found.{at, nowhere}
use Rattle.planarmap.specs.Map.{Map, Bipolar, Plane}
use Rattle.planarmap.specs.Corners.{OneCorner}
use Rattle.planarmap.specs.Order.{Edge, FaceOrder, SidesDiffer}
use Rattle.planarmap.proofs.Laws.{next_below, at_next, face_next, opposite_is, falls, by_rows}
use Rattle.planarmap.proofs.Corners.{one_corner}
use Rattle.planarmap.proofs.Ends.{ends}
use Rattle.planarmap.proofs.Frontier.{Closed, Front, flip, at_front, crossing, partner}

-- ---- a closed set that holds both faces of the root holds every face

module _ {M : Map} (B : Bipolar M) {S : ℕ → Bool} (C : Closed M S) (full : S (M.face M.root) ≡ true) where
  -- over a front edge stands another
  no_front : (e : ℕ) → e < M.darts → Front M S true e → ⊥
  no_front = by_rows B false (λ e. Front M S true e → ⊥) (λ e h ih F.
      let (y, same, next) = partner B C true (flip B C F) in
      elim next [
        | inl G ↦ ih y G.below (omega (arith, B.rises h F.kind, ap M.row same)) G
        | inr (is_root, out) ↦ clash full (ap (λ x. S (M.face x)) (sym (B.opposite_opposite B.root_below) ∙ ap M.opposite (sym is_root)) ∙ out)
      ])

  next_in : (d : ℕ) → (d < M.darts) × (S (M.face d) ≡ true) → (M.next d < M.darts) × (S (M.face (M.next d)) ≡ true)
  next_in d (h, t) = (
    next_below B h,
    by_bool (S (M.face (M.next d)))
        (λ p. p)
        (λ u. elim (at_front B C true h t u) [
          | inl F ↦ absurd (no_front d h F)
          | inr (is_root, out) ↦ clash full (ap (λ x. S (M.face x)) (sym (B.opposite_opposite B.root_below) ∙ ap M.opposite (sym is_root)) ∙ out)
        ]),
  )

  ring_in : (d e : ℕ) → d < M.darts → e < M.darts → M.vertex d ≡ M.vertex e → S (M.face d) ≡ true → S (M.face e) ≡ true
  ring_in d e h k q t =
      let (i, p) = B.ring h k q in
      ap (λ x. S (M.face x)) (sym p) ∙ (iter_keeps M.next (λ x. (x < M.darts) × (S (M.face x) ≡ true)) next_in i d (h, t)).1

  every_face : (d : ℕ) → d < M.darts → S (M.face d) ≡ true
  every_face = by_rows B true (λ d. S (M.face d) ≡ true) (λ d h ih. elim (ℕ_discrete (M.vertex d) 0) [
    | yes q ↦ ring_in M.root d B.root_below h (B.root_tail ∙ sym q) full
    | no q ↦
        let (x, k, at_v, i) = B.has_in (B.vertex_below h) q in
        ring_in (M.next x) d (next_below B k) h (B.next_vertex k ∙ at_v)
        (ap S (face_next B k) ∙ ih (M.opposite x) (B.opposite_below k) (omega (arith, falls B k i, ap M.row at_v)))
  ])

-- ---- a closed set that does not hold the root's left face has a face that is ready

-- a face outside S all of whose left neighbours are in S
record Ready (M : Map) (S : ℕ → Bool) : Type 0 where
  at : ℕ
  below : at < M.faces
  outside : S at ≡ false
  left_in : (w : ℕ) → Edge M w → M.face (M.opposite w) ≡ at → S (M.face w) ≡ true

-- a front edge at whose tail its right face has its bottom corner
record Low (M : Map) (S : ℕ → Bool) (e : ℕ) : Type 0 where
  front : Front M S true e
  bottom : M.out (M.next e) ≡ true

low? : (M : Map) (S : ℕ → Bool) (e : ℕ) → Dec (Low M S e)
low? M S e = elim (dec_lt e M.darts) [
  | no k ↦ no (λ L. k L.front.below)
  | yes h ↦
      by_bool (M.out e)
      (λ o. by_bool (S (M.face e))
      (λ i. by_bool (S (M.face (M.opposite e)))
      (λ x. no (λ L. clash x L.front.far))
      (λ x. by_bool (M.out (M.next e))
      (λ n. yes (record { front = record { below = h; kind = o; this = i; far = x }; bottom = n }))
      (λ n. no (λ L. clash L.bottom n))))
      (λ i. no (λ L. clash L.front.this i)))
      (λ o. no (λ L. clash L.front.kind o))
]

module _ {M : Map} (P : Plane M) {S : ℕ → Bool} (C : Closed M S) where
  B : Bipolar M
  B = P.bipolar

  K : OneCorner M
  K = one_corner P

  -- the highest such edge has its right face ready: up its left boundary, each edge is a front edge
  ready_up : (e : ℕ) → Low M S e → ((x : ℕ) → Low M S x → M.row (M.vertex x) ≤ M.row (M.vertex e)) → (w : ℕ) → w < M.darts → M.out w ≡ true
      → M.face (M.opposite w) ≡ M.face (M.opposite e) → (S (M.face w) ≡ true) × (M.row (M.vertex e) ≤ M.row (M.vertex w))
  ready_up e L most = by_rows B true
      (λ w. M.out w ≡ true → M.face (M.opposite w) ≡ M.face (M.opposite e) → (S (M.face w) ≡ true) × (M.row (M.vertex e) ≤ M.row (M.vertex w)))
      (λ w h ih t p.
      let n = next_below B h in
      let back = B.opposite_opposite n in
      by_bool (M.out (M.next w))
      (λ t₁.
      let same : e ≡ w = K.bottom (record { below = L.front.below; first = L.front.kind; second = L.bottom }) (record { below = h; first = t; second = t₁ })
      (face_next B L.front.below ∙ sym p ∙ sym (face_next B h)) in
      (ap (λ x. S (M.face x)) (sym same) ∙ L.front.this, omega (arith, ap (λ x. M.row (M.vertex x)) same)))
      (λ u₁.
      let x = M.opposite (M.next w) in
      let px : M.face (M.opposite x) ≡ M.face (M.opposite e) = ap M.face back ∙ face_next B h ∙ p in
      let at_w = ap M.vertex back ∙ B.next_vertex h in
      let low : M.row (M.vertex x) < M.row (M.vertex w) = omega (arith, falls B n u₁, ap M.row (B.next_vertex h)) in
      let (inside, above) = ih x (B.opposite_below n) low (opposite_is B n u₁) px in
      let F : Front M S true x = record { below = B.opposite_below n; kind = opposite_is B n u₁; this = inside; far = ap S px ∙ L.front.far } in
      let (y, same, begins) = partner B C true (flip B C F) in
      elim begins [
        | inr (is_root, out) ↦ clash t (B.sink h (sym (same ∙ at_w) ∙ ap M.vertex is_root ∙ B.root_head))
        | inl G ↦ by_bool (M.out (M.next y))
            (λ t₂. absurd (omega (arith, most y (record { front = G; bottom = t₂ }), ap M.row (same ∙ at_w))))
            (λ u₂.
            let is_w : y ≡ w = K.right (record { below = G.below; first = G.kind; second = u₂ }) (record { below = h; first = t; second = u₁ }) (same ∙ at_w) in
            (ap (λ z. S (M.face z)) (sym is_w) ∙ G.this, omega arith))
      ]))

  -- climb from such an edge to a highest one
  climb : (e : ℕ) → e < M.darts → Low M S e → Ready M S
  climb = by_rows B false (λ e. Low M S e → Ready M S) (λ e h ih L.
      let Higher : ℕ → Type 0 = λ x. Low M S x × (M.row (M.vertex e) < M.row (M.vertex x)) in
      let higher? : (x : ℕ) → Dec (Higher x) = λ x. elim (low? M S x) [
        | no k ↦ no (λ z. k z.0)
        | yes X ↦ elim (dec_lt (M.row (M.vertex e)) (M.row (M.vertex x))) [ yes l ↦ yes (X, l) | no k ↦ no (λ z. k z.1) ]
      ] in
      elim (find Higher higher? M.darts) [
        | at x k (X, l) _ ↦ ih x k l X
        | nowhere none ↦
            let most : (x : ℕ) → Low M S x → M.row (M.vertex x) ≤ M.row (M.vertex e) = λ x X. elim (dec_lt (M.row (M.vertex e)) (M.row (M.vertex x))) [
              | yes l ↦ absurd (none x X.front.below (X, l))
              | no l ↦ omega arith
            ] in
            record {
              at = M.face (M.opposite e);
              below = B.walks.inside (M.opposite e) (B.opposite_below h);
              outside = L.front.far;
              left_in = λ w W p. (ready_up e L most w W.below W.is_out p).0;
            }
      ])

  -- one such edge begins at vertex 0
  find_ready : S (M.face M.root) ≡ false → Ready M S
  find_ready out =
      let r = B.root_below in
      let (y, at_0, begins) = crossing B C true (at_next B M.root (r, B.root_tail)) (r, B.root_tail) (ap S (face_next B r) ∙ C.start) out in
      elim begins [
        | inl F ↦ climb y F.below (record { front = F; bottom = B.source (next_below B F.below) (B.next_vertex F.below ∙ at_0) })
        | inr (is_root, _) ↦ absurd (let wrong : ◌≡◌ {A = ℕ} 0 1 = sym at_0 ∙ ap M.vertex is_root ∙ B.root_head in omega arith)
      ]

-- ---- the sweep: add ready faces one by one; `out` tells the faces that are left

inside : (ℕ → Bool) → ℕ → Bool
inside out c = not (out c)

-- a number below three other than a and b
third : (a b : ℕ) → (d : ℕ) × (d < 3) × (d ≢ a) × (d ≢ b)
third a b =
    by_cases (ℕ_discrete 0 a)
    (λ p. by_cases (ℕ_discrete 1 b) (λ q. (2, omega arith, omega arith, omega arith)) (λ q. (1, omega arith, omega arith, omega arith)))
    (λ p. by_cases (ℕ_discrete 0 b)
    (λ q. by_cases (ℕ_discrete 1 a) (λ r. (2, omega arith, omega arith, omega arith)) (λ r. (1, omega arith, omega arith, omega arith)))
    (λ q. (0, omega arith, omega arith, omega arith)))

module _ {M : Map} (P : Plane M) where
  -- with a ready face added, a closed set is closed
  add : (out : ℕ → Bool) → Closed M (inside out) → (g : Ready M (inside out)) → Closed M (inside (without out g.at))
  unfolding inside
  add out C g = record {
    start = keep (M.face (M.opposite M.root)) C.start;
    close = λ e E n p. keep (M.face e) (elim (ℕ_discrete (M.face (M.opposite e)) g.at) [
      | yes q ↦ g.left_in e E q
      | no q ↦ C.close e E n (ap not (sym (without_other out q)) ∙ p)
    ]);
  }
    where
      keep : (c : ℕ) → inside out c ≡ true → inside (without out g.at) c ≡ true
      keep c p = elim (ℕ_discrete c g.at) [
        | yes q ↦ rw q (ap not (without_same out g.at))
        | no q ↦ ap not (without_other out q) ∙ p
      ]

  -- a rank that rises across each edge whose right face is left, and from the faces in the set to the root's left face, if that is left
  record Swept (out : ℕ → Bool) : Type 0 where
    rank : ℕ → ℕ
    rises : (e : ℕ) → Edge M e → out (M.face (M.opposite e)) ≡ true → rank (M.face e) < rank (M.face (M.opposite e))
    last : (c : ℕ) → out c ≡ false → out (M.face M.root) ≡ true → rank c < rank (M.face M.root)

  sweep : (k : ℕ) (out : ℕ → Bool) → Closed M (inside out) → count out M.faces < k → Swept out
  unfolding inside
  sweep zero out C l = absurd (omega arith)
  sweep (suc k) out C l =
      by_bool (inside out (M.face M.root))
      (λ full. record {
        rank = λ c. 0;
        rises = λ e E p. clash p (not-true _ (every_face P.bipolar C full (M.opposite e) (P.bipolar.opposite_below E.below)));
        last = λ c q p. clash p (not-true _ full);
      })
      (λ u.
      let g = find_ready P C u in
      let left = not-false (out g.at) g.outside in
      let s = sweep k (without out g.at) (add out C g) (omega (arith, count_without out M.faces g.at g.below left)) in
      record {
        rank = λ c. cond (out c) (suc (s.rank c)) 0;
        rises = λ e E p. rw p (by_bool (out (M.face e))
            (λ q.
            let other : M.face (M.opposite e) ≢ g.at = λ z. clash q (not-true _ (g.left_in e E z)) in
            rw q (omega (arith, s.rises e E (without_other out other ∙ p))))
            (λ q. rw q (omega arith)));
        last = λ c q p. rw (p, q) (omega arith);
      })

  -- every face but the root's right face
  abbrev others : ℕ → Bool
  others = without all (M.face (M.opposite M.root))

  right_other : (e : ℕ) → Edge M e → e ≢ M.root → others (M.face (M.opposite e)) ≡ true
  right_other e E n = without_other all (λ p. n ((ends P).right E p))

  -- at first only that face is in the set
  first : Closed M (inside others)
  unfolding inside
  first = record {
    start = ap not (without_same all (M.face (M.opposite M.root)));
    close = λ e E n p. clash (right_other e E n) (not-true _ p);
  }

  swept : Swept others
  swept = sweep (suc (count others M.faces)) others first (omega arith)

  pub face_order : FaceOrder M
  face_order = (swept.rank, λ e E n. swept.rises e E (right_other e E n))

  -- ---- the two faces of an edge differ

  another : 1 < M.edges → (e : ℕ) × Edge M e × (e ≢ M.root)
  another h =
      let B = P.bipolar in
      let (d, small, n, o) = third M.root (M.opposite M.root) in
      let below : d < M.darts = omega (arith, B.two_darts) in
      by_bool (M.out d)
      (λ t. (d, record { below = below; is_out = t }, n))
      (λ u. (
        M.opposite d,
        record { below = B.opposite_below below; is_out = opposite_is B below u },
        λ p. o (sym (B.opposite_opposite below) ∙ ap M.opposite p),
      ))

  root_differs : (e : ℕ) → Edge M e → e ≢ M.root → M.face M.root ≢ M.face (M.opposite M.root)
  unfolding inside
  root_differs e E n p =
      let full : inside others (M.face M.root) ≡ true = ap (inside others) p ∙ first.start in
      clash (right_other e E n) (not-true _ (every_face P.bipolar first full (M.opposite e) (P.bipolar.opposite_below E.below)))

  pub sides_differ : 1 < M.edges → SidesDiffer M
  sides_differ h e E p = elim (ℕ_discrete e M.root) [
    | yes q ↦
        let (x, X, n) = another h in
        root_differs x X n (sym (ap M.face q) ∙ p ∙ ap (λ z. M.face (M.opposite z)) q)
    | no q ↦ let (rank, up) = face_order in omega (arith, up e E q, ap rank p)
  ]

  -- and the rank rises from the root's right face to its left
  pub root_rises : 1 < M.edges → face_order.0 (M.face (M.opposite M.root)) < face_order.0 (M.face M.root)
  unfolding face_order
  root_rises h =
      let differ = sides_differ h M.root (record { below = P.bipolar.root_below; is_out = P.bipolar.root_out }) in
      swept.last (M.face (M.opposite M.root)) (without_same all _) (without_other all differ)
