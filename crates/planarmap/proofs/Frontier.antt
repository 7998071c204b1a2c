-- A set S of faces that is closed to the left, and its front: the edges with their left face in S and their right face outside.
use Rattle.std.proofs.Common.{◌≡◌, refl, sym, ◌∙◌, ap, Bool, true, false, not, ◌&&◌, ◌≢◌, ◌⊎◌, inl, inr, ℕ, zero, suc, ◌≤◌, ◌<◌, arith}
use Rattle.std.proofs.Math.Bool.{beq, not-not, and-eq-true_iff}
use Rattle.std.proofs.Math.Decide.{ℕ_discrete, dec_le}
use Rattle.std.proofs.lemmas.Bool.{and_right}
use Rattle.counting.specs.Orbits.{iter}
use Rattle.counting.proofs.Iterate.{by_bool, clash, either, iter_keeps}
use Rattle.planarmap.specs.Map.{Map, Bipolar}
use Rattle.planarmap.specs.Corners.{Corner, OneCorner}
use Rattle.planarmap.specs.Order.{Edge}
use Rattle.planarmap.proofs.Laws.{beq_same, beq_true, differ, At, root_dart, next_below, at_next, turn_at, face_next, opposite_is, pole}

-- ---- round a vertex, a test that starts to hold at one place only stops at one place only

module _ {M : Map} (B : Bipolar M) (T : ℕ → Bool) (v : ℕ)
    (one_entry : (d e : ℕ) → At M v d → At M v e → T d ≡ false → T (M.next d) ≡ true → T e ≡ false → T (M.next e) ≡ true → d ≡ e) where
  -- what passes is reached from the entry g past darts that pass
  module _ (g : ℕ) (G : At M v g) (fails : T g ≡ false) (starts : T (M.next g) ≡ true) where
    run : (i : ℕ) → T (iter M.next i (M.next g)) ≡ true
        → (j : ℕ) × (iter M.next j (M.next g) ≡ iter M.next i (M.next g)) × ((k : ℕ) → k ≤ j → T (iter M.next k (M.next g)) ≡ true)
    run zero t = (0, refl, λ k l. let z : k ≡ 0 = omega arith in rw z starts)
    run (suc i) t =
        let x = iter M.next i (M.next g) in
        by_bool (T x)
        (λ p.
        let (j, e, all) = run i p in
        (suc j, ap M.next e, λ k l. elim (ℕ_discrete k (suc j)) [ yes q ↦ rw (q, e) t | no q ↦ all k (omega arith) ]))
        (λ p.
        let same = one_entry g x G (iter_keeps M.next (At M v) (at_next B) i (M.next g) (at_next B g G)) fails starts p t in
        (0, ap M.next same, λ k l. let z : k ≡ 0 = omega arith in rw z starts))

    run_to : {x : ℕ} → At M v x → T x ≡ true → (j : ℕ) × (iter M.next j (M.next g) ≡ x) × ((k : ℕ) → k ≤ j → T (iter M.next k (M.next g)) ≡ true)
    run_to X t =
        let (i, e) = B.ring (next_below B G.0) X.0 ((at_next B g G).1 ∙ sym X.1) in
        let (j, p, all) = run i (ap T e ∙ t) in
        (j, p ∙ e, all)

  one_exit : {x y : ℕ} → At M v x → At M v y → T x ≡ true → T (M.next x) ≡ false → T y ≡ true → T (M.next y) ≡ false → x ≡ y
  one_exit {x} {y} X Y p q p₁ q₁ =
      let (g, G, fails, starts) = turn_at B T false (at_next B x X) X q p in
      let (i, e, all) = run_to g G fails starts X p in
      let (j, e₁, all₁) = run_to g G fails starts Y p₁ in
      let further : (i j : ℕ) (x : ℕ) → iter M.next i (M.next g) ≡ x → T (M.next x) ≡ false
      → ((k : ℕ) → k ≤ j → T (iter M.next k (M.next g)) ≡ true) → j ≤ i
      = λ i j x e q all. elim (dec_le j i) [ yes l ↦ l | no l ↦ clash (all (suc i) (omega arith)) (ap (λ z. T (M.next z)) e ∙ q) ] in
      let same : i ≡ j = omega (arith, further i j x e q all₁, further j i y e₁ q₁ all) in
      sym e ∙ ap (λ k. iter M.next k (M.next g)) same ∙ e₁

-- ---- closed sets and their fronts

-- S has the root's right face, and with the right face of an edge other than the root also its left face
pub record Closed (M : Map) (S : ℕ → Bool) : Type 0 where
  pub start : S (M.face (M.opposite M.root)) ≡ true
  pub close : (e : ℕ) → Edge M e → e ≢ M.root → S (M.face (M.opposite e)) ≡ true → S (M.face e) ≡ true

-- the dart x of a front edge: its tail, if b is true, or its head; seen clockwise, S ends at its tail and begins at its head
pub record Front (M : Map) (S : ℕ → Bool) (b : Bool) (x : ℕ) : Type 0 where
  pub below : x < M.darts
  pub kind : M.out x ≡ b
  pub this : S (M.face x) ≡ b
  pub far : S (M.face (M.opposite x)) ≡ not b

beq_not : (a : Bool) → beq a (not a) ≡ false
beq_not true = refl
beq_not false = refl

module _ {M : Map} (B : Bipolar M) {S : ℕ → Bool} (C : Closed M S) where
  -- past a tail, S may end; past a head, it may begin
  kept : (b : Bool) {w : ℕ} → w < M.darts → M.out w ≡ b → w ≢ root_dart M b → S (M.face (M.next w)) ≡ b → S (M.face w) ≡ b
  kept true {w} h o n p = C.close w (record { below = h; is_out = o }) n (ap S (sym (face_next B h)) ∙ p)
  kept false {w} h o n p =
      by_bool (S (M.face w))
      (λ t. clash
      (C.close (M.opposite w) (record { below = B.opposite_below h; is_out = opposite_is B h o })
      (λ e. n (sym (B.opposite_opposite h) ∙ ap M.opposite e)) (ap (λ x. S (M.face x)) (B.opposite_opposite h) ∙ t))
      (ap S (sym (face_next B h)) ∙ p))
      (λ u. u)

  -- the other dart of a front edge
  pub flip : {b : Bool} {x : ℕ} → Front M S b x → Front M S (not b) (M.opposite x)
  flip {b} F = record {
    below = B.opposite_below F.below;
    kind = opposite_is B F.below F.kind;
    this = F.far;
    far = ap (λ y. S (M.face y)) (B.opposite_opposite F.below) ∙ F.this ∙ sym (not-not b);
  }

  after : {b : Bool} {x : ℕ} → Front M S b x → S (M.face (M.next x)) ≡ not b
  after F = ap S (face_next B F.below) ∙ F.far

  -- where S ends clockwise, a front edge begins, and where S begins, one ends; or it is at the root
  abbrev pub AtFront : Bool → ℕ → Type 0
  AtFront b y = Front M S b y ⊎ ((y ≡ root_dart M (not b)) × (S (M.face (M.opposite y)) ≡ not b))

  pub at_front : (b : Bool) {y : ℕ} → y < M.darts → S (M.face y) ≡ b → S (M.face (M.next y)) ≡ not b → AtFront b y
  at_front b {y} h s t =
      let far = ap S (sym (face_next B h)) ∙ t in
      elim (either (M.out y) b) [
        | inl o ↦ inl (record { below = h; kind = o; this = s; far = far })
        | inr o ↦ elim (ℕ_discrete y (root_dart M (not b))) [
          | yes is_root ↦ inr (is_root, far)
          | no n ↦ differ b s (kept (not b) h o n t)
        ]
      ]

  -- round a vertex, between a face in S and one outside
  pub crossing : (b : Bool) {v d e : ℕ} → At M v d → At M v e → S (M.face d) ≡ b → S (M.face e) ≡ not b → (y : ℕ) × (M.vertex y ≡ v) × AtFront b y
  crossing b {v} D E p q =
      let (y, Y, s, t) = turn_at B (λ x. S (M.face x)) b D E p q in
      (y, Y.1, at_front b Y.0 s t)

  -- so at a vertex where a front edge ends another begins, and the other way round
  pub partner : (b : Bool) {x : ℕ} → Front M S (not b) x → (y : ℕ) × (M.vertex y ≡ M.vertex x) × AtFront b y
  partner b {x} F =
      crossing b (at_next B x (F.below, refl)) (F.below, refl) (after F ∙ not-not b) F.this

  -- whether x is of the kind b, and its face in S or not accordingly
  passes : Bool → ℕ → Bool
  passes b x = beq b (M.out x) && beq b (S (M.face x))

  passes_in : (b : Bool) (x : ℕ) → M.out x ≡ b → S (M.face x) ≡ b → passes b x ≡ true
  unfolding passes
  passes_in b x p q = rw (p, q, beq_same b)

  passes_out : (b : Bool) (x : ℕ) → passes b x ≡ true → (M.out x ≡ b) × (S (M.face x) ≡ b)
  unfolding passes
  passes_out b x e =
      let (p, q) = (and-eq-true_iff (beq b (M.out x)) (beq b (S (M.face x)))).0 e in
      (beq_true b (M.out x) p, beq_true b (S (M.face x)) q)

  fails_kind : (b : Bool) (x : ℕ) → M.out x ≡ not b → passes b x ≡ false
  unfolding passes
  fails_kind b x p = rw (p, beq_not b)

  fails_face : (b : Bool) (x : ℕ) → S (M.face x) ≡ not b → passes b x ≡ false
  unfolding passes
  fails_face b x p = rw (p, beq_not b) (and_right (beq b (M.out x)) false refl)

  module _ (K : OneCorner M) where
    -- where darts of the kind b with their face so begin to pass: at the corner or at the root
    entry : (b : Bool) (w : ℕ) → w < M.darts → passes b w ≡ false → passes b (M.next w) ≡ true → (w ≡ root_dart M b) ⊎ Corner M (not b) b w
    entry b w h p q =
        let (o, s) = passes_out b (M.next w) q in
        elim (either (M.out w) b) [
          | inr u ↦ inr (record { below = h; first = u; second = o })
          | inl t ↦ elim (ℕ_discrete w (root_dart M b)) [
            | yes is_root ↦ inl is_root
            | no n ↦ clash (passes_in b w t (kept b h t n s)) p
          ]
        ]

    corners : (b : Bool) {d e : ℕ} → Corner M (not b) b d → Corner M (not b) b e → M.vertex d ≡ M.vertex e → d ≡ e
    corners true = K.left
    corners false = K.right

    one_entry : (b : Bool) {v : ℕ} (d e : ℕ) → At M v d → At M v e → passes b d ≡ false → passes b (M.next d) ≡ true
        → passes b e ≡ false → passes b (M.next e) ≡ true → d ≡ e
    one_entry b {v} d e D E p q p₁ q₁ = go (entry b d D.0 p q) (entry b e E.0 p₁ q₁)
      where
        go : (d ≡ root_dart M b) ⊎ Corner M (not b) b d → (e ≡ root_dart M b) ⊎ Corner M (not b) b e → d ≡ e
        go (inl x) (inl y) = x ∙ sym y
        go (inl x) (inr y) = differ b (pole B b E.0 (E.1 ∙ sym D.1 ∙ ap M.vertex x)) y.first
        go (inr x) (inl y) = differ b (pole B b D.0 (D.1 ∙ sym E.1 ∙ ap M.vertex y)) x.first
        go (inr x) (inr y) = corners b x y (D.1 ∙ sym E.1)

    one_exit_at : (b : Bool) {x y : ℕ} → x < M.darts → y < M.darts → M.vertex x ≡ M.vertex y → passes b x ≡ true → passes b (M.next x) ≡ false
        → passes b y ≡ true → passes b (M.next y) ≡ false → x ≡ y
    one_exit_at b {x} {y} h k e = one_exit B (passes b) (M.vertex y) (one_entry b) (h, e) (k, refl)

    -- at most one front edge begins at a vertex, and at most one ends there
    pub one_front : {b : Bool} {x y : ℕ} → Front M S b x → Front M S b y → M.vertex x ≡ M.vertex y → x ≡ y
    one_front {b} {x} {y} F G e =
        one_exit_at b F.below G.below e
        (passes_in b x F.kind F.this) (fails_face b (M.next x) (after F)) (passes_in b y G.kind G.this) (fails_face b (M.next y) (after G))

    -- the darts of the kind b begin at a corner l: where any of them has its face so, the first has
    pub from_corner : (b : Bool) {l d : ℕ} → Corner M (not b) b l → d < M.darts → M.vertex d ≡ M.vertex l → M.out d ≡ b → S (M.face d) ≡ b
        → S (M.face (M.next l)) ≡ b
    from_corner b {l} {d} L h e o s = elim (either (S (M.face (M.next l))) b) [
      | inl p ↦ p
      | inr p ↦
          let (w, W, x, y) = turn_at B (passes b) false (at_next B l (L.below, refl)) (h, e) (fails_face b (M.next l) p) (passes_in b d o s) in
          let root : w ≢ root_dart M b = λ q. differ b (pole B b L.below (sym W.1 ∙ ap M.vertex q)) L.first in
          let same : w ≡ l = elim (entry b w W.0 x y) [ inl q ↦ absurd (root q) | inr c ↦ corners b c L W.1 ] in
          clash y (ap (λ z. passes b (M.next z)) same ∙ fails_face b (M.next l) p)
    ]

    -- and end at a corner k: where a front edge has its dart among them, S changes before the end
    pub to_corner : (b : Bool) {k d : ℕ} → Corner M b (not b) k → k ≢ root_dart M b → Front M S b d → M.vertex d ≡ M.vertex k
        → S (M.face (M.next k)) ≡ not b
    to_corner b {k} {d} L n F e = elim (either (S (M.face (M.next k))) b) [
      | inr p ↦ p
      | inl p ↦
          let same = one_exit_at b F.below L.below e (passes_in b d F.kind F.this) (fails_face b (M.next d) (after F))
          (passes_in b k L.first (kept b L.below L.first n p)) (fails_kind b (M.next k) L.second) in
          ap (λ z. S (M.face (M.next z))) (sym same) ∙ after F
    ]
