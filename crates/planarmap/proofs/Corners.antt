-- Corners: found by walking round a vertex or a face, counted, and so unique where Euler's formula holds.
use Rattle.std.proofs.Common.{◌≡◌, refl, ◌∙◌, ◌≢◌, inl, inr, Bool, true, false, not, ◌&&◌, ℕ, ◌+◌, ◌≤◌, ◌<◌, arith}
use Rattle.std.proofs.Math.Bool.{beq, not-not}
use Rattle.counting.specs.Counts.{bit, count}
use Rattle.counting.proofs.Counts.{count_four, count_all, count_all_but, all, all_but, all_but_fails, Onto, onto_count, onto_injective}
use Rattle.counting.proofs.Iterate.{Turn, either}
use Rattle.planarmap.specs.Map.{Map, Bipolar, Plane, walk}
use Rattle.planarmap.specs.Corners.{Corner, is_corner, corner_face, OneKind, HasCorners, EulerMost, OneCorner}
use Rattle.planarmap.proofs.Laws.{beq_same, At, turn_at, walk_below, walk_vertex, walk_face, opposite_is, nearer, nearer_flip, by_rows}

-- ---- the test for a corner

-- each pair of tests comes out in one of four ways
one_of_four : (x y : Bool) → bit (beq false x && beq true y) + bit (beq true x && beq false y)
    + bit (beq false x && beq false y) + bit (beq true x && beq true y) ≡ 1
one_of_four true true = refl
one_of_four true false = refl
one_of_four false true = refl
one_of_four false false = refl

pub one_kind : (M : Map) → OneKind M
unfolding is_corner
one_kind M d = one_of_four (M.out d) (M.out (M.next d))

is_corner_law : {M : Map} {a b : Bool} {d : ℕ} → Corner M a b d → is_corner M a b d ≡ true
unfolding is_corner
is_corner_law {M} {a} {b} c = rw (c.first, c.second, beq_same a) (beq_same b)

module _ {M : Map} (B : Bipolar M) where
  -- ---- left and right corners, at each vertex but 0 and 1

  turn_corner : (b : Bool) {v d e : ℕ} → At M v d → At M v e → M.out d ≡ b → M.out e ≡ not b → (x : ℕ) × Corner M b (not b) x × (M.vertex x ≡ v)
  turn_corner b D E p q =
      let (x, at, first, second) = turn_at B M.out b D E p q in
      (x, record { below = at.0; first = first; second = second }, at.1)

  side : (b : Bool) {v : ℕ} → v < M.vertices → v ≢ 0 → v ≢ 1 → (d : ℕ) × Corner M b (not b) d × (M.vertex d ≡ v)
  side b h n0 n1 = go b (B.has_in h n0) (B.has_out h n1)
    where
      go : (b : Bool) {v : ℕ} → (d : ℕ) × (d < M.darts) × (M.vertex d ≡ v) × (M.out d ≡ false) → (d : ℕ) × (d < M.darts) × (M.vertex d ≡ v) × (M.out d ≡ true)
          → (d : ℕ) × Corner M b (not b) d × (M.vertex d ≡ v)
      go true (d, d_n, dv, p) (e, e_n, ev, q) = turn_corner true (e_n, ev) (d_n, dv) q p
      go false (d, d_n, dv, p) (e, e_n, ev, q) = turn_corner false (d_n, dv) (e_n, ev) p q

  -- ---- top and bottom corners, in each face

  -- a dart whose walk lies in the face c
  abbrev In : ℕ → ℕ → Type 0
  In c d = (d < M.darts) × (M.face d ≡ c)

  -- a run up ends, and so does a run down
  run_ends : (b : Bool) (c d : ℕ) → d < M.darts → M.face d ≡ c → M.out d ≡ b → Turn (walk M) M.out b (In c)
  run_ends b c = by_rows B (not b) (λ d. M.face d ≡ c → M.out d ≡ b → Turn (walk M) M.out b (In c)) (λ d h ih e o.
      elim (either (M.out (walk M d)) b) [
        | inl same ↦ ih (walk M d) (walk_below B h) (rw (walk_vertex B h) (nearer_flip M b (M.vertex d) (M.vertex (M.opposite d)) (nearer B b h o))) (walk_face B h ∙ e) same
        | inr other ↦ (d, (h, e), o, other)
      ])

  -- so the walk of each face turns both ways
  face_turns : (b : Bool) {c : ℕ} → c < M.faces → Turn (walk M) M.out b (In c)
  face_turns b {c} h =
      let (d, below, in_c) = B.walks.used c h in
      elim (either (M.out d) b) [
        | inl p ↦ run_ends b c d below in_c p
        | inr q ↦
            let (x, (k, e), p, t) = run_ends (not b) c d below in_c q in
            run_ends b c (walk M x) (walk_below B k) (walk_face B k ∙ e) (t ∙ not-not b)
      ]

  extreme : (b : Bool) {c : ℕ} → c < M.faces → (d : ℕ) × Corner M (not b) (not b) d × (corner_face M d ≡ c)
  extreme b h =
      let (x, (below, in_c), p, q) = face_turns b h in
      (M.opposite x, record { below = B.opposite_below below; first = opposite_is B below p; second = q }, walk_face B below ∙ in_c)

  pub has_corners : HasCorners M
  has_corners = record {
    left = side false;
    right = side true;
    top = extreme true;
    bottom = extreme false;
  }

  -- ---- the counts

  -- the vertices but 0 and 1
  inner : ℕ → Bool
  inner = all_but 0 1

  inner_count : count inner M.vertices + 2 ≡ M.vertices
  unfolding inner
  inner_count = count_all_but M.vertices 0 1 (rw B.root_tail at (B.vertex_below B.root_below))
      (rw B.root_head at (B.vertex_below (B.opposite_below B.root_below))) (omega arith)

  sides_onto : (b : Bool) → Onto M.vertex (is_corner M b (not b)) M.darts inner M.vertices
  unfolding inner
  sides_onto b v h e =
      let (n0, n1) = all_but_fails 0 1 v e in
      let (d, c, at_v) = side b h n0 n1 in
      (d, c.below, is_corner_law c, at_v)

  extremes_onto : (b : Bool) → Onto (corner_face M) (is_corner M (not b) (not b)) M.darts all M.faces
  extremes_onto b v h e = let (d, c, in_v) = extreme b h in (d, c.below, is_corner_law c, in_v)

  abbrev kinds : Bool → Bool → ℕ
  kinds a b = count (is_corner M a b) M.darts

  -- at least vertices - 2 left corners and as many right ones, at least as many top corners as faces, and bottom ones; two for each edge in all
  record Counts : Type 0 where
    lefts : M.vertices ≤ kinds false true + 2
    rights : M.vertices ≤ kinds true false + 2
    tops : M.faces ≤ kinds false false
    bottoms : M.faces ≤ kinds true true
    in_all : kinds false true + kinds true false + kinds false false + kinds true true ≡ M.edges + M.edges

  side_least : (b : Bool) → M.vertices ≤ kinds b (not b) + 2
  side_least b = omega (arith, onto_count M.vertex (is_corner M b (not b)) M.darts inner M.vertices (sides_onto b), inner_count)

  extreme_least : (b : Bool) → M.faces ≤ kinds (not b) (not b)
  extreme_least b = omega (arith, onto_count (corner_face M) (is_corner M (not b) (not b)) M.darts all M.faces (extremes_onto b), count_all M.faces)

  counts : Counts
  counts = record {
    lefts = side_least false;
    rights = side_least true;
    tops = extreme_least true;
    bottoms = extreme_least false;
    in_all = count_four (is_corner M false true) (is_corner M true false) (is_corner M false false) (is_corner M true true) (one_kind M) M.darts ∙ B.two_darts;
  }

  pub euler_most : EulerMost M
  euler_most = omega (arith, counts)

module _ {M : Map} (P : Plane M) where
  B : Bipolar M
  B = P.bipolar

  -- two corners of one kind at one vertex are equal, and so are two in one face, where Euler's formula leaves no corner over
  one_side : (b : Bool) → count (is_corner M b (not b)) M.darts + 2 ≤ M.vertices
      → {d e : ℕ} → Corner M b (not b) d → Corner M b (not b) e → M.vertex d ≡ M.vertex e → d ≡ e
  one_side b few {d} {e} D E =
      onto_injective M.vertex (is_corner M b (not b)) M.darts (inner B) M.vertices (sides_onto B b) (omega (arith, inner_count B))
      d e D.below (is_corner_law D) E.below (is_corner_law E)

  one_extreme : (b : Bool) → count (is_corner M (not b) (not b)) M.darts ≤ M.faces
      → {d e : ℕ} → Corner M (not b) (not b) d → Corner M (not b) (not b) e → corner_face M d ≡ corner_face M e → d ≡ e
  one_extreme b few {d} {e} D E =
      onto_injective (corner_face M) (is_corner M (not b) (not b)) M.darts all M.faces (extremes_onto B b) (omega (arith, count_all M.faces))
      d e D.below (is_corner_law D) E.below (is_corner_law E)

  pub one_corner : OneCorner M
  one_corner = record {
    left = one_side false (omega (arith, counts B, P.euler));
    right = one_side true (omega (arith, counts B, P.euler));
    top = one_extreme true (omega (arith, counts B, P.euler));
    bottom = one_extreme false (omega (arith, counts B, P.euler));
  }
