-- What follows at once from the laws of a map.
use Rattle.std.proofs.Common.{◌≡◌, refl, sym, ap, ◌∙◌, Bool, true, false, not, ◌≢◌, ℕ, zero, suc, ◌-◌, ◌≤◌, ◌<◌, arith}
use Rattle.std.proofs.Math.Bool.{beq, not-not}
use Rattle.counting.specs.Orbits.{iter}
use Rattle.counting.proofs.Iterate.{Turn, turn_between, iter_keeps, total, total_bounds, clash}
use Rattle.counting.proofs.Reach.{returns}
use Rattle.planarmap.specs.Map.{Map, Bipolar, walk}
use Rattle.planarmap.specs.Corners.{Corner}

-- ---- Booleans, and induction on a size

pub beq_same : (a : Bool) → beq a a ≡ true
beq_same true = refl
beq_same false = refl

pub beq_true : (a x : Bool) → beq a x ≡ true → x ≡ a
beq_true true true e = refl
beq_true true false e = e
beq_true false true e = sym e
beq_true false false e = refl

pub differ : {A : Type 0} (b : Bool) {x : Bool} → x ≡ b → x ≡ not b → A
differ true p q = clash p q
differ false p q = clash q p

pub by_size : (size : ℕ → ℕ) (Q : ℕ → Type 0) → ((d : ℕ) → ((e : ℕ) → size e < size d → Q e) → Q d) → (d : ℕ) → Q d
by_size size Q step d = go (suc (size d)) d (omega arith)
  where
    go : (k d : ℕ) → size d < k → Q d
    go zero d h = absurd (omega arith)
    go (suc k) d h = step d (λ e l. go k e (omega arith))

-- ---- maps

-- a dart at the vertex v
abbrev pub At : Map → ℕ → ℕ → Type 0
At M v d = (d < M.darts) × (M.vertex d ≡ v)

-- the root's tail, or its head
abbrev pub root_dart : Map → Bool → ℕ
root_dart M true = M.root
root_dart M false = M.opposite M.root

-- by rows, v is nearer than w to the root's tail, or to its head
abbrev pub Nearer : Map → Bool → ℕ → ℕ → Type 0
Nearer M true v w = M.row v < M.row w
Nearer M false v w = M.row w < M.row v

pub nearer_flip : (M : Map) (b : Bool) (v w : ℕ) → Nearer M b v w → Nearer M (not b) w v
nearer_flip M true v w h = h
nearer_flip M false v w h = h

pub nearer_trans : (M : Map) (b : Bool) (u v w : ℕ) → Nearer M b u v → Nearer M b v w → Nearer M b u w
nearer_trans M true u v w h k = omega arith
nearer_trans M false u v w h k = omega arith

module _ {M : Map} (B : Bipolar M) where
  pub next_below : {d : ℕ} → d < M.darts → M.next d < M.darts
  next_below {d} h = B.rotation.below d h

  pub walk_below : {d : ℕ} → d < M.darts → walk M d < M.darts
  walk_below h = next_below (B.opposite_below h)

  pub walk_vertex : {d : ℕ} → d < M.darts → M.vertex (walk M d) ≡ M.vertex (M.opposite d)
  walk_vertex h = B.next_vertex (B.opposite_below h)

  pub walk_face : {d : ℕ} → d < M.darts → M.face (walk M d) ≡ M.face d
  walk_face {d} h = B.walks.step d h

  -- the face after a dart, clockwise, is the one on the far side of its edge
  pub face_next : {d : ℕ} → d < M.darts → M.face (M.next d) ≡ M.face (M.opposite d)
  face_next h = ap (λ x. M.face (M.next x)) (sym (B.opposite_opposite h)) ∙ walk_face (B.opposite_below h)

  -- the other dart of a tail is a head, and the other way round
  pub opposite_is : {b : Bool} {d : ℕ} → d < M.darts → M.out d ≡ b → M.out (M.opposite d) ≡ not b
  opposite_is h e = B.opposite_out h ∙ ap not e

  pub opposite_one_one : {d e : ℕ} → d < M.darts → e < M.darts → M.opposite d ≡ M.opposite e → d ≡ e
  opposite_one_one h k p = sym (B.opposite_opposite h) ∙ ap M.opposite p ∙ B.opposite_opposite k

  -- ---- round a vertex

  pub at_next : {v : ℕ} (d : ℕ) → At M v d → At M v (M.next d)
  at_next d (h, e) = (next_below h, B.next_vertex h ∙ e)

  -- from a dart where the test is b to one where it is not, the test changes
  pub turn_at : (test : ℕ → Bool) (b : Bool) {v d e : ℕ} → At M v d → At M v e → test d ≡ b → test e ≡ not b → Turn M.next test b (At M v)
  turn_at test b {v} {d} {e} D E p q =
      let (i, there) = B.ring D.0 E.0 (D.1 ∙ sym E.1) in
      turn_between M.next test b (At M v) at_next i d D p (ap test there ∙ q)

  -- each dart has one before it
  pub previous : {d : ℕ} → d < M.darts → (p : ℕ) × At M (M.vertex d) p × (M.next p ≡ d)
  previous {d} h =
      let (i, _, e) = returns B.rotation d h in
      (iter M.next i d, iter_keeps M.next (At M (M.vertex d)) at_next i d (h, refl), e)

  -- ---- rows

  -- against an edge, one goes down
  pub falls : {d : ℕ} → d < M.darts → M.out d ≡ false → M.row (M.vertex (M.opposite d)) < M.row (M.vertex d)
  falls h e = rw (B.opposite_opposite h) at (B.rises (B.opposite_below h) (opposite_is h e))

  -- the tail of an edge is nearer to the root's tail than its head is, and its head nearer to the root's head
  pub nearer : (b : Bool) {d : ℕ} → d < M.darts → M.out d ≡ b → Nearer M b (M.vertex d) (M.vertex (M.opposite d))
  nearer true h o = B.rises h o
  nearer false h o = falls h o

  highest : ℕ
  highest = total (λ d. M.row (M.vertex d)) M.darts

  row_bounded : (d : ℕ) → d < M.darts → M.row (M.vertex d) ≤ highest
  unfolding highest
  row_bounded d h = total_bounds (λ x. M.row (M.vertex x)) M.darts d h

  -- by induction from the darts of nearer vertices
  pub by_rows : (b : Bool) (Q : ℕ → Type 0) → ((d : ℕ) → d < M.darts → ((e : ℕ) → e < M.darts → Nearer M b (M.vertex e) (M.vertex d) → Q e) → Q d)
      → (d : ℕ) → d < M.darts → Q d
  by_rows true Q step = by_size (λ d. M.row (M.vertex d)) (λ d. d < M.darts → Q d) (λ d ih h. step d h (λ e k l. ih e l k))
  by_rows false Q step = by_size (λ d. highest - M.row (M.vertex d)) (λ d. d < M.darts → Q d)
      (λ d ih h. step d h (λ e k l. ih e (omega (arith, row_bounded e k)) k))

  -- ---- the root

  pub root_below : (b : Bool) → root_dart M b < M.darts
  root_below true = B.root_below
  root_below false = B.opposite_below B.root_below

  pub root_opposite : (b : Bool) → M.opposite (root_dart M b) ≡ root_dart M (not b)
  root_opposite true = refl
  root_opposite false = B.opposite_opposite B.root_below

  -- all darts at the root's tail are tails, and all at its head are heads
  pub pole : (b : Bool) {d : ℕ} → d < M.darts → M.vertex d ≡ M.vertex (root_dart M b) → M.out d ≡ b
  pole true h e = B.source h (e ∙ B.root_tail)
  pole false h e = B.sink h (e ∙ B.root_head)

  -- a vertex with darts of both kinds is not the root's
  pub off_root : {a : Bool} {c d : ℕ} → Corner M a (not a) c → M.vertex d ≡ M.vertex c → (b : Bool) → d ≢ root_dart M b
  off_root {a} {c} {d} K e b q =
      let at_root : M.vertex c ≡ M.vertex (root_dart M b) = sym e ∙ ap M.vertex q in
      let one : a ≡ b = sym K.first ∙ pole b K.below at_root in
      let two : not a ≡ b = sym K.second ∙ pole b (next_below K.below) (B.next_vertex K.below ∙ at_root) in
      differ b one (sym (not-not a) ∙ ap not two)
