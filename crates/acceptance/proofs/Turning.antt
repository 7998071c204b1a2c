-- Two choices of directions for the same links, with the same wires clockwise around each bar, have as many faces. Assumes nothing.
use Rattle.std.proofs.Common.{◌≡◌, ◌↔◌, refl, sym, ◌∙◌, ap, subst, ◌≢◌, inl, inr, Bool, true, false, not, ℕ, suc, ◌+◌, ◌*◌, ◌/◌, ◌≤◌, ◌<◌, arith, List, get_or, length}
use Rattle.counting.specs.Orbits.{Bijection, Orbits}
use Rattle.counting.proofs.Orbits.{renumbered_orbits}
use Rattle.clauses.specs.Darts.{opposite}
use Rattle.clauses.specs.declared.Sheet.{Sheet}
use Rattle.sheet.specs.Darts.{darts, vertex, next, walk, touches, dart_at}
use Rattle.sheet.specs.Sound.{Joins, Ring, Euler}
use Rattle.sheet.proofs.Darts.{dart, edge_below, dart_edge, dart_opposite, each_dart, opposite_below}
use Rattle.soundness.proofs.Ends.{EndAt, at_edge, at_end, touches_says, end_touches, end_at_law}
use Rattle.soundness.proofs.Rings.{vertex_below, rings_rotation}
use Rattle.soundness.proofs.Faces.{walk_perm}
use Rattle.orientation.specs.Links.{Directs, Choice}
use Rattle.orientation.specs.Links.Directs.{kept, reversed}
use Rattle.orientation.proofs.Choices.{choice_sym, directs_joins}
use Rattle.roundtrip.proofs.Around.{Around}
use Rattle.roundtrip.proofs.Laid.{Laid, cyclic, laid_ring}
use Rattle.acceptance.specs.Loading.{ItsWires, edges_only}
use Rattle.acceptance.proofs.Said.{Said, around_its, its_around}

-- ---- the darts of an edge

opposite_edge : (d : ℕ) → opposite d / 2 ≡ d / 2
opposite_edge = each_dart (λ d. opposite d / 2 ≡ d / 2) (λ b k. ap (λ d. d / 2) (dart_opposite b k) ∙ dart_edge (not b) k ∙ sym (dart_edge b k))

opposite_other : (d : ℕ) → opposite d ≢ d
opposite_other = each_dart (λ d. opposite d ≢ d) other
  where
    other : (b : Bool) (k : ℕ) → opposite (dart b k) ≢ dart b k
    other true k e = let z : 2 * k + 1 ≡ 2 * k = sym (dart_opposite true k) ∙ e in omega arith
    other false k e = let z : 2 * k ≡ 2 * k + 1 = sym (dart_opposite false k) ∙ e in omega arith

-- there are two
one_other : (d e f : ℕ) → d / 2 ≡ f / 2 → e / 2 ≡ f / 2 → d ≢ f → e ≢ f → d ≡ e
one_other d e f p q m n = omega arith

-- ---- the wires of a bar

-- a wire has its ends where its link has them
directs_touches : {s t : Sheet} {k : ℕ} → Directs s t k → (v : ℕ) → touches s k v ≡ true → touches t k v ≡ true
directs_touches {s} {t} {k} (kept p q) v h = (touches_says t k v).1 (elim ((touches_says s k v).0 h) [ inl e ↦ inl (p ∙ e) | inr e ↦ inr (q ∙ e) ])
directs_touches {s} {t} {k} (reversed p q) v h = (touches_says t k v).1 (elim ((touches_says s k v).0 h) [ inl e ↦ inr (q ∙ e) | inr e ↦ inl (p ∙ e) ])

-- the wires of a bar are its links
around_choice : {s t : Sheet} → Choice s t → {v : ℕ} {ws : List ℕ} → Around s v ws → Around t v ws
around_choice {s} C {v} {ws} A = record {
  distinct = A.distinct;
  inside = λ i h. omega (arith, A.inside i h, C.edges);
  touching = λ i h. directs_touches (C.directs (get_or ws i 0) (A.inside i h)) v (A.touching i h);
  all = λ k h t. let l : k < s.edges = omega (arith, C.edges) in A.all k l (directs_touches ((choice_sym C).directs k h) v t);
}

-- so a line lists them for one choice of directions where it does for another
module _ (s : Sheet) (tails heads : List ℕ) (C : Choice s (edges_only s.vertices tails heads)) where
  ends : Said (edges_only s.vertices tails heads) (length tails) tails heads
  ends = record { tail_count = refl; its_tails = λ k h. refl; its_heads = λ k h. refl }

  pub choice_its : {v : ℕ} {ws : List ℕ} → Around s v ws → ItsWires tails heads v ws
  choice_its A = around_its (edges_only s.vertices tails heads) tails heads ends (around_choice C A)

  pub its_choice : {v : ℕ} {ws : List ℕ} → ItsWires tails heads v ws → Around s v ws
  its_choice W = around_choice (choice_sym C) (its_around (edges_only s.vertices tails heads) tails heads ends W)

-- ---- darts of the same link at the same bar

-- the dart of t that has the link and the bar of dart d of s
unfoldable carried : Sheet → Sheet → ℕ → ℕ
carried s t d = dart_at t (d / 2) (vertex s d)

carried_edge : (s t : Sheet) (d : ℕ) → carried s t d / 2 ≡ d / 2
unfolding carried
carried_edge s t d = at_edge t (d / 2) (vertex s d)

module _ (s t : Sheet) (C : Choice s t) (joins : (k : ℕ) → k < s.edges → Joins s k) where
  carried_end : (d : ℕ) → d < darts s → EndAt t (vertex s d) (carried s t d)
  unfolding carried
  carried_end d h = at_end t (d / 2) (vertex s d) (omega (arith, edge_below s h, C.edges)) (directs_touches (C.directs (d / 2) (edge_below s h)) (vertex s d) (end_touches s (record { below = h; here = refl })))

  carried_below : (d : ℕ) → d < darts s → carried s t d < darts s
  carried_below d h = omega (arith, (carried_end d h).below, C.edges)

  carried_back : (d : ℕ) → d < darts s → carried t s (carried s t d) ≡ d
  unfolding carried
  carried_back d h =
      ap (λ k. dart_at s k (vertex t (carried s t d))) (carried_edge s t d)
      ∙ ap (dart_at s (d / 2)) (carried_end d h).here
      ∙ end_at_law s joins (record { below = h; here = refl })

  carried_opposite : (d : ℕ) → d < darts s → carried s t (opposite d) ≡ opposite (carried s t d)
  carried_opposite d h = one_other _ _ (carried s t d)
      (carried_edge s t (opposite d) ∙ opposite_edge d ∙ sym (carried_edge s t d))
      (opposite_edge (carried s t d))
      (λ e. opposite_other d (sym (carried_back (opposite d) (opposite_below s d h)) ∙ ap (carried t s) e ∙ carried_back d h))
      (opposite_other (carried s t d))

-- ---- the walk

-- t is s with some wires turned round: the same wires stand clockwise around each bar
pub record SameRings (s t : Sheet) : Type 0 where
  pub choice : Choice s t
  pub few : s.edges ≤ 256
  pub joins : (k : ℕ) → k < s.edges → Joins s k
  pub wires : ℕ → List ℕ
  pub laid : (v : ℕ) → v < s.vertices → Laid s v s.nexts (wires v)
  pub other_laid : (v : ℕ) → v < s.vertices → Laid t v t.nexts (wires v)

pub same_rings_sym : {s t : Sheet} → SameRings s t → SameRings t s
same_rings_sym T = let C = T.choice in record {
  choice = choice_sym C;
  few = omega (arith, C.edges, T.few);
  joins = λ k h. (let l : k < _ = omega (arith, C.edges) in directs_joins C.vertices (C.directs k l) (T.joins k l));
  wires = T.wires;
  laid = λ v h. T.other_laid v (omega (arith, C.vertices));
  other_laid = λ v h. T.laid v (omega (arith, C.vertices));
}

module _ {s t : Sheet} (T : SameRings s t) where
  carried_bijection : Bijection (darts s) (carried s t) (carried t s)
  carried_bijection =
      let C = T.choice in
      let U = same_rings_sym T in
      record {
        to_below = carried_below s t C T.joins;
        from_below = λ d h. omega (arith, carried_below t s U.choice U.joins d (omega (arith, C.edges)), C.edges);
        from_to = carried_back s t C T.joins;
        to_from = λ d h. carried_back t s U.choice U.joins d (omega (arith, C.edges));
      }

  ring : (v : ℕ) → v < s.vertices → Ring s v
  ring v h = laid_ring s v (T.wires v) (T.laid v h) T.joins

  -- clockwise, the same wire comes next
  carried_next : (d : ℕ) → d < darts s → next t (carried s t d) ≡ carried s t (next s d)
  unfolding carried
  carried_next d h =
      let v : ℕ = vertex s d in
      let l : v < s.vertices = vertex_below s T.joins d h in
      let e : EndAt s v d = record { below = h; here = refl } in
      let L = T.laid v l in
      let (i, m, q) = L.around.all (d / 2) (edge_below s h) (end_touches s e) in
      let on : next s d ≡ dart_at s (cyclic (T.wires v) (suc i)) v = ap (next s) (sym (ap (λ k. dart_at s k v) q ∙ end_at_law s T.joins e)) ∙ L.follows i m in
      ap (λ k. next t (dart_at t k v)) (sym q)
      ∙ (T.other_laid v l).follows i m
      ∙ ap (λ k. dart_at t k v) (sym (ap (λ d. d / 2) on ∙ at_edge s (cyclic (T.wires v) (suc i)) v))
      ∙ ap (dart_at t (next s d / 2)) (sym ((ring v l).stays d h refl))

  carried_walk : (d : ℕ) → d < darts s → walk t (carried s t d) ≡ carried s t (walk s d)
  carried_walk d h = ap (next t) (sym (carried_opposite s t T.choice T.joins d h)) ∙ carried_next (opposite d) (opposite_below s d h)

  -- so there are as many faces
  euler_carried : Euler s → Euler t
  euler_carried E =
      let o = renumbered_orbits (walk_perm s T.few (rings_rotation s T.joins ring)) (walk t) carried_bijection carried_walk E.numbered in
      record {
        faces = E.faces;
        face = λ d. E.face (carried t s d);
        numbered = subst (λ m. Orbits (2 * m) (walk t) (λ d. E.face (carried t s d)) E.faces) (sym T.choice.edges) o;
        two = omega (arith, E.two, T.choice.vertices, T.choice.edges);
      }

-- Euler's formula holds in both or in neither
pub same_rings_euler : {s t : Sheet} → SameRings s t → Euler s ↔ Euler t
same_rings_euler T = (euler_carried T, euler_carried (same_rings_sym T))
