-- An edge is added between two corners (run). Assumes nothing.
use Rattle.std.proofs.Common.{◌≡◌, sym, ◌∙◌, ap, subst, ◌≢◌, Bool, true, false, cond, ℕ, suc, ◌+◌, ◌<◌, arith}
use Rattle.std.proofs.Math.Logic.{by_cases}
use Rattle.std.proofs.Math.Decide.{ℕ_discrete}
use Rattle.counting.specs.Orbits.{Perm, Orbits}
use Rattle.counting.proofs.Iterate.{by_bool, clash, total, total_bounds}
use Rattle.counting.proofs.Lowest.{lowest_orbits, orbits_by_count}
use Rattle.planarmap.specs.Map.{Map, walk, Bipolar}
use Rattle.surgery.specs.Edits.{Added}
use Rattle.surgery.specs.Statements.{Walks, Rises, AddedBipolar, AddedFaces, AddedSides, AddedPlane, AddedRises}
use Rattle.surgery.proofs.Insert.{inserted_perm, inserted_number}
use Rattle.surgery.proofs.Edge.{Pairing, paired, edge_perm, edge_splits, edge_parts}
use Rattle.surgery.proofs.Grow.{pairing, vertex_orbits, row_least, row_most, Parts, bipolar, Dart, tail, head, old, dart, grown_out}

module _ {M M' : Map} {p q : ℕ} (B : Bipolar M) (s : Added M M' p q) where
  darts : M'.darts ≡ suc (suc M.darts)
  darts = s.grown.darts

  rotation : Perm (suc (suc M.darts)) M'.next
  rotation = inserted_perm s.next B.rotation

  -- the rings: each new dart joins the vertex of the dart that it comes after
  next_vertex : (d : ℕ) → Dart M.darts d → M'.vertex (M'.next d) ≡ M'.vertex d
  next_vertex d (tail e) =
      cc (s.next.at_x, s.vertex_rest (B.rotation.below p s.next.p_below), B.next_vertex s.next.p_below, s.vertex_tail)
  next_vertex d (head e) =
      cc (s.next.at_y, s.vertex_rest (B.rotation.below q s.next.q_below), B.next_vertex s.next.q_below, s.vertex_head)
  next_vertex d (old h) = by_cases (ℕ_discrete d p)
      (λ e. cc (s.next.at_p, s.vertex_tail, s.vertex_rest h))
      (λ e. by_cases (ℕ_discrete d q)
      (λ f. cc (s.next.at_q, s.vertex_head, s.vertex_rest h))
      (λ f. cc (s.next.rest h e f, s.vertex_rest h, s.vertex_rest (B.rotation.below d h), B.next_vertex h)))

  vertex_below : (d : ℕ) → Dart M.darts d → M'.vertex d < M.vertices
  vertex_below d (tail e) = omega (arith, ap M'.vertex e, s.vertex_tail, B.vertex_below s.next.p_below)
  vertex_below d (head e) = omega (arith, ap M'.vertex e, s.vertex_head, B.vertex_below s.next.q_below)
  vertex_below d (old h) = omega (arith, s.vertex_rest h, B.vertex_below h)

  rings : Orbits (suc (suc M.darts)) M'.next M'.vertex M.vertices
  rings = orbits_by_count rotation M.vertices (sym (inserted_number s.next B.rotation (vertex_orbits B) (lowest_orbits rotation)))
      M'.vertex (λ d h. vertex_below d (dart h)) (λ d h. next_vertex d (dart h))
      (λ v h. let t = (vertex_orbits B).used v h in (t.0, omega (arith, t.1), s.vertex_rest t.1 ∙ t.2))

  -- the new edge leads neither to vertex 0 nor from vertex 1
  module _ (r : Rises M' M'.row) where
    old_rises : Rises M M'.row
    old_rises d h t =
        rw (s.grown.paired.rest h, s.vertex_rest h, s.vertex_rest (B.opposite_below h)) at (r d (omega (arith, darts)) (s.grown.out_rest h ∙ t))

    new_rises : M'.row (M.vertex p) < M'.row (M.vertex q)
    new_rises = rw (s.grown.paired.at_x, s.vertex_tail, s.vertex_head) at (r M.darts (omega (arith, darts)) s.grown.tail_out)

    not_to_source : M.vertex q ≢ 0
    not_to_source e = omega (arith, new_rises, ap M'.row e, row_least B M'.row old_rises (M.vertex p) (B.vertex_below s.next.p_below))

    not_from_sink : M.vertex p ≢ 1
    not_from_sink e = omega (arith, new_rises, ap M'.row e, row_most B M'.row old_rises q s.next.q_below)

    added_parts : Parts M'
    added_parts = record {
      two_darts = omega (arith, darts, s.grown.edges, B.two_darts);
      opposites = subst (λ D. Pairing D M'.opposite) (sym darts) (paired s.grown.paired (pairing B));
      opposite_out = λ h. grown_out s.grown B (dart (omega (arith, darts)));
      rotation = subst (λ D. Perm D M'.next) (sym darts) rotation;
      rings = rw (darts, s.vertices) rings;
      root_below = omega (arith, darts, s.grown.root, B.root_below);
      root_out = ap M'.out s.grown.root ∙ s.grown.out_rest B.root_below ∙ B.root_out;
      root_tail = ap M'.vertex s.grown.root ∙ s.vertex_rest B.root_below ∙ B.root_tail;
      root_head = cc (s.grown.root, s.grown.paired.rest B.root_below, s.vertex_rest (B.opposite_below B.root_below), B.root_head);
      source = λ {d} h. source d (dart (omega (arith, darts)));
      sink = λ {d} h. sink d (dart (omega (arith, darts)));
      has_out = λ {v} h n. let t = B.has_out (subst (λ x. v < x) s.vertices h) n in
          (t.0, omega (arith, darts, t.1), s.vertex_rest t.1 ∙ t.2, s.grown.out_rest t.1 ∙ t.3);
      has_in = λ {v} h n. let t = B.has_in (subst (λ x. v < x) s.vertices h) n in
          (t.0, omega (arith, darts, t.1), s.vertex_rest t.1 ∙ t.2, s.grown.out_rest t.1 ∙ t.3);
    }
      where
        source : (d : ℕ) → Dart M.darts d → M'.vertex d ≡ 0 → M'.out d ≡ true
        source d (tail e) q = ap M'.out e ∙ s.grown.tail_out
        source d (head e) q = absurd (not_to_source (cc s.vertex_head))
        source d (old h) q = s.grown.out_rest h ∙ B.source h (sym (s.vertex_rest h) ∙ q)

        sink : (d : ℕ) → Dart M.darts d → M'.vertex d ≡ 1 → M'.out d ≡ false
        sink d (tail e) q = absurd (not_from_sink (cc s.vertex_tail))
        sink d (head e) q = ap M'.out e ∙ s.grown.head_in
        sink d (old h) q = s.grown.out_rest h ∙ B.sink h (sym (s.vertex_rest h) ∙ q)

  -- the faces
  module _ (w : Walks M') where
    walks : Orbits (suc (suc M.darts)) (walk M') M'.face M'.faces
    walks = rw darts at (w (rw darts (edge_perm B.rotation (pairing B) s.next s.grown.paired)))

  -- the vertices above the new edge's head are lifted over all others
  module _ (above : ℕ → Bool) (closed : (d : ℕ) → d < M.darts → M.out d ≡ true → above (M.vertex d) ≡ true → above (M.vertex (M.opposite d)) ≡ true)
      (head_above : above (M.vertex q) ≡ true) (tail_not : above (M.vertex p) ≡ false) (row : ℕ → ℕ) (r : Rises M row) where
    over : ℕ
    over = suc (total (λ d. row (M.vertex d)) M.darts)

    lifted : ℕ → ℕ
    lifted v = cond (above v) (over + row v) (row v)

    lifted_true : {v w : ℕ} → v ≡ w → above w ≡ true → lifted v ≡ over + row w
    unfolding lifted
    lifted_true e t = rw (e, t)

    lifted_false : {v w : ℕ} → v ≡ w → above w ≡ false → lifted v ≡ row w
    unfolding lifted
    lifted_false e f = rw (e, f)

    lifted_rises : Rises M' lifted
    unfolding over
    lifted_rises d h t = go (dart (omega (arith, darts)))
      where
        go : Dart M.darts d → lifted (M'.vertex d) < lifted (M'.vertex (M'.opposite d))
        go (tail e) =
            let low = lifted_false {v = M'.vertex d} (ap M'.vertex e ∙ s.vertex_tail) tail_not in
            let high = lifted_true {v = M'.vertex (M'.opposite d)} (cc (s.grown.paired.at_x, s.vertex_head)) head_above in
            omega (arith, total_bounds (λ x. row (M.vertex x)) M.darts p s.next.p_below)
        go (head e) = clash t (ap M'.out e ∙ s.grown.head_in)
        go (old l) =
            let out_d : M.out d ≡ true = sym (s.grown.out_rest l) ∙ t in
            let low : M'.vertex d ≡ M.vertex d = s.vertex_rest l in
            let high : M'.vertex (M'.opposite d) ≡ M.vertex (M.opposite d) = ap M'.vertex (s.grown.paired.rest l) ∙ s.vertex_rest (B.opposite_below l) in
            by_bool (above (M.vertex d))
            (λ a. omega (arith, lifted_true low a, lifted_true high (closed d l out_d a), r d l out_d))
            (λ a. by_bool (above (M.vertex (M.opposite d)))
            (λ b. omega (arith, lifted_false low a, lifted_true high b, r d l out_d))
            (λ b. omega (arith, lifted_false low a, lifted_false high b, r d l out_d)))

pub added_bipolar : {M M' : Map} {p q : ℕ} → AddedBipolar M M' p q
added_bipolar B s w r = bipolar (added_parts B s r) w r

pub added_faces : {M M' : Map} {p q : ℕ} → AddedFaces M M' p q
added_faces B s w = edge_splits B.rotation (pairing B) s.next s.grown.paired B.walks (walks B s w)

pub added_sides : {M M' : Map} {p q : ℕ} → AddedSides M M' p q
added_sides B s w = edge_parts B.rotation (pairing B) s.next s.grown.paired B.walks (walks B s w)

pub added_plane : {M M' : Map} {p q : ℕ} → AddedPlane M M' p q
added_plane P s w r e = record {
  bipolar = added_bipolar P.bipolar s w r;
  euler = omega (arith, P.euler, s.vertices, s.grown.edges, added_faces P.bipolar s w e);
}

pub added_rises : {M M' : Map} {p q : ℕ} → AddedRises M M' p q
added_rises B s above closed t f row r = (lifted B s above closed t f row r, lifted_rises B s above closed t f row r)
