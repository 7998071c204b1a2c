-- A vertex is put into an edge (put in): seen from the walk, an edge is added inside a vertex. Assumes nothing.
use Rattle.std.proofs.Common.{◌≡◌, sym, ◌∙◌, ap, subst, ◌≢◌, true, false, not, ℕ, suc, ◌+◌, ◌<◌, arith}
use Rattle.std.proofs.Math.Logic.{by_cases, ite, if_pos, if_neg}
use Rattle.std.proofs.Math.Decide.{ℕ_discrete}
use Rattle.counting.specs.Orbits.{Perm, Orbits}
use Rattle.counting.proofs.Iterate.{clash}
use Rattle.counting.proofs.Reach.{before}
use Rattle.counting.proofs.Orbits.{perm_agree, orbits_agree}
use Rattle.counting.proofs.Lowest.{orbit_count, lowest_orbits, orbits_by_count}
use Rattle.planarmap.specs.Map.{Map, walk, Bipolar}
use Rattle.surgery.specs.Darts.{Inserted}
use Rattle.surgery.specs.Edits.{Subdivided}
use Rattle.surgery.specs.Statements.{Rises, SubdividedBipolar, SubdividedFaces, SubdividedPlane, SubdividedRises}
use Rattle.surgery.proofs.Insert.{inserted_number}
use Rattle.surgery.proofs.Edge.{Pairing, across, opposite_one_one, paired, edge_perm, edge_splits}
use Rattle.surgery.proofs.Grow.{pairing, walk_perm, two_vertices, vertex_orbits, head_not_alone, Parts, parts_walk, bipolar, Dart, tail, head, old, dart, grown_out}

module _ {M M' : Map} {b : ℕ} (B : Bipolar M) (s : Subdivided M M' b) where
  darts : M'.darts ≡ suc (suc M.darts)
  darts = s.grown.darts

  -- the edge's tail dart, and the dart before b
  a : ℕ
  a = M.opposite b

  a_below : a < M.darts
  unfolding a
  a_below = B.opposite_below s.b_below

  opposite_a : M.opposite a ≡ b
  unfolding a
  opposite_a = B.opposite_opposite s.b_below

  a_out : M.out a ≡ true
  unfolding a
  a_out = B.opposite_out s.b_below ∙ ap not s.b_head

  next_not_b : M.next b ≢ b
  next_not_b = head_not_alone B s.b_below s.b_head s.b_other

  p_before : (p : ℕ) × (p < M.darts) × (M.next p ≡ b)
  p_before = before B.rotation b s.b_below

  p : ℕ
  p = p_before.0

  p_below : p < M.darts
  unfolding p
  p_below = p_before.1

  next_p : M.next p ≡ b
  unfolding p
  next_p = p_before.2

  p_not_b : p ≢ b
  p_not_b e = next_not_b (ap M.next (sym e) ∙ next_p)

  -- in the walk, the new darts come after a and before b
  walk_inserted : Inserted M.darts a (M.opposite p) (walk M) (walk M')
  walk_inserted = record {
    p_below = a_below;
    q_below = B.opposite_below p_below;
    two = λ e. p_not_b (cc (B.opposite_opposite p_below, opposite_a));
    at_p = cc (s.grown.paired.rest a_below, opposite_a, s.next_b);
    at_x = cc (s.grown.paired.at_x, s.next_head, opposite_a);
    at_q = cc (s.grown.paired.rest (B.opposite_below p_below), B.opposite_opposite p_below, s.next_before p_below p_not_b next_p);
    at_y = cc (s.grown.paired.at_y, s.next_tail, B.opposite_opposite p_below, next_p);
    rest = λ {d} h m n.
        let not_b : M.opposite d ≢ b = λ e. m (opposite_one_one (pairing B) d a h a_below (e ∙ sym opposite_a)) in
        let not_p : M.next (M.opposite d) ≢ b = λ e. n (sym (B.opposite_opposite h)
        ∙ ap M.opposite (B.rotation.one_one (M.opposite d) p (B.opposite_below h) p_below (e ∙ sym next_p))) in
        ap M'.next (s.grown.paired.rest h) ∙ s.next_rest (B.opposite_below h) not_b not_p;
  }

  opposites : Pairing (suc (suc M.darts)) M'.opposite
  opposites = paired s.grown.paired (pairing B)

  -- `next` is the walk after `opposite`
  next_across : (d : ℕ) → d < suc (suc M.darts) → M'.next d ≡ across (walk M') M'.opposite d
  next_across d h = ap M'.next (sym (opposites.back d h))

  rotation : Perm (suc (suc M.darts)) M'.next
  rotation = perm_agree M'.next (edge_perm (walk_perm B) (pairing B) walk_inserted s.grown.paired) next_across

  -- one vertex more
  vertex_count : orbit_count M'.next (suc (suc M.darts)) ≡ suc M.vertices
  vertex_count = edge_splits (walk_perm B) (pairing B) walk_inserted s.grown.paired
      (orbits_agree (across (walk M) M.opposite) B.rotation (λ d h. ap M.next (B.opposite_opposite h)) (vertex_orbits B))
      (orbits_agree (across (walk M') M'.opposite) rotation (λ d h. sym (next_across d h)) (lowest_orbits rotation))
      (cc (opposite_a, B.opposite_opposite p_below, next_p, B.next_vertex p_below))

  -- the rings: the new vertex has b and the new tail, the new head has the old place of b
  next_vertex : (d : ℕ) → Dart M.darts d → M'.vertex (M'.next d) ≡ M'.vertex d
  next_vertex d (tail e) = cc (s.next_tail, s.vertex_b, s.vertex_tail)
  next_vertex d (head e) = cc (s.next_head, s.vertex_rest (B.rotation.below b s.b_below) next_not_b, B.next_vertex s.b_below, s.vertex_head)
  next_vertex d (old h) = by_cases (ℕ_discrete d b)
      (λ e. cc (s.next_b, s.vertex_b, s.vertex_tail))
      (λ e. by_cases (ℕ_discrete (M.next d) b)
      (λ f. cc (s.next_before h e f, s.vertex_head, B.next_vertex h, s.vertex_rest h e))
      (λ f. cc (s.next_rest h e f, s.vertex_rest (B.rotation.below d h) f, B.next_vertex h, s.vertex_rest h e)))

  vertex_below : (d : ℕ) → Dart M.darts d → M'.vertex d < suc M.vertices
  vertex_below d (tail e) = omega (arith, ap M'.vertex e, s.vertex_tail)
  vertex_below d (head e) = omega (arith, ap M'.vertex e, s.vertex_head, B.vertex_below s.b_below)
  vertex_below d (old h) = by_cases (ℕ_discrete d b) (λ e. omega (arith, ap M'.vertex e, s.vertex_b))
      (λ e. omega (arith, s.vertex_rest h e, B.vertex_below h))

  vertex_used : (v : ℕ) → v < suc M.vertices → (d : ℕ) × (d < suc (suc M.darts)) × (M'.vertex d ≡ v)
  vertex_used v h = by_cases (ℕ_discrete v M.vertices) (λ e. (M.darts, omega arith, s.vertex_tail ∙ sym e)) (λ e.
      let t = (vertex_orbits B).used v (omega arith) in by_cases (ℕ_discrete t.0 b)
      (λ f. (suc M.darts, omega arith, s.vertex_head ∙ ap M.vertex (sym f) ∙ t.2))
      (λ f. (t.0, omega (arith, t.1), s.vertex_rest t.1 f ∙ t.2)))

  rings : Orbits (suc (suc M.darts)) M'.next M'.vertex (suc M.vertices)
  rings = orbits_by_count rotation (suc M.vertices) vertex_count M'.vertex
      (λ d h. vertex_below d (dart h)) (λ d h. next_vertex d (dart h)) vertex_used

  subdivided_parts : Parts M'
  subdivided_parts = record {
    two_darts = omega (arith, darts, s.grown.edges, B.two_darts);
    opposites = subst (λ D. Pairing D M'.opposite) (sym darts) opposites;
    opposite_out = λ h. grown_out s.grown B (dart (omega (arith, darts)));
    rotation = subst (λ D. Perm D M'.next) (sym darts) rotation;
    rings = rw (darts, s.vertices) rings;
    root_below = omega (arith, darts, s.grown.root, B.root_below);
    root_out = ap M'.out s.grown.root ∙ s.grown.out_rest B.root_below ∙ B.root_out;
    root_tail = ap M'.vertex s.grown.root ∙ s.vertex_rest B.root_below (λ e. clash B.root_out (ap M.out e ∙ s.b_head)) ∙ B.root_tail;
    root_head = cc (s.grown.root, s.grown.paired.rest B.root_below, s.vertex_rest (B.opposite_below B.root_below) (λ e. s.b_other (sym e)), B.root_head);
    source = λ {d} h. source d (dart (omega (arith, darts)));
    sink = λ {d} h. sink d (dart (omega (arith, darts)));
    has_out = λ {v} h n. by_cases (ℕ_discrete v M.vertices)
        (λ e. (M.darts, omega (arith, darts), s.vertex_tail ∙ sym e, s.grown.tail_out))
        (λ e. let t = B.has_out (omega (arith, h, s.vertices)) n in
        (t.0, omega (arith, darts, t.1), s.vertex_rest t.1 (λ q. clash t.3 (ap M.out q ∙ s.b_head)) ∙ t.2, s.grown.out_rest t.1 ∙ t.3));
    has_in = λ {v} h n. by_cases (ℕ_discrete v M.vertices)
        (λ e. (b, omega (arith, darts, s.b_below), s.vertex_b ∙ sym e, s.grown.out_rest s.b_below ∙ s.b_head))
        (λ e. let t = B.has_in (omega (arith, h, s.vertices)) n in by_cases (ℕ_discrete t.0 b)
        (λ f. (suc M.darts, omega (arith, darts), s.vertex_head ∙ ap M.vertex (sym f) ∙ t.2, s.grown.head_in))
        (λ f. (t.0, omega (arith, darts, t.1), s.vertex_rest t.1 f ∙ t.2, s.grown.out_rest t.1 ∙ t.3)));
  }
    where
      source : (d : ℕ) → Dart M.darts d → M'.vertex d ≡ 0 → M'.out d ≡ true
      source d (tail e) q = ap M'.out e ∙ s.grown.tail_out
      source d (head e) q = clash (B.source s.b_below (cc s.vertex_head)) s.b_head
      source d (old h) q = by_cases (ℕ_discrete d b)
          (λ e. absurd (omega (arith, two_vertices B, ap M'.vertex e, s.vertex_b)))
          (λ e. s.grown.out_rest h ∙ B.source h (sym (s.vertex_rest h e) ∙ q))

      sink : (d : ℕ) → Dart M.darts d → M'.vertex d ≡ 1 → M'.out d ≡ false
      sink d (tail e) q = absurd (omega (arith, two_vertices B, ap M'.vertex e, s.vertex_tail))
      sink d (head e) q = ap M'.out e ∙ s.grown.head_in
      sink d (old h) q = by_cases (ℕ_discrete d b)
          (λ e. absurd (omega (arith, two_vertices B, ap M'.vertex e, s.vertex_b)))
          (λ e. s.grown.out_rest h ∙ B.sink h (sym (s.vertex_rest h e) ∙ q))

  -- the rows doubled, and the new vertex just above the tail of its edge
  module _ (row : ℕ → ℕ) (r : Rises M row) where
    doubled : ℕ → ℕ
    doubled v = ite (ℕ_discrete v M.vertices) (suc (row (M.vertex a) + row (M.vertex a))) (row v + row v)

    doubled_new : {v : ℕ} → v ≡ M.vertices → doubled v ≡ suc (row (M.vertex a) + row (M.vertex a))
    unfolding doubled
    doubled_new {v} e = if_pos (ℕ_discrete v M.vertices) e (suc (row (M.vertex a) + row (M.vertex a))) (row v + row v)

    doubled_old : {v w : ℕ} → v ≡ w → w < M.vertices → doubled v ≡ row w + row w
    unfolding doubled
    doubled_old {v} {w} e h = if_neg (ℕ_discrete v M.vertices) (omega arith) (suc (row (M.vertex a) + row (M.vertex a))) (row v + row v) ∙ ap (λ x. row x + row x) e

    doubled_rises : Rises M' doubled
    doubled_rises d h t = go (dart (omega (arith, darts)))
      where
        go : Dart M.darts d → doubled (M'.vertex d) < doubled (M'.vertex (M'.opposite d))
        go (tail e) =
            let low = doubled_new {v = M'.vertex d} (ap M'.vertex e ∙ s.vertex_tail) in
            let high = doubled_old {v = M'.vertex (M'.opposite d)} (cc (s.grown.paired.at_x, s.vertex_head)) (B.vertex_below s.b_below) in
            omega (arith, r a a_below a_out, ap (λ x. row (M.vertex x)) opposite_a)
        go (head e) = clash t (ap M'.out e ∙ s.grown.head_in)
        go (old l) = up (s.grown.paired.rest l) (ℕ_discrete (M.opposite d) b)
          where
            d_not_b : d ≢ b
            d_not_b e = clash t (s.grown.out_rest l ∙ ap M.out e ∙ s.b_head)

            low : doubled (M'.vertex d) ≡ row (M.vertex d) + row (M.vertex d)
            low = doubled_old (s.vertex_rest l d_not_b) (B.vertex_below l)

            up : M'.opposite d ≡ M.opposite d → Dec (M.opposite d ≡ b) → doubled (M'.vertex d) < doubled (M'.vertex (M'.opposite d))
            up q (yes e) =
                let is_a : d ≡ a = opposite_one_one (pairing B) d a l a_below (e ∙ sym opposite_a) in
                let high = doubled_new {v = M'.vertex (M'.opposite d)} (cc s.vertex_b) in
                omega (arith, low, ap (λ x. row (M.vertex x)) is_a)
            up q (no n) =
                let high = doubled_old {v = M'.vertex (M'.opposite d)} (ap M'.vertex q ∙ s.vertex_rest (B.opposite_below l) n) (B.vertex_below (B.opposite_below l)) in
                omega (arith, low, r d l (sym (s.grown.out_rest l) ∙ t))

pub subdivided_bipolar : {M M' : Map} {b : ℕ} → SubdividedBipolar M M' b
subdivided_bipolar B s w r = bipolar (subdivided_parts B s) w r

pub subdivided_faces : {M M' : Map} {b : ℕ} → SubdividedFaces M M' b
subdivided_faces B s w = sym (inserted_number (walk_inserted B s) (walk_perm B) B.walks (rw (darts B s) at (w (parts_walk (subdivided_parts B s)))))

pub subdivided_plane : {M M' : Map} {b : ℕ} → SubdividedPlane M M' b
subdivided_plane P s w r = record {
  bipolar = subdivided_bipolar P.bipolar s w r;
  euler = omega (arith, P.euler, s.vertices, s.grown.edges, subdivided_faces P.bipolar s w);
}

pub subdivided_rises : {M M' : Map} {b : ℕ} → SubdividedRises M M' b
subdivided_rises B s row r = (doubled B s row r, doubled_rises B s row r)
