-- A vertex of one incoming and one outgoing edge is taken out (take out a bar): seen from the walk, an edge is taken out. Assumes nothing.
use Rattle.std.proofs.Common.{◌≡◌, refl, sym, ◌∙◌, ap, subst, ◌≢◌, ◌⊎◌, inl, inr, true, ℕ, zero, suc, ◌<◌, arith}
use Rattle.std.proofs.Math.Logic.{by_cases}
use Rattle.std.proofs.Math.Decide.{ℕ_discrete}
use Rattle.counting.specs.Orbits.{Perm, iter, Orbits}
use Rattle.counting.proofs.Iterate.{clash}
use Rattle.counting.proofs.Orbits.{perm_agree, orbits_agree}
use Rattle.counting.proofs.Lowest.{orbit_count, lowest_orbits, orbits_by_count}
use Rattle.planarmap.specs.Map.{Map, walk, Bipolar}
use Rattle.surgery.specs.Darts.{Inserted, Removed}
use Rattle.surgery.specs.Edits.{Smoothed}
use Rattle.surgery.specs.Statements.{SmoothedBipolar, SmoothedFaces, SmoothedPlane, SmoothedRises}
use Rattle.surgery.proofs.Insert.{removed_perm, inserted_number}
use Rattle.surgery.proofs.Edge.{Pairing, across, across_perm, before_x, before_y, removed_inserted, edge_undone}
use Rattle.surgery.proofs.Grow.{walk_perm, two_vertices, vertex_orbits, head_not_alone, Parts, bipolar, Dart, tail, head, old, dart, in_larger, tail_below, head_below, larger_opposites, smaller_opposites, larger_rotation, smaller_out, ends_differ}

module _ {M M' : Map} {b : ℕ} (B : Bipolar M') (s : Smoothed M M' b) where
  darts : M'.darts ≡ suc (suc M.darts)
  darts = s.grown.darts

  larger : {d : ℕ} → d < M.darts → d < M'.darts
  larger = in_larger B s.grown

  rotation' : Perm (suc (suc M.darts)) M'.next
  rotation' = larger_rotation B s.grown

  opposites : Pairing M.darts M.opposite
  opposites = smaller_opposites B s.grown

  one_one : {d e : ℕ} → d < suc (suc M.darts) → e < suc (suc M.darts) → M'.next d ≡ M'.next e → d ≡ e
  one_one {d} {e} h k q = rotation'.one_one d e h k q

  -- the vertex that goes is neither 0 nor 1, and has the two darts alone
  inner : 1 < M.vertices
  inner =
      let not_sink : M.vertices ≢ 1 = λ e. clash s.grown.tail_out (B.sink (tail_below B s.grown) (s.vertex_tail ∙ e)) in
      omega (arith, two_vertices B, s.vertices)

  vertex_b : M'.vertex b ≡ M.vertices
  vertex_b = cc (B.next_vertex (larger s.b_below), s.ring_b, s.vertex_tail)

  two_alone : (d : ℕ) → d < M'.darts → M'.vertex d ≡ M.vertices → (d ≡ M.darts) ⊎ (d ≡ b)
  two_alone d h e = let (i, r) = B.ring (tail_below B s.grown) h (s.vertex_tail ∙ sym e) in subst (λ x. (x ≡ M.darts) ⊎ (x ≡ b)) r (go i)
    where
      go : (i : ℕ) → (iter M'.next i M.darts ≡ M.darts) ⊎ (iter M'.next i M.darts ≡ b)
      go zero = inl refl
      go (suc i) = turn (go i)
        where
          turn : (iter M'.next i M.darts ≡ M.darts) ⊎ (iter M'.next i M.darts ≡ b)
              → (iter M'.next (suc i) M.darts ≡ M.darts) ⊎ (iter M'.next (suc i) M.darts ≡ b)
          turn (inl q) = inr (ap M'.next q ∙ s.ring_tail)
          turn (inr q) = inl (ap M'.next q ∙ s.ring_b)

  vertex_other : (d : ℕ) → d < M.darts → d ≢ b → M'.vertex d < M.vertices
  vertex_other d h n =
      let not_last : M'.vertex d ≢ M.vertices = λ e. which (two_alone d (larger h) e) in
      omega (arith, B.vertex_below (larger h), s.vertices)
    where
      which : (d ≡ M.darts) ⊎ (d ≡ b) → ⊥
      which (inl e) = omega arith
      which (inr e) = n e

  vertex_head : M'.vertex (suc M.darts) < M.vertices
  vertex_head =
      let not_last : M'.vertex (suc M.darts) ≢ M.vertices = λ e. ends_differ B s.grown (s.vertex_tail ∙ sym e) in
      omega (arith, B.vertex_below (head_below B s.grown), s.vertices)

  -- the root edge stays
  root_below : M.root < M.darts
  root_below = go (dart (omega (arith, darts, s.grown.root, B.root_below)))
    where
      go : Dart M.darts M.root → M.root < M.darts
      go (tail e) = absurd (omega (arith, inner, ap M'.vertex (s.grown.root ∙ e), s.vertex_tail, B.root_tail))
      go (head e) = clash B.root_out (ap M'.out (s.grown.root ∙ e) ∙ s.grown.head_in)
      go (old h) = h

  root_opposite : M'.opposite M'.root ≡ M.opposite M.root
  root_opposite = ap M'.opposite s.grown.root ∙ s.grown.paired.rest root_below

  root_not_b : M.opposite M.root ≢ b
  root_not_b e = omega (arith, inner, ap M'.vertex (root_opposite ∙ e), vertex_b, B.root_head)

  -- in the walk, the last edge's darts are taken out
  removed : Removed M.darts (walk M) (walk M')
  removed = record {
    over_x = λ {d} h q.
        let on_b : M.opposite d ≡ b = one_one (omega (arith, opposites.below d h)) (omega (arith, s.b_below)) (cc (s.grown.paired.rest h, s.ring_b)) in
        cc (s.next_b, s.grown.paired.at_x);
    over_y = λ {d} h q.
        let there : M'.next (M.opposite d) ≡ suc M.darts = ap M'.next (sym (s.grown.paired.rest h)) ∙ q in
        cc (s.next_before (opposites.below d h) (not_b (M.opposite d) (omega arith)) there, s.grown.paired.at_y, s.ring_tail);
    rest = λ {d} h q.
        let same : M'.next (M.opposite d) ≡ walk M' d = ap M'.next (sym (s.grown.paired.rest h)) in
        s.next_rest (opposites.below d h) (not_b (M.opposite d) (omega arith)) (omega arith) ∙ same;
  }
    where
      not_b : (d : ℕ) → M'.next d ≢ M.darts → d ≢ b
      not_b d n e = n (ap M'.next e ∙ s.ring_b)

  head_next : M'.next (suc M.darts) < M.darts
  head_next =
      let not_tail : M'.next (suc M.darts) ≢ M.darts = λ e.
      (let z : suc M.darts ≡ b = one_one (omega arith) (omega (arith, s.b_below)) (e ∙ sym s.ring_b) in omega (arith, s.b_below)) in
      let not_head : M'.next (suc M.darts) ≢ suc M.darts = head_not_alone B (head_below B s.grown) s.grown.head_in
      (λ e. omega (arith, root_opposite, opposites.below M.root root_below)) in
      omega (arith, rotation'.below (suc M.darts) (omega arith))

  walk_tail : walk M' M.darts < M.darts
  walk_tail = subst (λ x. x < M.darts) (ap M'.next (sym s.grown.paired.at_x)) head_next

  walk_head : walk M' (suc M.darts) < M.darts
  walk_head = subst (λ x. x < M.darts) (sym (ap M'.next s.grown.paired.at_y ∙ s.ring_tail)) s.b_below

  walk' : Perm (suc (suc M.darts)) (walk M')
  walk' = rw darts at (walk_perm B)

  inserted : Inserted M.darts (before_x walk' removed walk_tail walk_head).0 (before_y walk' removed walk_tail walk_head).0 (walk M) (walk M')
  inserted = removed_inserted walk' removed walk_tail walk_head

  walks_perm : Perm M.darts (walk M)
  walks_perm = removed_perm inserted walk'

  -- `next` is the walk after `opposite`
  next_across : (d : ℕ) → d < M.darts → M.next d ≡ across (walk M) M.opposite d
  next_across d h = ap M.next (sym (opposites.back d h))

  rotation : Perm M.darts M.next
  rotation = perm_agree M.next (across_perm opposites walks_perm) next_across

  -- one vertex fewer
  vertex_count : M'.vertices ≡ suc (orbit_count M.next M.darts)
  vertex_count = edge_undone walks_perm opposites inserted s.grown.paired
      (orbits_agree (across (walk M) M.opposite) rotation (λ d h. sym (next_across d h)) (lowest_orbits rotation))
      (orbits_agree (across (walk M') M'.opposite) rotation' (λ d h. ap M'.next ((larger_opposites B s.grown).back d h)) (rw darts at (vertex_orbits B)))
      (ends_differ B s.grown)

  -- the rings: b has the place of the last edge's head
  next_vertex : (d : ℕ) → d < M.darts → M.vertex (M.next d) ≡ M.vertex d
  next_vertex d h = by_cases (ℕ_discrete d b)
      (λ e. let n : M'.next (suc M.darts) ≢ b = λ q. (let z : suc M.darts ≡ M.darts = one_one (omega arith) (omega arith) (q ∙ sym s.ring_tail) in omega arith) in
      cc (s.next_b, s.vertex_rest head_next n, B.next_vertex (head_below B s.grown), s.vertex_b))
      (λ e. by_cases (ℕ_discrete (M'.next d) (suc M.darts))
      (λ f. cc (s.next_before h e f, s.vertex_b, B.next_vertex (larger h), s.vertex_rest h e))
      (λ f.
      let n : M'.next d ≢ b = λ q. (let z : d ≡ M.darts = one_one (omega arith) (omega arith) (q ∙ sym s.ring_tail) in omega arith) in
      let m : M'.next d ≢ M.darts = λ q. e (one_one (omega arith) (omega (arith, s.b_below)) (q ∙ sym s.ring_b)) in
      cc (s.next_rest h e f, s.vertex_rest (omega (arith, rotation'.below d (omega arith))) n, B.next_vertex (larger h), s.vertex_rest h e)))

  -- a dart of M' at another vertex, by its place in M
  placed : (d : ℕ) → Dart M.darts d → M'.vertex d < M.vertices → (x : ℕ) × (x < M.darts) × (M.vertex x ≡ M'.vertex d) × (M.out x ≡ M'.out d)
  placed d (tail e) l = absurd (omega (arith, ap M'.vertex e, s.vertex_tail))
  placed d (head e) l = (b, s.b_below, s.vertex_b ∙ ap M'.vertex (sym e), cc (s.grown.out_rest s.b_below, s.b_head, s.grown.head_in))
  placed d (old h) l =
      let n : d ≢ b = λ e. (omega (arith, ap M'.vertex e, vertex_b)) in
      (d, h, s.vertex_rest h n, sym (s.grown.out_rest h))

  rings : Orbits M.darts M.next M.vertex M.vertices
  rings = orbits_by_count rotation M.vertices (omega (arith, vertex_count, s.vertices)) M.vertex
      (λ d h. by_cases (ℕ_discrete d b) (λ e. omega (arith, ap M.vertex e, s.vertex_b, vertex_head)) (λ e. omega (arith, s.vertex_rest h e, vertex_other d h e)))
      next_vertex
      (λ v h. let (d, l, at_v) = (vertex_orbits B).used v (omega (arith, s.vertices)) in
      let t = placed d (dart (omega (arith, darts))) (omega arith) in (t.0, t.1, t.2 ∙ at_v))

  smoothed_parts : Parts M
  smoothed_parts = record {
    two_darts = omega (arith, darts, s.grown.edges, B.two_darts);
    opposites = opposites;
    opposite_out = smaller_out B s.grown;
    rotation = rotation;
    rings = rings;
    root_below = root_below;
    root_out = cc (s.grown.root, s.grown.out_rest root_below, B.root_out);
    root_tail = cc (s.grown.root, s.vertex_rest root_below root_tail_not_b, B.root_tail);
    root_head = cc (root_opposite, s.vertex_rest (opposites.below M.root root_below) root_not_b, B.root_head);
    source = λ {d} h q. by_cases (ℕ_discrete d b)
        (λ e. clash (B.source (head_below B s.grown) (cc s.vertex_b)) s.grown.head_in)
        (λ e. sym (s.grown.out_rest h) ∙ B.source (larger h) (sym (s.vertex_rest h e) ∙ q));
    sink = λ {d} h q. by_cases (ℕ_discrete d b)
        (λ e. cc (s.grown.out_rest h, s.b_head))
        (λ e. sym (s.grown.out_rest h) ∙ B.sink (larger h) (sym (s.vertex_rest h e) ∙ q));
    has_out = λ {v} h n. let (d, l, at_v, t) = B.has_out (omega (arith, s.vertices)) n in
        let (x, k, at_x, same) = placed d (dart (omega (arith, darts))) (omega arith) in (x, k, at_x ∙ at_v, same ∙ t);
    has_in = λ {v} h n. let (d, l, at_v, t) = B.has_in (omega (arith, s.vertices)) n in
        let (x, k, at_x, same) = placed d (dart (omega (arith, darts))) (omega arith) in (x, k, at_x ∙ at_v, same ∙ t);
  }
    where
      root_tail_not_b : M.root ≢ b
      root_tail_not_b e = clash B.root_out (ap M'.out (s.grown.root ∙ e) ∙ s.b_head)

pub smoothed_bipolar : {M M' : Map} {b : ℕ} → SmoothedBipolar M M' b
smoothed_bipolar B s w r = bipolar (smoothed_parts B s) w r

pub smoothed_faces : {M M' : Map} {b : ℕ} → SmoothedFaces M M' b
smoothed_faces B s w = inserted_number (inserted B s) (walks_perm B s) (w (walks_perm B s)) (rw (darts B s) at B.walks)

pub smoothed_plane : {M M' : Map} {b : ℕ} → SmoothedPlane M M' b
smoothed_plane P s w r = record {
  bipolar = smoothed_bipolar P.bipolar s w r;
  euler = omega (arith, P.euler, s.vertices, s.grown.edges, smoothed_faces P.bipolar s w);
}

-- the edge that b now ends rises through the vertex that is gone
pub smoothed_rises : {M M' : Map} {b : ℕ} → SmoothedRises M M' b
smoothed_rises {M} {M'} {b} B s row r d h t =
    let out_d : M'.out d ≡ true = s.grown.out_rest h ∙ t in
    let low : M.vertex d ≡ M'.vertex d = s.vertex_rest h (λ e. clash out_d (ap M'.out e ∙ s.b_head)) in
    let step = r d (in_larger B s.grown h) out_d in
    let same : M'.opposite d ≡ M.opposite d = s.grown.paired.rest h in
    by_cases (ℕ_discrete (M.opposite d) b)
    (λ e.
    let first : M'.vertex (M'.opposite d) ≡ M'.vertex M.darts = cc (vertex_b B s, s.vertex_tail) in
    let last : M.vertex (M.opposite d) ≡ M'.vertex (M'.opposite M.darts) = cc (s.vertex_b, s.grown.paired.at_x) in
    omega (arith, step, r M.darts (tail_below B s.grown) s.grown.tail_out, ap row low, ap row first, ap row last))
    (λ e.
    let high : M.vertex (M.opposite d) ≡ M'.vertex (M'.opposite d) = cc (s.vertex_rest ((opposites B s).below d h) e) in
    omega (arith, step, ap row low, ap row high))
