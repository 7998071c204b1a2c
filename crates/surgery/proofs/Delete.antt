-- The last edge is taken out (take out a wire): it was added. Assumes nothing.
use Rattle.std.proofs.Common.{◌≡◌, sym, ◌∙◌, ap, subst, ◌≢◌, true, false, ℕ, suc, ◌<◌, arith}
use Rattle.std.proofs.Math.Logic.{by_cases}
use Rattle.std.proofs.Math.Decide.{ℕ_discrete}
use Rattle.counting.specs.Orbits.{Perm, Orbits}
use Rattle.counting.proofs.Iterate.{clash}
use Rattle.counting.proofs.Lowest.{lowest_orbits, orbits_by_count}
use Rattle.planarmap.specs.Map.{Map, Bipolar}
use Rattle.planarmap.proofs.Corners.{euler_most}
use Rattle.surgery.specs.Darts.{Inserted}
use Rattle.surgery.specs.Edits.{Deleted}
use Rattle.surgery.specs.Statements.{DeletedBipolar, DeletedFaces, DeletedSame, DeletedSides, DeletedPlane, DeletedRises}
use Rattle.surgery.proofs.Insert.{removed_perm, inserted_number}
use Rattle.surgery.proofs.Edge.{before_x, before_y, removed_inserted, edge_undone, edge_merged}
use Rattle.surgery.proofs.Grow.{vertex_orbits, not_alone, Parts, parts_walk, bipolar, Dart, tail, head, old, dart, in_larger, tail_below, head_below, smaller_opposites, larger_rotation, smaller_out, ends_differ}

module _ {M M' : Map} (B : Bipolar M') (s : Deleted M M') where
  darts : M'.darts ≡ suc (suc M.darts)
  darts = s.grown.darts

  larger : {d : ℕ} → d < M.darts → d < M'.darts
  larger = in_larger B s.grown

  rotation' : Perm (suc (suc M.darts)) M'.next
  rotation' = larger_rotation B s.grown

  -- the ends of the edge have other darts beside them
  tail_next : M'.next M.darts < M.darts
  tail_next =
      let (d, below, at_v, t) = s.other_out in
      let not_tail : M'.next M.darts ≢ M.darts = not_alone B (tail_below B s.grown) (larger below) (sym at_v) (omega arith) in
      let not_head : M'.next M.darts ≢ suc M.darts = λ e. ends_differ B s.grown (sym (B.next_vertex (tail_below B s.grown)) ∙ ap M'.vertex e) in
      omega (arith, rotation'.below M.darts (omega arith))

  head_next : M'.next (suc M.darts) < M.darts
  head_next =
      let (d, below, at_v, t) = s.other_in in
      let not_head : M'.next (suc M.darts) ≢ suc M.darts = not_alone B (head_below B s.grown) (larger below) (sym at_v) (omega arith) in
      let not_tail : M'.next (suc M.darts) ≢ M.darts = λ e. ends_differ B s.grown (ap M'.vertex (sym e) ∙ B.next_vertex (head_below B s.grown)) in
      omega (arith, rotation'.below (suc M.darts) (omega arith))

  -- so it was added after two darts
  inserted : Inserted M.darts (before_x rotation' s.next tail_next head_next).0 (before_y rotation' s.next tail_next head_next).0 M.next M'.next
  inserted = removed_inserted rotation' s.next tail_next head_next

  rotation : Perm M.darts M.next
  rotation = removed_perm inserted rotation'

  -- the rings: each dart that is left has its vertex
  next_vertex : (d : ℕ) → d < M.darts → M.vertex (M.next d) ≡ M.vertex d
  next_vertex d h = s.vertex (rotation.below d h) ∙ by_cases (ℕ_discrete (M'.next d) M.darts)
      (λ e. cc (s.next.over_x h e, B.next_vertex (tail_below B s.grown), B.next_vertex (larger h), s.vertex h))
      (λ e. by_cases (ℕ_discrete (M'.next d) (suc M.darts))
      (λ f. cc (s.next.over_y h f, B.next_vertex (head_below B s.grown), B.next_vertex (larger h), s.vertex h))
      (λ f. cc (s.next.rest h (omega (arith, rotation'.below d (omega arith))), B.next_vertex (larger h), s.vertex h)))

  vertex_used : (v : ℕ) → v < M.vertices → (d : ℕ) × (d < M.darts) × (M.vertex d ≡ v)
  vertex_used v h = go ((vertex_orbits B).used v (omega (arith, s.vertices)))
    where
      pick : (d : ℕ) → Dart M.darts d → M'.vertex d ≡ v → (d : ℕ) × (d < M.darts) × (M.vertex d ≡ v)
      pick d (tail e) q = let t = s.other_out in (t.0, t.1, s.vertex t.1 ∙ t.2 ∙ ap M'.vertex (sym e) ∙ q)
      pick d (head e) q = let t = s.other_in in (t.0, t.1, s.vertex t.1 ∙ t.2 ∙ ap M'.vertex (sym e) ∙ q)
      pick d (old l) q = (d, l, s.vertex l ∙ q)

      go : (d : ℕ) × (d < M'.darts) × (M'.vertex d ≡ v) → (d : ℕ) × (d < M.darts) × (M.vertex d ≡ v)
      go (d, l, q) = pick d (dart (omega (arith, darts))) q

  rings : Orbits M.darts M.next M.vertex M.vertices
  rings = orbits_by_count rotation M.vertices
      (inserted_number inserted rotation (lowest_orbits rotation) (rw darts at (vertex_orbits B)) ∙ sym s.vertices)
      M.vertex (λ d h. omega (arith, s.vertex h, s.vertices, B.vertex_below (larger h))) next_vertex vertex_used

  deleted_parts : Parts M
  deleted_parts = record {
    two_darts = omega (arith, darts, s.grown.edges, B.two_darts);
    opposites = smaller_opposites B s.grown;
    opposite_out = smaller_out B s.grown;
    rotation = rotation;
    rings = rings;
    root_below = s.root_below;
    root_out = cc (s.grown.root, s.grown.out_rest s.root_below, B.root_out);
    root_tail = cc (s.grown.root, s.vertex s.root_below, B.root_tail);
    root_head = cc (s.grown.root, s.grown.paired.rest s.root_below, s.vertex ((smaller_opposites B s.grown).below M.root s.root_below), B.root_head);
    source = λ h q. sym (s.grown.out_rest h) ∙ B.source (larger h) (sym (s.vertex h) ∙ q);
    sink = λ h q. sym (s.grown.out_rest h) ∙ B.sink (larger h) (sym (s.vertex h) ∙ q);
    has_out = λ {v} h n. let (d, below, at_v, t) = B.has_out (subst (λ x. v < x) s.vertices h) n in has_out v d (dart (omega (arith, darts))) at_v t;
    has_in = λ {v} h n. let (d, below, at_v, t) = B.has_in (subst (λ x. v < x) s.vertices h) n in has_in v d (dart (omega (arith, darts))) at_v t;
  }
    where
      has_out : (v d : ℕ) → Dart M.darts d → M'.vertex d ≡ v → M'.out d ≡ true → (d : ℕ) × (d < M.darts) × (M.vertex d ≡ v) × (M.out d ≡ true)
      has_out v d (tail e) q t = let (x, l, at_v, u) = s.other_out in (x, l, s.vertex l ∙ at_v ∙ ap M'.vertex (sym e) ∙ q, sym (s.grown.out_rest l) ∙ u)
      has_out v d (head e) q t = clash t (ap M'.out e ∙ s.grown.head_in)
      has_out v d (old l) q t = (d, l, s.vertex l ∙ q, sym (s.grown.out_rest l) ∙ t)

      has_in : (v d : ℕ) → Dart M.darts d → M'.vertex d ≡ v → M'.out d ≡ false → (d : ℕ) × (d < M.darts) × (M.vertex d ≡ v) × (M.out d ≡ false)
      has_in v d (tail e) q t = clash (ap M'.out e ∙ s.grown.tail_out) t
      has_in v d (head e) q t = let (x, l, at_v, u) = s.other_in in (x, l, s.vertex l ∙ at_v ∙ ap M'.vertex (sym e) ∙ q, sym (s.grown.out_rest l) ∙ u)
      has_in v d (old l) q t = (d, l, s.vertex l ∙ q, sym (s.grown.out_rest l) ∙ t)

pub deleted_bipolar : {M M' : Map} → DeletedBipolar M M'
deleted_bipolar B s w r = bipolar (deleted_parts B s) w r

pub deleted_faces : {M M' : Map} → DeletedFaces M M'
deleted_faces B s w = edge_undone (rotation B s) (smaller_opposites B s.grown) (inserted B s) s.grown.paired
    (w (parts_walk (deleted_parts B s))) (rw (darts B s) at B.walks)

pub deleted_same : {M M' : Map} → DeletedSame M M'
deleted_same B s w = edge_merged (rotation B s) (smaller_opposites B s.grown) (inserted B s) s.grown.paired
    (w (parts_walk (deleted_parts B s))) (rw (darts B s) at B.walks)

-- one face at both sides would leave more faces than there can be
pub deleted_sides : {M M' : Map} → DeletedSides M M'
deleted_sides P s w r e =
    omega (arith, euler_most (deleted_bipolar P.bipolar s w r), deleted_same P.bipolar s w e, P.euler, s.vertices, s.grown.edges)

pub deleted_plane : {M M' : Map} → DeletedPlane M M'
deleted_plane P s w r = record {
  bipolar = deleted_bipolar P.bipolar s w r;
  euler = omega (arith, P.euler, s.vertices, s.grown.edges, deleted_faces P.bipolar s w (deleted_sides P s w r));
}

pub deleted_rises : {M M' : Map} → DeletedRises M M'
deleted_rises B s row r d h t =
    rw (s.vertex h, s.vertex ((smaller_opposites B s.grown).below d h), ← s.grown.paired.rest h)
    (r d (in_larger B s.grown h) (s.grown.out_rest h ∙ t))
