-- What follows at once from the laws of a bipolar map, and of a map with one edge more. Assumes nothing.
use Rattle.std.proofs.Common.{◌≡◌, refl, sym, ◌∙◌, ap, subst, ◌≢◌, true, false, not, ℕ, zero, suc, ◌+◌, ◌-◌, ◌≤◌, ◌<◌, arith}
use Rattle.std.proofs.Math.Logic.{by_cases}
use Rattle.std.proofs.Math.Decide.{ℕ_discrete}
use Rattle.counting.specs.Orbits.{Perm, iter, Orbits}
use Rattle.counting.proofs.Iterate.{clash, total, total_bounds}
use Rattle.planarmap.specs.Map.{Map, walk, Bipolar}
use Rattle.surgery.specs.Edits.{Grown}
use Rattle.surgery.specs.Statements.{Walks, Rises}
use Rattle.surgery.proofs.Edge.{Pairing, across_perm, unpaired}

module _ {M : Map} (B : Bipolar M) where
  pub pairing : Pairing M.darts M.opposite
  pairing = record { below = λ d h. B.opposite_below h; back = λ d h. B.opposite_opposite h }

  pub walk_perm : Perm M.darts (walk M)
  walk_perm = across_perm pairing B.rotation

  pub two_vertices : 1 < M.vertices
  two_vertices = rw B.root_head at (B.vertex_below (B.opposite_below B.root_below))

  -- the vertices are the orbits of `next`
  pub vertex_orbits : Orbits M.darts M.next M.vertex M.vertices
  vertex_orbits = record {
    inside = λ d h. B.vertex_below h;
    step = λ d h. B.next_vertex h;
    joins = λ d e h k q. B.ring h k q;
    used = λ v h. by_cases (ℕ_discrete v 1)
        (λ e. (M.opposite M.root, B.opposite_below B.root_below, B.root_head ∙ sym e))
        (λ e. let t = B.has_out h e in (t.0, t.1, t.2));
  }

  -- a dart with another one at its vertex is not its own next
  pub not_alone : {d e : ℕ} → d < M.darts → e < M.darts → M.vertex d ≡ M.vertex e → e ≢ d → M.next d ≢ d
  not_alone {d} {e} h k q n same = let (i, r) = B.ring h k q in n (sym r ∙ stay i)
    where
      stay : (i : ℕ) → iter M.next i d ≡ d
      stay zero = refl
      stay (suc i) = ap M.next (stay i) ∙ same

  -- so a head dart other than the root edge's is not
  pub head_not_alone : {d : ℕ} → d < M.darts → M.out d ≡ false → d ≢ M.opposite M.root → M.next d ≢ d
  head_not_alone {d} h f n = by_cases (ℕ_discrete (M.vertex d) 1)
      (λ e. not_alone h (B.opposite_below B.root_below) (e ∙ sym B.root_head) (λ q. n (sym q)))
      (λ e. let t = B.has_out (B.vertex_below h) e in not_alone h t.1 (sym t.2) (λ q. clash t.3 (ap M.out q ∙ f)))

  -- if every edge rises, vertex 0 has the least row, and vertex 1 the greatest
  module _ (row : ℕ → ℕ) (rises : Rises M row) where
    row_down : {d : ℕ} → d < M.darts → M.out d ≡ false → row (M.vertex (M.opposite d)) < row (M.vertex d)
    row_down {d} h f =
        subst (λ x. row (M.vertex (M.opposite d)) < row (M.vertex x)) (B.opposite_opposite h)
        (rises (M.opposite d) (B.opposite_below h) (B.opposite_out h ∙ ap not f))

    least_within : (k v : ℕ) → row v < k → v < M.vertices → row 0 ≤ row v
    least_within zero v l h = absurd (omega arith)
    least_within (suc k) v l h = by_cases (ℕ_discrete v 0) (λ e. omega (arith, ap row e)) (λ e.
        let (d, below, at_v, f) = B.has_in h e in
        let lower : row (M.vertex (M.opposite d)) < row v = subst (λ x. row (M.vertex (M.opposite d)) < row x) at_v (row_down below f) in
        omega (arith, least_within k (M.vertex (M.opposite d)) (omega arith) (B.vertex_below (B.opposite_below below))))

    pub row_least : (v : ℕ) → v < M.vertices → row 0 ≤ row v
    row_least v h = least_within (suc (row v)) v (omega arith) h

    top : ℕ
    top = total (λ d. row (M.vertex d)) M.darts

    most_within : (k d : ℕ) → top - row (M.vertex d) < k → d < M.darts → row (M.vertex d) ≤ row 1
    unfolding top
    most_within zero d l h = absurd (omega arith)
    most_within (suc k) d l h = by_cases (ℕ_discrete (M.vertex d) 1) (λ e. omega (arith, ap row e)) (λ e.
        let (x, below, at_v, t) = B.has_out (B.vertex_below h) e in
        let higher : row (M.vertex d) < row (M.vertex (M.opposite x)) = subst (λ v. row v < row (M.vertex (M.opposite x))) at_v (rises x below t) in
        let bound = total_bounds (λ y. row (M.vertex y)) M.darts (M.opposite x) (B.opposite_below below) in
        omega (arith, most_within k (M.opposite x) (omega arith) (B.opposite_below below)))

    pub row_most : (d : ℕ) → d < M.darts → row (M.vertex d) ≤ row 1
    row_most d h = most_within (suc (top - row (M.vertex d))) d (omega arith) h

-- ---- a bipolar map from its parts: all but faces and rows

pub record Parts (M : Map) : Type 0 where
  pub two_darts : M.darts ≡ M.edges + M.edges
  pub opposites : Pairing M.darts M.opposite
  pub opposite_out : {d : ℕ} → d < M.darts → M.out (M.opposite d) ≡ not (M.out d)
  pub rotation : Perm M.darts M.next
  pub rings : Orbits M.darts M.next M.vertex M.vertices
  pub root_below : M.root < M.darts
  pub root_out : M.out M.root ≡ true
  pub root_tail : M.vertex M.root ≡ 0
  pub root_head : M.vertex (M.opposite M.root) ≡ 1
  pub source : {d : ℕ} → d < M.darts → M.vertex d ≡ 0 → M.out d ≡ true
  pub sink : {d : ℕ} → d < M.darts → M.vertex d ≡ 1 → M.out d ≡ false
  pub has_out : {v : ℕ} → v < M.vertices → v ≢ 1 → (d : ℕ) × (d < M.darts) × (M.vertex d ≡ v) × (M.out d ≡ true)
  pub has_in : {v : ℕ} → v < M.vertices → v ≢ 0 → (d : ℕ) × (d < M.darts) × (M.vertex d ≡ v) × (M.out d ≡ false)

pub parts_walk : {M : Map} → Parts M → Perm M.darts (walk M)
parts_walk p = across_perm p.opposites p.rotation

pub bipolar : {M : Map} → Parts M → Walks M → Rises M M.row → Bipolar M
bipolar p w r = record {
  two_darts = p.two_darts;
  opposite_below = λ {d} h. p.opposites.below d h;
  opposite_opposite = λ {d} h. p.opposites.back d h;
  opposite_out = p.opposite_out;
  vertex_below = λ {d} h. p.rings.inside d h;
  rotation = p.rotation;
  next_vertex = λ {d} h. p.rings.step d h;
  ring = λ {d} {e} h k q. p.rings.joins d e h k q;
  walks = w (parts_walk p);
  rises = λ {d} h t. r d h t;
  root_below = p.root_below;
  root_out = p.root_out;
  root_tail = p.root_tail;
  root_head = p.root_head;
  source = p.source;
  sink = p.sink;
  has_out = p.has_out;
  has_in = p.has_in;
}

-- ---- one edge more

-- a dart of the larger map
pub data Dart (N d : ℕ) : Type 0 where
  tail : d ≡ N → Dart N d
  head : d ≡ suc N → Dart N d
  old : d < N → Dart N d

pub dart : {N d : ℕ} → d < suc (suc N) → Dart N d
dart {N} {d} h = by_cases (ℕ_discrete d N) tail (λ e. by_cases (ℕ_discrete d (suc N)) head (λ f. old (omega arith)))

module _ {M M' : Map} (g : Grown M M') where
  pub grown_out : Bipolar M → {d : ℕ} → Dart M.darts d → M'.out (M'.opposite d) ≡ not (M'.out d)
  grown_out B (tail e) = cc (g.paired.at_x, g.head_in, g.tail_out)
  grown_out B (head e) = cc (g.paired.at_y, g.head_in, g.tail_out)
  grown_out B (old l) = cc (g.paired.rest l, g.out_rest l, g.out_rest (B.opposite_below l), B.opposite_out l)

-- ---- one edge fewer

module _ {M M' : Map} (B' : Bipolar M') (g : Grown M M') where
  pub in_larger : {d : ℕ} → d < M.darts → d < M'.darts
  in_larger h = omega (arith, g.darts)

  pub tail_below : M.darts < M'.darts
  tail_below = omega (arith, g.darts)

  pub head_below : suc M.darts < M'.darts
  head_below = omega (arith, g.darts)

  pub larger_opposites : Pairing (suc (suc M.darts)) M'.opposite
  larger_opposites = subst (λ D. Pairing D M'.opposite) g.darts (pairing B')

  pub smaller_opposites : Pairing M.darts M.opposite
  smaller_opposites = unpaired g.paired larger_opposites

  pub larger_rotation : Perm (suc (suc M.darts)) M'.next
  larger_rotation = subst (λ D. Perm D M'.next) g.darts B'.rotation

  pub smaller_out : {d : ℕ} → d < M.darts → M.out (M.opposite d) ≡ not (M.out d)
  smaller_out {d} h = cc (g.paired.rest h, g.out_rest h, g.out_rest (smaller_opposites.below d h), B'.opposite_out (in_larger h))

  -- the last edge joins two vertices
  pub ends_differ : M'.vertex M.darts ≢ M'.vertex (suc M.darts)
  ends_differ e = omega (arith, B'.rises tail_below g.tail_out, ap (λ d. M'.row (M'.vertex d)) g.paired.at_x, ap M'.row e)
