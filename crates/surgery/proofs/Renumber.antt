-- A renumbering of darts and vertices keeps all laws of a map. Assumes nothing.
use Rattle.std.proofs.Common.{◌≡◌, refl, sym, ◌∙◌, ap, subst, ◌≢◌, ℕ, ◌<◌, arith, eq-eqb, ne_eqb}
use Rattle.std.proofs.Math.Logic.{by_cases}
use Rattle.std.proofs.Math.Decide.{ℕ_discrete}
use Rattle.counting.specs.Orbits.{Perm, Bijection, Orbits}
use Rattle.counting.proofs.Orbits.{number_unique, renumbered_perm, renumbered_orbits}
use Rattle.planarmap.specs.Map.{Map, walk, Bipolar}
use Rattle.surgery.specs.Renumber.{Renumbered, renumber, exchange}
use Rattle.surgery.specs.Statements.{RenumberedBipolar, RenumberedFaces, RenumberedPlane, RenumberedRises, RenumberPlane}
use Rattle.surgery.proofs.Edge.{Pairing}
use Rattle.surgery.proofs.Grow.{walk_perm, two_vertices, vertex_orbits, Parts, parts_walk, bipolar}

module _ {M M' : Map} {σ τ ρ π : ℕ → ℕ} (B : Bipolar M) (s : Renumbered M M' σ τ ρ π) where
  -- a dart of M' by its old number
  back : {d : ℕ} → d < M'.darts → τ d < M.darts
  back {d} h = s.dart_names.from_below d (omega (arith, s.darts))

  again : {d : ℕ} → d < M'.darts → σ (τ d) ≡ d
  again {d} h = s.dart_names.to_from d (omega (arith, s.darts))

  forth : {d : ℕ} → d < M.darts → σ d < M'.darts
  forth {d} h = omega (arith, s.darts, s.dart_names.to_below d h)

  out_at : {d : ℕ} → d < M'.darts → M'.out d ≡ M.out (τ d)
  out_at h = cc (s.out (back h), again h)

  vertex_at : {d : ℕ} → d < M'.darts → M'.vertex d ≡ ρ (M.vertex (τ d))
  vertex_at h = cc (s.vertex (back h), again h)

  -- and its vertex by the old number
  vertex_back : {d : ℕ} → d < M'.darts → π (M'.vertex d) ≡ M.vertex (τ d)
  vertex_back {d} h = ap π (vertex_at h) ∙ s.vertex_names.from_to (M.vertex (τ d)) (B.vertex_below (back h))

  opposite_at : {d : ℕ} → d < M'.darts → M'.opposite d ≡ σ (M.opposite (τ d))
  opposite_at h = cc (s.opposite (back h), again h)

  opposite_back : {d : ℕ} → d < M'.darts → τ (M'.opposite d) ≡ M.opposite (τ d)
  opposite_back {d} h = ap τ (opposite_at h) ∙ s.dart_names.from_to (M.opposite (τ d)) (B.opposite_below (back h))

  opposites : Pairing M'.darts M'.opposite
  opposites = record {
    below = λ d h. subst (λ x. x < M'.darts) (sym (opposite_at h)) (forth (B.opposite_below (back h)));
    back = λ d h. cc (opposite_at h, s.opposite (B.opposite_below (back h)), B.opposite_opposite (back h), again h);
  }

  rotation : Perm M.darts M'.next
  rotation = renumbered_perm B.rotation M'.next s.dart_names (λ d h. s.next h)

  here : {d : ℕ} → d < M.darts → d < M'.darts
  here {d} = subst (λ x. d < x) (sym s.darts)

  -- the rings carry over
  rings : Orbits M.darts M'.next M'.vertex M.vertices
  rings =
      let o = renumbered_orbits B.rotation M'.next s.dart_names (λ d h. s.next h) (vertex_orbits B) in
      record {
        inside = λ d h. subst (λ x. x < M.vertices) (sym (vertex_at (here h))) (s.vertex_names.to_below (M.vertex (τ d)) (o.inside d h));
        step = λ d h. vertex_at (here (rotation.below d h)) ∙ ap ρ (o.step d h) ∙ sym (vertex_at (here h));
        joins = λ d e h k q. o.joins d e h k (sym (vertex_back (here h)) ∙ ap π q ∙ vertex_back (here k));
        used = λ v h. let (d, l, e) = o.used (π v) (s.vertex_names.from_below v h) in
            (d, l, vertex_at (here l) ∙ ap ρ e ∙ s.vertex_names.to_from v h);
      }

  -- vertices 0 and 1 are the old 0 and 1
  source_back : π 0 ≡ 0
  source_back = ap π (sym s.source) ∙ s.vertex_names.from_to 0 (omega (arith, two_vertices B))

  sink_back : π 1 ≡ 1
  sink_back = ap π (sym s.sink) ∙ s.vertex_names.from_to 1 (two_vertices B)

  vertex_old : {v : ℕ} → v < M'.vertices → (π v < M.vertices) × (ρ (π v) ≡ v)
  vertex_old {v} h = let l : v < M.vertices = omega (arith, s.vertices) in (s.vertex_names.from_below v l, s.vertex_names.to_from v l)

  renumbered_parts : Parts M'
  renumbered_parts = record {
    two_darts = omega (arith, s.darts, s.edges, B.two_darts);
    opposites = opposites;
    opposite_out = λ {d} h. cc (out_at (opposites.below d h), opposite_back h, B.opposite_out (back h), out_at h);
    rotation = rw s.darts rotation;
    rings = rw (s.darts, s.vertices) rings;
    root_below = subst (λ x. x < M'.darts) (sym s.root) (forth B.root_below);
    root_out = cc (s.root, s.out B.root_below, B.root_out);
    root_tail = cc (s.root, s.vertex B.root_below, B.root_tail, s.source);
    root_head = cc (s.root, s.opposite B.root_below, s.vertex (B.opposite_below B.root_below), B.root_head, s.sink);
    source = λ h q. out_at h ∙ B.source (back h) (sym (vertex_back h) ∙ ap π q ∙ source_back);
    sink = λ h q. out_at h ∙ B.sink (back h) (sym (vertex_back h) ∙ ap π q ∙ sink_back);
    has_out = λ h n. let (l, e) = vertex_old h in
        let (d, k, at_v, t) = B.has_out l (λ q. n (sym e ∙ ap ρ q ∙ s.sink)) in (σ d, forth k, s.vertex k ∙ ap ρ at_v ∙ e, s.out k ∙ t);
    has_in = λ h n. let (l, e) = vertex_old h in
        let (d, k, at_v, t) = B.has_in l (λ q. n (sym e ∙ ap ρ q ∙ s.source)) in (σ d, forth k, s.vertex k ∙ ap ρ at_v ∙ e, s.out k ∙ t);
  }

  -- and so does the walk
  carried_walk : {d : ℕ} → d < M.darts → walk M' (σ d) ≡ σ (walk M d)
  carried_walk h = ap M'.next (s.opposite h) ∙ s.next (B.opposite_below h)

pub renumbered_bipolar : {M M' : Map} {σ τ ρ π : ℕ → ℕ} → RenumberedBipolar M M' σ τ ρ π
renumbered_bipolar B s w r = bipolar (renumbered_parts B s) w r

pub renumbered_faces : {M M' : Map} {σ τ ρ π : ℕ → ℕ} → RenumberedFaces M M' σ τ ρ π
renumbered_faces {M} {M'} {σ} B s w =
    let P = parts_walk (renumbered_parts B s) in
    number_unique (rw s.darts at P) (rw s.darts at (w P))
    (renumbered_orbits (walk_perm B) (walk M') s.dart_names (λ d h. carried_walk B s h) B.walks)

pub renumbered_plane : {M M' : Map} {σ τ ρ π : ℕ → ℕ} → RenumberedPlane M M' σ τ ρ π
renumbered_plane P s w r = record {
  bipolar = renumbered_bipolar P.bipolar s w r;
  euler = omega (arith, P.euler, s.vertices, s.edges, renumbered_faces P.bipolar s w);
}

pub renumbered_rises : {M M' : Map} {σ τ ρ π : ℕ → ℕ} → RenumberedRises M M' σ τ ρ π
renumbered_rises {M} {τ = τ} B s row r d h t =
    let high : _ ≡ M.vertex (M.opposite (τ d)) = vertex_back B s ((opposites B s).below d h) ∙ ap M.vertex (opposite_back B s h) in
    omega (arith, r (τ d) (back B s h) (sym (out_at B s h) ∙ t), ap row (vertex_back B s h), ap row high)

pub renumber_plane : {M : Map} {σ τ ρ π : ℕ → ℕ} → RenumberPlane M σ τ ρ π
renumber_plane {M} {σ} {τ} {ρ} {π} P darts vertices source sink = renumbered_plane P s (λ _. walks) (renumbered_rises B s M.row (λ d h t. B.rises h t))
  where
    B : Bipolar M
    B = P.bipolar

    s : Renumbered M (renumber M σ τ ρ π) σ τ ρ π
    s = record {
      darts = refl;
      edges = refl;
      vertices = refl;
      dart_names = darts;
      vertex_names = vertices;
      source = source;
      sink = sink;
      root = refl;
      opposite = λ {d} h. ap (λ x. σ (M.opposite x)) (darts.from_to d h);
      next = λ {d} h. ap (λ x. σ (M.next x)) (darts.from_to d h);
      out = λ {d} h. ap M.out (darts.from_to d h);
      vertex = λ {d} h. ap (λ x. ρ (M.vertex x)) (darts.from_to d h);
    }

    walks : Orbits M.darts (walk (renumber M σ τ ρ π)) (λ d. M.face (τ d)) M.faces
    walks = renumbered_orbits (walk_perm B) (walk (renumber M σ τ ρ π)) darts (λ d h. carried_walk B s h) B.walks

-- ---- two numbers change places

module _ (i j : ℕ) where
  pub exchange_first : exchange i j i ≡ j
  unfolding exchange
  exchange_first = rw (eq-eqb i i refl)

  pub exchange_other : {d : ℕ} → d ≢ i → d ≢ j → exchange i j d ≡ d
  unfolding exchange
  exchange_other n m = rw (ne_eqb _ _ n, ne_eqb _ _ m)

  pub exchange_second : exchange i j j ≡ i
  unfolding exchange
  exchange_second = by_cases (ℕ_discrete j i) (λ e. ap (exchange i j) e ∙ exchange_first ∙ e) (λ e. rw (ne_eqb j i e, eq-eqb j j refl))

  -- so it is its own inverse
  exchange_back : (d : ℕ) → exchange i j (exchange i j d) ≡ d
  exchange_back d = by_cases (ℕ_discrete d i) (λ e. cc (exchange_first, exchange_second)) (λ e.
      by_cases (ℕ_discrete d j) (λ f. cc (exchange_first, exchange_second)) (λ f. ap (exchange i j) (exchange_other e f) ∙ exchange_other e f))

  pub exchange_bijection : {N : ℕ} → i < N → j < N → Bijection N (exchange i j) (exchange i j)
  exchange_bijection {N} h k = record { to_below = below; from_below = below; from_to = λ d l. exchange_back d; to_from = λ d l. exchange_back d }
    where
      below : (d : ℕ) → d < N → exchange i j d < N
      below d l = by_cases (ℕ_discrete d i) (λ e. omega (arith, ap (exchange i j) e, exchange_first)) (λ e.
          by_cases (ℕ_discrete d j) (λ f. omega (arith, ap (exchange i j) f, exchange_second)) (λ f. omega (arith, exchange_other e f)))

-- one renumbering after another
pub bijection_after : {N : ℕ} {σ τ σ' τ' : ℕ → ℕ} → Bijection N σ τ → Bijection N σ' τ' → Bijection N (λ d. σ' (σ d)) (λ d. τ (τ' d))
bijection_after {σ = σ} {τ} {σ'} {τ'} a b = record {
  to_below = λ d h. b.to_below (σ d) (a.to_below d h);
  from_below = λ d h. a.from_below (τ' d) (b.from_below d h);
  from_to = λ d h. ap τ (b.from_to (σ d) (a.to_below d h)) ∙ a.from_to d h;
  to_from = λ d h. ap σ' (a.to_from (τ' d) (b.from_below d h)) ∙ b.to_from d h;
}
