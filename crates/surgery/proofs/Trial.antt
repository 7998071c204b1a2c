-- A trial: the edits and a renumbering of small maps, with every hypothesis met; the numbers of faces are computed. Assumes nothing.
use Rattle.std.proofs.Common.{◌≡◌, refl, sym, ◌≢◌, Bool, true, false, not, true≢false, List, [], ◌∷◌, ℕ, suc, ◌<◌, arith, get_or}
use Rattle.std.proofs.Math.Decide.{ℕ_discrete}
use Rattle.counting.specs.Counts.{count}
use Rattle.counting.specs.Orbits.{Perm}
use Rattle.counting.proofs.Lowest.{orbit_count, low, orbits_by_count}
use Rattle.planarmap.specs.Map.{Map, Plane}
use Rattle.surgery.specs.Edits.{Grown, Added, Subdivided, Deleted, Smoothed}
use Rattle.surgery.specs.Renumber.{renumber, exchange}
use Rattle.surgery.specs.Statements.{Walks, Rises}
use Rattle.surgery.proofs.Edge.{Pairing, opposite_one_one}
use Rattle.surgery.proofs.Grow.{Parts, bipolar}
use Rattle.surgery.proofs.Add.{added_plane}
use Rattle.surgery.proofs.Subdivide.{subdivided_plane}
use Rattle.surgery.proofs.Delete.{deleted_plane}
use Rattle.surgery.proofs.Smooth.{smoothed_plane}
use Rattle.surgery.proofs.Renumber.{renumber_plane, exchange_bijection, bijection_after}

-- a law of each number below n
infixl 5 ◌▹◌
data Each (P : ℕ → Type 0) : ℕ → Type 0 where
  none : Each P 0
  ◌▹◌ : {n : ℕ} → Each P n → P n → Each P (suc n)

each : {P : ℕ → Type 0} {n : ℕ} → Each P n → (d : ℕ) → d < n → P d
each none d h = absurd (omega arith)
each (◌▹◌ {n} r p) d h = elim (ℕ_discrete d n) [ yes e ↦ rw e p | no e ↦ each r d (omega arith) ]

law : (P : ℕ → Type 0) {n : ℕ} → Each P n → {d : ℕ} → d < n → P d
law P a {d} h = each a d h

abbrev at : List ℕ → ℕ → ℕ
at l d = get_or l d 0

abbrev tail_at : List Bool → ℕ → Bool
tail_at l d = get_or l d false

-- two edges from vertex 0 to vertex 1
abbrev fresh : Map
fresh = record {
  darts = 4;
  vertices = 2;
  edges = 2;
  faces = 2;
  root = 0;
  opposite = at (1 ∷ 0 ∷ 3 ∷ 2 ∷ []);
  next = at (2 ∷ 3 ∷ 0 ∷ 1 ∷ []);
  out = tail_at (true ∷ false ∷ true ∷ false ∷ []);
  vertex = at (0 ∷ 1 ∷ 0 ∷ 1 ∷ []);
  face = at (0 ∷ 1 ∷ 1 ∷ 0 ∷ []);
  row = at (0 ∷ 1 ∷ []);
}

fresh_walks : Walks fresh
unfolding orbit_count count low
fresh_walks P = orbits_by_count P 2 refl fresh.face
    (each (none ▹ omega arith ▹ omega arith ▹ omega arith ▹ omega arith))
    (each (none ▹ refl ▹ refl ▹ refl ▹ refl))
    (each (none ▹ (0, omega arith, refl) ▹ (1, omega arith, refl)))

-- it is a plane map
fresh_next : Pairing 4 fresh.next
fresh_next = record {
  below = each (none ▹ omega arith ▹ omega arith ▹ omega arith ▹ omega arith);
  back = each (none ▹ refl ▹ refl ▹ refl ▹ refl);
}

fresh_rotation : Perm 4 fresh.next
fresh_rotation = record { below = fresh_next.below; one_one = opposite_one_one fresh_next }

fresh_parts : Parts fresh
unfolding orbit_count count low
fresh_parts = record {
  two_darts = refl;
  opposites = record {
    below = each (none ▹ omega arith ▹ omega arith ▹ omega arith ▹ omega arith);
    back = each (none ▹ refl ▹ refl ▹ refl ▹ refl);
  };
  opposite_out = law (λ d. fresh.out (fresh.opposite d) ≡ not (fresh.out d)) (none ▹ refl ▹ refl ▹ refl ▹ refl);
  rotation = fresh_rotation;
  rings = orbits_by_count fresh_rotation 2 refl fresh.vertex
      (each (none ▹ omega arith ▹ omega arith ▹ omega arith ▹ omega arith))
      (each (none ▹ refl ▹ refl ▹ refl ▹ refl))
      (each (none ▹ (0, omega arith, refl) ▹ (1, omega arith, refl)));
  root_below = omega arith;
  root_out = refl;
  root_tail = refl;
  root_head = refl;
  source = λ {d} h. source d h;
  sink = λ {d} h. sink d h;
  has_out = λ {v} h. has_out v h;
  has_in = λ {v} h. has_in v h;
}
  where
    source : (d : ℕ) → d < 4 → fresh.vertex d ≡ 0 → fresh.out d ≡ true
    source = each (none ▹ (λ e. refl) ▹ (λ e. absurd (omega arith)) ▹ (λ e. refl) ▹ (λ e. absurd (omega arith)))

    sink : (d : ℕ) → d < 4 → fresh.vertex d ≡ 1 → fresh.out d ≡ false
    sink = each (none ▹ (λ e. absurd (omega arith)) ▹ (λ e. refl) ▹ (λ e. absurd (omega arith)) ▹ (λ e. refl))

    has_out : (v : ℕ) → v < 2 → v ≢ 1 → (d : ℕ) × (d < 4) × (fresh.vertex d ≡ v) × (fresh.out d ≡ true)
    has_out = each (none ▹ (λ n. (0, omega arith, refl, refl)) ▹ (λ n. absurd (n refl)))

    has_in : (v : ℕ) → v < 2 → v ≢ 0 → (d : ℕ) × (d < 4) × (fresh.vertex d ≡ v) × (fresh.out d ≡ false)
    has_in = each (none ▹ (λ n. absurd (n refl)) ▹ (λ n. (1, omega arith, refl, refl)))

never : {A : Type 0} → false ≡ true → A
never e = absurd (true≢false (sym e))

fresh_rises : Rises fresh fresh.row
fresh_rises = each (none ▹ (λ t. omega arith) ▹ never ▹ (λ t. omega arith) ▹ never)

fresh_plane : Plane fresh
fresh_plane = record { bipolar = bipolar fresh_parts fresh_walks fresh_rises; euler = refl }

-- ---- put in: a vertex in edge 1

abbrev longer : Map
longer = record {
  darts = 6;
  vertices = 3;
  edges = 3;
  faces = 2;
  root = 0;
  opposite = at (1 ∷ 0 ∷ 3 ∷ 2 ∷ 5 ∷ 4 ∷ []);
  next = at (2 ∷ 5 ∷ 0 ∷ 4 ∷ 3 ∷ 1 ∷ []);
  out = tail_at (true ∷ false ∷ true ∷ false ∷ true ∷ false ∷ []);
  vertex = at (0 ∷ 1 ∷ 0 ∷ 2 ∷ 2 ∷ 1 ∷ []);
  face = at (0 ∷ 1 ∷ 1 ∷ 0 ∷ 1 ∷ 0 ∷ []);
  row = at (0 ∷ 2 ∷ 1 ∷ []);
}

longer_walks : Walks longer
unfolding orbit_count count low
longer_walks P = orbits_by_count P 2 refl longer.face
    (each (none ▹ omega arith ▹ omega arith ▹ omega arith ▹ omega arith ▹ omega arith ▹ omega arith))
    (each (none ▹ refl ▹ refl ▹ refl ▹ refl ▹ refl ▹ refl))
    (each (none ▹ (0, omega arith, refl) ▹ (1, omega arith, refl)))

longer_rises : Rises longer longer.row
longer_rises = each (none ▹ (λ t. omega arith) ▹ never ▹ (λ t. omega arith) ▹ never ▹ (λ t. omega arith) ▹ never)

fresh_longer : Grown fresh longer
fresh_longer = record {
  darts = refl;
  edges = refl;
  root = refl;
  paired = record { at_x = refl; at_y = refl; rest = law (λ d. longer.opposite d ≡ fresh.opposite d) (none ▹ refl ▹ refl ▹ refl ▹ refl) };
  tail_out = refl;
  head_in = refl;
  out_rest = law (λ d. longer.out d ≡ fresh.out d) (none ▹ refl ▹ refl ▹ refl ▹ refl);
}

subdivided : Subdivided fresh longer 3
subdivided = record {
  grown = fresh_longer;
  vertices = refl;
  b_below = omega arith;
  b_head = refl;
  b_other = omega arith;
  next_b = refl;
  next_tail = refl;
  next_head = refl;
  next_before = λ {d} h. next_before d h;
  next_rest = λ {d} h. next_rest d h;
  vertex_b = refl;
  vertex_tail = refl;
  vertex_head = refl;
  vertex_rest = λ {d} h. vertex_rest d h;
}
  where
    next_before : (d : ℕ) → d < 4 → d ≢ 3 → fresh.next d ≡ 3 → longer.next d ≡ 5
    next_before = each (none ▹ (λ n e. omega arith) ▹ (λ n e. refl) ▹ (λ n e. omega arith) ▹ (λ n e. omega arith))

    next_rest : (d : ℕ) → d < 4 → d ≢ 3 → fresh.next d ≢ 3 → longer.next d ≡ fresh.next d
    next_rest = each (none ▹ (λ n m. refl) ▹ (λ n m. absurd (m refl)) ▹ (λ n m. refl) ▹ (λ n m. absurd (n refl)))

    vertex_rest : (d : ℕ) → d < 4 → d ≢ 3 → longer.vertex d ≡ fresh.vertex d
    vertex_rest = each (none ▹ (λ n. refl) ▹ (λ n. refl) ▹ (λ n. refl) ▹ (λ n. absurd (n refl)))

longer_plane : Plane longer
longer_plane = subdivided_plane fresh_plane subdivided longer_walks longer_rises

-- and out again
smoothed : Smoothed fresh longer 3
smoothed = record {
  grown = fresh_longer;
  vertices = refl;
  b_below = omega arith;
  b_head = refl;
  ring_b = refl;
  ring_tail = refl;
  vertex_tail = refl;
  next_b = refl;
  next_before = λ {d} h. next_before d h;
  next_rest = λ {d} h. next_rest d h;
  vertex_b = refl;
  vertex_rest = λ {d} h n. sym (subdivided.vertex_rest h n);
}
  where
    next_before : (d : ℕ) → d < 4 → d ≢ 3 → longer.next d ≡ 5 → fresh.next d ≡ 3
    next_before = each (none ▹ (λ n e. omega arith) ▹ (λ n e. refl) ▹ (λ n e. omega arith) ▹ (λ n e. omega arith))

    next_rest : (d : ℕ) → d < 4 → d ≢ 3 → longer.next d ≢ 5 → fresh.next d ≡ longer.next d
    next_rest = each (none ▹ (λ n m. refl) ▹ (λ n m. absurd (m refl)) ▹ (λ n m. refl) ▹ (λ n m. absurd (n refl)))

back_to_fresh : Plane fresh
back_to_fresh = smoothed_plane longer_plane smoothed fresh_walks fresh_rises

-- ---- run: an edge from vertex 0, after dart 2, to the new vertex, after dart 4

abbrev crossed : Map
crossed = record {
  darts = 8;
  vertices = 3;
  edges = 4;
  faces = 3;
  root = 0;
  opposite = at (1 ∷ 0 ∷ 3 ∷ 2 ∷ 5 ∷ 4 ∷ 7 ∷ 6 ∷ []);
  next = at (2 ∷ 5 ∷ 6 ∷ 4 ∷ 7 ∷ 1 ∷ 0 ∷ 3 ∷ []);
  out = tail_at (true ∷ false ∷ true ∷ false ∷ true ∷ false ∷ true ∷ false ∷ []);
  vertex = at (0 ∷ 1 ∷ 0 ∷ 2 ∷ 2 ∷ 1 ∷ 0 ∷ 2 ∷ []);
  face = at (0 ∷ 1 ∷ 1 ∷ 2 ∷ 1 ∷ 0 ∷ 2 ∷ 0 ∷ []);
  row = at (0 ∷ 2 ∷ 1 ∷ []);
}

crossed_walks : Walks crossed
unfolding orbit_count count low
crossed_walks P = orbits_by_count P 3 refl crossed.face
    (each (none ▹ omega arith ▹ omega arith ▹ omega arith ▹ omega arith ▹ omega arith ▹ omega arith ▹ omega arith ▹ omega arith))
    (each (none ▹ refl ▹ refl ▹ refl ▹ refl ▹ refl ▹ refl ▹ refl ▹ refl))
    (each (none ▹ (0, omega arith, refl) ▹ (1, omega arith, refl) ▹ (3, omega arith, refl)))

crossed_rises : Rises crossed crossed.row
crossed_rises = each (none ▹ (λ t. omega arith) ▹ never ▹ (λ t. omega arith) ▹ never ▹ (λ t. omega arith) ▹ never ▹ (λ t. omega arith) ▹ never)

longer_crossed : Grown longer crossed
longer_crossed = record {
  darts = refl;
  edges = refl;
  root = refl;
  paired = record { at_x = refl; at_y = refl; rest = law (λ d. crossed.opposite d ≡ longer.opposite d) (none ▹ refl ▹ refl ▹ refl ▹ refl ▹ refl ▹ refl) };
  tail_out = refl;
  head_in = refl;
  out_rest = law (λ d. crossed.out d ≡ longer.out d) (none ▹ refl ▹ refl ▹ refl ▹ refl ▹ refl ▹ refl);
}

vertex_kept : (d : ℕ) → d < 6 → crossed.vertex d ≡ longer.vertex d
vertex_kept = each (none ▹ refl ▹ refl ▹ refl ▹ refl ▹ refl ▹ refl)

added : Added longer crossed 2 4
added = record {
  grown = longer_crossed;
  vertices = refl;
  next = record {
    p_below = omega arith;
    q_below = omega arith;
    two = omega arith;
    at_p = refl;
    at_x = refl;
    at_q = refl;
    at_y = refl;
    rest = λ {d} h. rest d h;
  };
  vertex_tail = refl;
  vertex_head = refl;
  vertex_rest = λ {d} h. vertex_kept d h;
}
  where
    rest : (d : ℕ) → d < 6 → d ≢ 2 → d ≢ 4 → crossed.next d ≡ longer.next d
    rest = each (none ▹ (λ m n. refl) ▹ (λ m n. refl) ▹ (λ m n. absurd (m refl)) ▹ (λ m n. refl) ▹ (λ m n. absurd (n refl)) ▹ (λ m n. refl))

crossed_plane : Plane crossed
crossed_plane = added_plane longer_plane added crossed_walks crossed_rises refl

-- and out again
deleted : Deleted longer crossed
deleted = record {
  grown = longer_crossed;
  vertices = refl;
  root_below = omega arith;
  next = record { over_x = λ {d} h. over_x d h; over_y = λ {d} h. over_y d h; rest = λ {d} h. rest d h };
  vertex = λ {d} h. sym (vertex_kept d h);
  other_out = (0, omega arith, refl, refl);
  other_in = (3, omega arith, refl, refl);
}
  where
    over_x : (d : ℕ) → d < 6 → crossed.next d ≡ 6 → longer.next d ≡ 0
    over_x = each (none ▹ (λ e. omega arith) ▹ (λ e. omega arith) ▹ (λ e. refl) ▹ (λ e. omega arith) ▹ (λ e. omega arith) ▹ (λ e. omega arith))

    over_y : (d : ℕ) → d < 6 → crossed.next d ≡ 7 → longer.next d ≡ 3
    over_y = each (none ▹ (λ e. omega arith) ▹ (λ e. omega arith) ▹ (λ e. omega arith) ▹ (λ e. omega arith) ▹ (λ e. refl) ▹ (λ e. omega arith))

    rest : (d : ℕ) → d < 6 → crossed.next d < 6 → longer.next d ≡ crossed.next d
    rest = each (none ▹ (λ l. refl) ▹ (λ l. refl) ▹ (λ l. omega arith) ▹ (λ l. refl) ▹ (λ l. omega arith) ▹ (λ l. refl))

back_to_longer : Plane longer
back_to_longer = deleted_plane crossed_plane deleted longer_walks longer_rises

-- ---- edges 1 and 2 of `longer` change their numbers

abbrev σ : ℕ → ℕ
σ d = exchange 3 5 (exchange 2 4 d)

abbrev τ : ℕ → ℕ
τ d = exchange 2 4 (exchange 3 5 d)

abbrev turned : Map
turned = renumber longer σ τ (λ v. v) (λ v. v)

turned_plane : Plane turned
turned_plane = renumber_plane longer_plane
    (bijection_after (exchange_bijection 2 4 (omega arith) (omega arith)) (exchange_bijection 3 5 (omega arith) (omega arith)))
    (record { to_below = λ v h. h; from_below = λ v h. h; from_to = λ v h. refl; to_from = λ v h. refl }) refl refl

turned_next : (d : ℕ) → d < 6 → turned.next d ≡ at (4 ∷ 3 ∷ 5 ∷ 1 ∷ 0 ∷ 2 ∷ []) d
unfolding exchange
turned_next = each (none ▹ refl ▹ refl ▹ refl ▹ refl ▹ refl ▹ refl)
