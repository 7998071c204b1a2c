-- Each ear keeps the order of an st-numbering; and while some vertex is free, there is an ear, if a bipolar choice of directions exists. Assumes nothing.
use Rattle.std.proofs.Common.{◌≡◌, ℕ, zero, suc, ◌-◌, ◌<◌, ◌≤◌, Bool, true, false, ltb, ◌≢◌, List, sym, refl, ◌∙◌, inr, arith, ltb-false, ltb-true, lt-ltb, ne_eqb}
use Rattle.std.proofs.Math.Bool.{and-eq-true_iff}
use Rattle.std.proofs.Math.Decide.{ℕ_discrete}
use Rattle.std.proofs.Math.ListN.{length-replicate}
use Rattle.std.proofs.Math.Logic.{by_cases}
use Rattle.std.proofs.lemmas.Bool.{eqb-false, not-true, not_from_false, and_from}
use Rattle.counting.specs.Choice.{pick}
use Rattle.counting.specs.Counts.{count}
use Rattle.counting.proofs.Below.{lowest_found}
use Rattle.counting.proofs.Counts.{count_without, count_onto, count_le, count_less}
use Rattle.counting.proofs.Paths.{carry}
use Rattle.counting.proofs.Stores.{replicate_at}
use Rattle.orientation.specs.Ears.{Graph, is_placed, first_order, entry, exit, parents_from, put_ear, with_ear, with_ears, enters, exits}
use Rattle.orientation.proofs.Tests.{lowest_passes, placed_at, placed_passes, free_at, free_passes, reached_at, reached_passes}
use Rattle.orientation.proofs.Places.{GraphLaws, Adjacent, adjacent_sym, at, Less, Neighbour, Ordered, AllSided, StOrder, is_free, fewer, not_more}
use Rattle.orientation.proofs.PutAlong.{Tree, Extended, put_along_extends}
use Rattle.orientation.proofs.Searching.{swept, parents_tree, swept_reaches, exit_found}
use Rattle.orientation.proofs.Climbing.{Way, ways_apart, BipolarSteps, crosses, way_up, way_down}

-- the side of w that u is on
side_of : (u w : ℕ) → u ≢ w → Less (ltb u w) u w
side_of u w n = go (ltb u w) refl
  where
    go : (b : Bool) → ltb u w ≡ b → Less b u w
    go true e = ltb-true u w e
    go false e = omega (arith, ltb-false u w e)

-- the vertex from which the ear is searched, the tree of parents, and the dart by which the ear ends
abbrev root_of : Graph → List ℕ → ℕ
root_of G order = G.from (entry G order)

abbrev tree_of : Graph → List ℕ → List ℕ
tree_of G order = parents_from G order (entry G order)

abbrev exit_of : Graph → List ℕ → ℕ
exit_of G order = exit G order (root_of G order) (tree_of G order)

module _ {vertices : ℕ} (G : Graph) (L : GraphLaws vertices G) (order : List ℕ) where
  -- ---- the first dart of an ear, and its last

  -- it leads from a placed vertex to a free one
  entry_is : entry G order < G.darts → (1 ≤ at order (G.from (entry G order))) × (at order (G.to (entry G order)) ≡ 0)
  unfolding entry enters
  entry_is h =
      let (p, q) = (and-eq-true_iff _ _).0 (lowest_passes (λ d. enters order (G.from d) (G.to d)) G.darts h) in
      (placed_at order _ p, free_at order _ q)

  -- and is there, where some dart does
  entry_below : (d : ℕ) → d < G.darts → 1 ≤ at order (G.from d) → at order (G.to d) ≡ 0 → entry G order < G.darts
  unfolding entry enters
  entry_below d h p q =
      (lowest_found (λ d. enters order (G.from d) (G.to d)) G.darts d h
      (and_from _ _ (placed_passes order (G.from d) p) (free_passes order (G.to d) q))).0

  module _ (u : ℕ) (parents : List ℕ) where
    -- it leads from a reached vertex to a placed one other than u
    exit_is : exit G order u parents < G.darts
        → (at parents (G.from (exit G order u parents)) ≢ G.from (exit G order u parents)) × (1 ≤ at order (G.to (exit G order u parents))) × (G.to (exit G order u parents) ≢ u)
    unfolding exit exits
    exit_is h =
        let (p, q) = (and-eq-true_iff _ _).0 (lowest_passes (λ d. exits order parents u (G.from d) (G.to d)) G.darts h) in
        let (r, s) = (and-eq-true_iff _ _).0 p in
        (reached_at parents _ r, placed_at order _ s, eqb-false _ u (not-true _ q))

    -- and is there, where some dart does
    exit_below : (d : ℕ) → d < G.darts → at parents (G.from d) ≢ G.from d → 1 ≤ at order (G.to d) → G.to d ≢ u → exit G order u parents < G.darts
    unfolding exit exits
    exit_below d h p q r =
        (lowest_found (λ d. exits order parents u (G.from d) (G.to d)) G.darts d h
        (and_from _ _ (and_from _ _ (reached_passes parents (G.from d) p) (placed_passes order (G.to d) q)) (not_from_false _ (ne_eqb (G.to d) u r)))).0

  -- ---- an ear

  module _ (K : StOrder G order) where
    -- vertex 0 is placed
    not_all_free : count (is_free order) vertices < vertices
    not_all_free =
        count_less (is_free order) vertices 0 (omega (arith, L.two))
        (let e : is_placed order 0 ≡ true = placed_passes order 0 (omega (arith, K.is_ordered.first)) in rw e refl)

    -- an ear that ends by dart o
    put_ear_extends : (u : ℕ) (parents : List ℕ) → Tree vertices G order u parents → 1 ≤ at order u → (o : ℕ) → o < G.darts → at parents (G.from o) ≢ G.from o
        → 1 ≤ at order (G.to o) → G.to o ≢ u → Extended G order (put_ear G order u parents o) × (1 ≤ at (put_ear G order u parents o) (G.from o))
    unfolding put_ear
    put_ear_extends u parents T placed_u o o_in on p n =
        put_along_extends G L order parents u T placed_u (ltb (at order u) (at order (G.to o))) 128 order (G.from o) (G.to o)
        (record {
          is_ordered = K.is_ordered;
          kept = λ v h. h;
          inside = L.from_in o o_in;
          on_tree = inr on;
          link = L.back o o_in;
          z_placed = p;
          beyond = side_of (at order u) (at order (G.to o)) (λ e. n (sym (K.is_ordered.distinct u (G.to o) placed_u e)));
          sided = λ t v h m _. K.sided t v h m;
          fresh = λ v h b. absurd (omega arith);
        }) (omega (arith, not_all_free, L.few))

    unchanged : Extended G order order
    unchanged = record { st_order = K; kept = λ v h. h }

    -- the ear, where there is one, places a vertex
    ear_here : entry G order < G.darts → exit_of G order < G.darts
        → Extended G order (put_ear G order (root_of G order) (tree_of G order) (exit_of G order))
        × (count (is_free (put_ear G order (root_of G order) (tree_of G order) (exit_of G order))) vertices < count (is_free order) vertices)
    ear_here h k =
        let (p, q) = entry_is h in
        let T = parents_tree G L order (entry G order) h p q in
        let (a, b, c) = exit_is (root_of G order) (tree_of G order) k in
        let (D, y) = put_ear_extends (root_of G order) (tree_of G order) T p _ k a b c in
        (D, fewer vertices _ order _ (L.from_in _ k) (T.branch _ (L.from_in _ k) a).free y D.kept)

    -- with or without one, the order is extended
    pub with_ear_extends : Extended G order (with_ear G order)
    unfolding with_ear
    with_ear_extends = go (ltb (entry G order) G.darts) refl
      where
        inner : (b : Bool) → entry G order < G.darts → ltb (exit_of G order) G.darts ≡ b
            → Extended G order (pick b (λ _. put_ear G order (root_of G order) (tree_of G order) (exit_of G order)) (λ _. order))
        inner true h f = (ear_here h (ltb-true _ _ f)).0
        inner false h f = unchanged

        go : (b : Bool) → ltb (entry G order) G.darts ≡ b
            → Extended G order (pick b (λ _. pick (ltb (exit_of G order) G.darts)
            (λ _. put_ear G order (root_of G order) (tree_of G order) (exit_of G order)) (λ _. order)) (λ _. order))
        go true e = inner (ltb (exit_of G order) G.darts) (ltb-true _ _ e) refl
        go false e = unchanged

    with_ear_fewer : entry G order < G.darts → exit_of G order < G.darts
        → count (is_free (with_ear G order)) vertices < count (is_free order) vertices
    unfolding with_ear
    with_ear_fewer h k = rw (lt-ltb _ _ h, lt-ltb _ _ k) (ear_here h k).1

  -- ---- while some vertex is free, there is an ear

  module _ {S : ℕ → ℕ → Type 0} (C : BipolarSteps vertices G S) (K : StOrder G order) (x : ℕ) (x_in : x < vertices) (x_free : at order x ≡ 0) where
    first_placed : 1 ≤ at order 0
    first_placed = omega (arith, K.is_ordered.first)

    last_placed : 1 ≤ at order 1
    last_placed = omega (arith, K.is_ordered.second)

    -- an ear begins
    begins : entry G order < G.darts
    begins =
        let X = crosses L C order first_placed last_placed x x_in x_free in
        let j = C.adjacent X.inner X.outer X.step in
        entry_below j.dart j.dart_in (rw j.at_from X.placed) (rw j.at_to X.free)

    -- and ends, where a way leads to another vertex than its first
    exits_by : {R : ℕ → ℕ → Type 0} → ((u v : ℕ) → R u v → Adjacent G u v) → (W : Way R order vertices (G.to (entry G order))) → W.goal ≢ root_of G order
        → exit_of G order < G.darts
    exits_by joins W n =
        let (p, q) = entry_is begins in
        let j = joins W.last W.goal W.step in
        let there = swept_reaches G L order (entry G order) begins p q (carry (λ u v s. record { step = joins u v s.step; free = s.free }) W.path) (omega (arith, W.few, L.counted)) in
        exit_found G L order (entry G order) begins p q
        (exit_below (root_of G order) (swept G order (entry G order)) j.dart j.dart_in (rw j.at_from there) (rw j.at_to W.placed) (rw j.at_to n))

    -- the way up or the way down does
    ends : exit_of G order < G.darts
    ends =
        let (p, q) = entry_is begins in
        let inside = L.to_in (entry G order) begins in
        let up = way_up L C order first_placed last_placed (G.to (entry G order)) inside q in
        let down = way_down L C order first_placed last_placed (G.to (entry G order)) inside q in
        by_cases (ℕ_discrete up.goal (root_of G order))
        (λ e. exits_by (λ u v s. adjacent_sym L (C.adjacent v u s)) down (λ f. ways_apart C.acyclic up down (e ∙ sym f)))
        (λ n. exits_by C.adjacent up n)

    -- so a vertex is placed
    pub with_ear_found : count (is_free (with_ear G order)) vertices < count (is_free order) vertices
    with_ear_found = with_ear_fewer K begins ends

-- ---- the first order

-- the place of v in it
data FirstPlace (v : ℕ) : Type 0 where
  first : v ≡ 0 → at first_order v ≡ 1 → FirstPlace v
  second : v ≡ 1 → at first_order v ≡ 2 → FirstPlace v
  rest : at first_order v ≡ 0 → FirstPlace v

first_view : (v : ℕ) → FirstPlace v
unfolding first_order
first_view zero = first refl refl
first_view (suc zero) = second refl refl
first_view (suc (suc v)) = rest (replicate_at 0 126 v)

first_ordered : Ordered first_order
unfolding first_order
first_ordered = record {
  size = omega (arith, length-replicate {A = ℕ} 126 0);
  first = refl;
  second = omega arith;
  last = λ v. most v (first_view v);
  distinct = λ v w. apart v w (first_view v) (first_view w);
}
  where
    most : (v : ℕ) → FirstPlace v → at first_order v ≤ 2
    most v (first e q) = omega arith
    most v (second e q) = omega arith
    most v (rest q) = omega arith

    apart : (v w : ℕ) → FirstPlace v → FirstPlace w → 1 ≤ at first_order v → at first_order v ≡ at first_order w → v ≡ w
    apart v w (first e q) (first f r) h s = omega arith
    apart v w (first e q) (second f r) h s = absurd (omega arith)
    apart v w (first e q) (rest r) h s = absurd (omega arith)
    apart v w (second e q) (first f r) h s = absurd (omega arith)
    apart v w (second e q) (second f r) h s = omega arith
    apart v w (second e q) (rest r) h s = absurd (omega arith)
    apart v w (rest q) s' h s = absurd (omega arith)

module _ {vertices : ℕ} (G : Graph) (L : GraphLaws vertices G) where
  -- with link 0 it is that of an st-numbering
  first_st_order : StOrder G first_order
  first_st_order = record { is_ordered = first_ordered; sided = sides }
    where
      sides : AllSided G first_order
      sides true v h n = go (first_view v)
        where
          go : FirstPlace v → Neighbour G first_order true v
          go (first e q) = absurd (n e)
          go (second e q) = rw e (record { vertex = 0; link = adjacent_sym L L.root; placed = omega (arith, first_ordered.first); side = omega (arith, first_ordered.first, first_ordered.second) })
          go (rest q) = absurd (omega arith)
      sides false v h n = go (first_view v)
        where
          go : FirstPlace v → Neighbour G first_order false v
          go (first e q) = rw e (record { vertex = 1; link = L.root; placed = omega (arith, first_ordered.second); side = omega (arith, first_ordered.first, first_ordered.second) })
          go (second e q) = absurd (n e)
          go (rest q) = absurd (omega arith)

  -- ---- all ears

  pub with_ears_ordered : (i : ℕ) → StOrder G (with_ears G i)
  unfolding with_ears
  with_ears_ordered zero = first_st_order
  with_ears_ordered (suc i) = (with_ear_extends G L (with_ears G i) (with_ears_ordered i)).st_order

  module _ {S : ℕ → ℕ → Type 0} (C : BipolarSteps vertices G S) where
    -- after i ears at most vertices - i of them are free
    few_free : (i : ℕ) → count (is_free (with_ears G i)) vertices ≤ vertices - i
    unfolding with_ears
    few_free zero = omega (arith, count_le (is_free first_order) vertices)
    few_free (suc i) =
        by_cases (ℕ_discrete (count (is_free (with_ears G i)) vertices) 0)
        (λ e. omega (arith, not_more vertices (with_ears G i) (with_ear G (with_ears G i)) (with_ear_extends G L (with_ears G i) (with_ears_ordered i)).kept))
        (λ n. let (x, h, t, _) = count_onto (is_free (with_ears G i)) 0 vertices (omega arith) in
        omega (arith, few_free i, with_ear_found G L (with_ears G i) C (with_ears_ordered i) x h (free_at (with_ears G i) x t)))

    pub all_placed : (v : ℕ) → v < vertices → 1 ≤ at (with_ears G vertices) v
    all_placed v h =
        by_cases (ℕ_discrete (at (with_ears G vertices) v) 0)
        (λ e. absurd (omega (arith, few_free vertices, count_without (is_free (with_ears G vertices)) vertices v h (free_passes (with_ears G vertices) v e))))
        (λ n. omega arith)
