-- Placing an ear keeps the order of an st-numbering. Assumes nothing.
use Rattle.std.proofs.Common.{◌≡◌, ℕ, zero, suc, ◌<◌, ◌≤◌, Bool, true, false, not, ◌≢◌, ◌⊎◌, List, length, refl, ap, inl, inr, arith}
use Rattle.std.proofs.Math.Decide.{ℕ_discrete}
use Rattle.std.proofs.Math.Logic.{by_cases}
use Rattle.counting.specs.Choice.{pick}
use Rattle.counting.specs.Counts.{count}
use Rattle.counting.proofs.Iterate.{either}
use Rattle.orientation.specs.Ears.{Graph, is_placed, insert_at, next_place, put_along}
use Rattle.orientation.proofs.Tests.{placed_at, free_at}
use Rattle.orientation.proofs.Places.{GraphLaws, Adjacent, adjacent_sym, at, Less, Neighbour, Ordered, Sided, AllSided, StOrder, Inserted, inserted, was_other, keeps, was, neighbour_kept, ordered, is_free, fewer}

-- ---- the tree of parents

-- reached vertex v is free, and adjacent to its parent, which is u or another reached vertex, and less deep

pub record Branch (G : Graph) (order : List ℕ) (u : ℕ) (parents : List ℕ) (depth : ℕ → ℕ) (v : ℕ) : Type 0 where
  pub link : Adjacent G v (at parents v)
  pub free : at order v ≡ 0
  pub back : (at parents v ≡ u) ⊎ (at parents (at parents v) ≢ at parents v)
  pub deeper : depth (at parents v) < depth v

-- each reached vertex is such a branch
pub record Tree (vertices : ℕ) (G : Graph) (order : List ℕ) (u : ℕ) (parents : List ℕ) : Type 0 where
  pub size : length parents ≡ 128
  pub depth : ℕ → ℕ
  pub branch : (v : ℕ) → v < vertices → at parents v ≢ v → Branch G order u parents depth v

-- an order with one more ear: it is in order, and nothing is lost
pub record Extended (G : Graph) (order order' : List ℕ) : Type 0 where
  pub st_order : StOrder G order'
  pub kept : (v : ℕ) → 1 ≤ at order v → 1 ≤ at order' v

-- p is on one side of q, so q is on the other side of p
less_turned : (t : Bool) (p q : ℕ) → Less t p q → Less (not t) q p
less_turned true p q l = l
less_turned false p q l = l

-- the place next to u lies between u and z
next_place_inside : (up : Bool) (u z top : ℕ) → 1 ≤ u → 1 ≤ z → u ≤ top → z ≤ top → Less up u z → (2 ≤ next_place up u) × (next_place up u ≤ top)
next_place_inside true u z top a b c d l = (omega arith, omega arith)
next_place_inside false u z top a b c d l = (omega arith, omega arith)

-- what is put there is next to u on the side `up`
next_place_u : (up : Bool) {order order' : List ℕ} {y u : ℕ} → Inserted (next_place up (at order u)) y order order' → u ≢ y → Less up (at order' u) (at order' y)
next_place_u true {u} I n = omega (arith, I.new, I.under u n (omega arith))
next_place_u false {u} I n = omega (arith, I.new, I.over u n (omega arith))

-- and z is further on that side
next_place_z : (up : Bool) {order order' : List ℕ} {y : ℕ} (u z : ℕ) → Inserted (next_place up (at order u)) y order order' → z ≢ y → Less up (at order u) (at order z) → Less up (at order' y) (at order' z)
next_place_z true u z I n l = omega (arith, I.new, I.over z n (omega arith))
next_place_z false u z I n l = omega (arith, I.new, I.under z n (omega arith))

module _ {vertices : ℕ} (G : Graph) (L : GraphLaws vertices G) (order₀ parents : List ℕ) (u : ℕ) (T : Tree vertices G order₀ u parents) (placed_u : 1 ≤ at order₀ u) (up : Bool) where
  -- vertex y is put next to u
  abbrev with_vertex : List ℕ → ℕ → List ℕ
  with_vertex order y = insert_at (next_place up (at order u)) y order

  -- Vertex y comes next; z, adjacent to y, came last. It is above u where `up` is true, else below, and may still lack a neighbour on that side where u is.
  -- What is new is deeper than y.
  pub record Along (order : List ℕ) (y z : ℕ) : Type 0 where
    pub is_ordered : Ordered order
    pub kept : (v : ℕ) → 1 ≤ at order₀ v → 1 ≤ at order v
    pub inside : y < vertices
    pub on_tree : (y ≡ u) ⊎ (at parents y ≢ y)
    pub link : Adjacent G z y
    pub z_placed : 1 ≤ at order z
    pub beyond : Less up (at order u) (at order z)
    pub sided : Sided G order z up
    pub fresh : (v : ℕ) → 1 ≤ at order v → at order₀ v ≡ 0 → T.depth y < T.depth v

  module _ {order : List ℕ} {y z : ℕ} (H : Along order y z) where
    -- y is placed: it is u, and the neighbour that z lacked
    is_u : 1 ≤ at order y → y ≡ u
    is_u p = go H.on_tree
      where
        go : (y ≡ u) ⊎ (at parents y ≢ y) → y ≡ u
        go (inl e) = e
        go (inr n) = absurd (omega (arith, H.fresh y p (T.branch y H.inside n).free))

    -- so no vertex lacks a neighbour
    done : 1 ≤ at order y → Extended G order order
    done p = record { st_order = record { is_ordered = H.is_ordered; sided = sides }; kept = λ v h. h }
      where
        sides : AllSided G order
        sides t v h n =
            by_cases (ℕ_discrete v z)
            (λ e. go e (either t up))
            (λ e. H.sided t v h n (λ q. absurd (e q)))
          where
            go : v ≡ z → (t ≡ up) ⊎ (t ≡ not up) → Neighbour G order t v
            go e (inl q) = rw (e, q) (record { vertex = y; link = H.link; placed = p; side = rw (is_u p) H.beyond })
            go e (inr q) = H.sided t v h n (λ _. q)

    -- y is not placed: it is put next to u
    module _ (o : at order y ≡ 0) where
      -- u stays placed, and the place next to it is between those of vertices 0 and 1
      placed_now : 1 ≤ at order u
      placed_now = H.kept u placed_u

      between : (2 ≤ next_place up (at order u)) × (next_place up (at order u) ≤ at order 1)
      between = next_place_inside up (at order u) (at order z) (at order 1) placed_now H.z_placed (H.is_ordered.last u) (H.is_ordered.last z) H.beyond

      I : Inserted (next_place up (at order u)) y order (with_vertex order y)
      I = inserted (next_place up (at order u)) y order H.is_ordered.size (omega (arith, H.inside, L.few)) (omega (arith, between.0))

      some : 1 ≤ next_place up (at order u)
      some = omega (arith, between.0)

      -- y is reached
      on : at parents y ≢ y
      on = go H.on_tree
        where
          go : (y ≡ u) ⊎ (at parents y ≢ y) → at parents y ≢ y
          go (inl e) = absurd (omega (arith, ap (at order) e, placed_now))
          go (inr n) = n

      B : Branch G order₀ u parents T.depth y
      B = T.branch y H.inside on

      -- it comes between u and z
      y_z : Less up (at (with_vertex order y) y) (at (with_vertex order y) z)
      y_z = next_place_z up u z I (was_other I o some H.z_placed) H.beyond

      -- then only y may lack a neighbour
      sides : Sided G (with_vertex order y) y up
      sides t v h n ex = by_cases (ℕ_discrete v y) (λ e. new e (ex e)) old
        where
          new : v ≡ y → t ≡ not up → Neighbour G (with_vertex order y) t v
          new e q = rw (e, q) (record {
            vertex = z;
            link = adjacent_sym L H.link;
            placed = keeps I o some z H.z_placed;
            side = less_turned up _ _ y_z;
          })

          old : v ≢ y → Neighbour G (with_vertex order y) t v
          old e = by_cases (ℕ_discrete v z) (λ q. at_z q (either t up)) (λ q. neighbour_kept I o some before (H.sided t v before n (λ w. absurd (q w))))
            where
              before : 1 ≤ at order v
              before = was I o some v e h

              at_z : v ≡ z → (t ≡ up) ⊎ (t ≡ not up) → Neighbour G (with_vertex order y) t v
              at_z q (inl s) = rw (q, s) (record { vertex = y; link = H.link; placed = omega (arith, I.new, some); side = y_z })
              at_z q (inr s) = neighbour_kept I o some before (H.sided t v before n (λ _. s))

      -- and its parent comes next
      onward : Along (with_vertex order y) (at parents y) y
      onward = record {
        is_ordered = ordered I o some H.is_ordered between.0 between.1;
        kept = λ v h. keeps I o some v (H.kept v h);
        inside = rw B.link.at_to at (L.to_in B.link.dart B.link.dart_in);
        on_tree = B.back;
        link = B.link;
        z_placed = omega (arith, I.new, some);
        beyond = next_place_u up I (was_other I o some placed_now);
        sided = sides;
        fresh = λ v h b. by_cases (ℕ_discrete v y) (λ e. omega (arith, B.deeper, ap T.depth e)) (λ e. omega (arith, B.deeper, H.fresh v (was I o some v e h) b));
      }

      -- with fewer free vertices left
      left : count (is_free (with_vertex order y)) vertices < count (is_free order) vertices
      left = fewer vertices y order (with_vertex order y) H.inside o (omega (arith, I.new, some)) (keeps I o some)

      -- what then comes of it
      since : (rest : List ℕ) → Extended G (with_vertex order y) rest → Extended G order rest × (1 ≤ at rest y)
      since rest D =
          (record { st_order = D.st_order; kept = λ v h. D.kept v (keeps I o some v h) }, D.kept y (omega (arith, I.new, some)))

  -- all of it: the order is extended, and y is placed
  pub put_along_extends : (f : ℕ) (order : List ℕ) (y z : ℕ) → Along order y z → count (is_free order) vertices < f
      → Extended G order (put_along f parents u up y order) × (1 ≤ at (put_along f parents u up y order) y)
  unfolding put_along
  put_along_extends zero order y z H c = absurd (omega arith)
  put_along_extends (suc f) order y z H c =
      go (is_placed order y) refl (λ o. (put_along_extends f (with_vertex order y) (at parents y) y (onward H o) (omega (arith, left H o))).0)
    where
      next : List ℕ
      next = put_along f parents u up (at parents y) (with_vertex order y)

      go : (b : Bool) → is_placed order y ≡ b → (at order y ≡ 0 → Extended G (with_vertex order y) next)
          → Extended G order (pick b (λ _. order) (λ _. next)) × (1 ≤ at (pick b (λ _. order) (λ _. next)) y)
      go true e ih = (done H (placed_at order y e), placed_at order y e)
      go false e ih = let o : at order y ≡ 0 = free_at order y (rw e refl) in since H o next (ih o)
