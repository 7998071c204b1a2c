-- What the search of an ear finds: a tree of parents, and a dart by which the ear ends, where a path through free vertices leads to one. Assumes nothing.
use Rattle.std.proofs.Common.{◌≡◌, ℕ, zero, suc, ◌<◌, ◌≤◌, Bool, true, false, cond, not, ◌&&◌, eqb, ltb, ◌≢◌, ◌⊎◌, List, length, set, sym, refl, ap, ◌∙◌, inl, inr, arith, length-set, get_or-set_other, get_or-set_same, ltb-true, eq-eqb, ne_eqb}
use Rattle.std.proofs.Math.Bool.{and-eq-true_iff}
use Rattle.std.proofs.Math.Decide.{ℕ_discrete}
use Rattle.std.proofs.Math.ListN.{length-replicate}
use Rattle.std.proofs.Math.Logic.{by_cases}
use Rattle.std.proofs.lemmas.Bool.{and_from}
use Rattle.counting.specs.Choice.{pick}
use Rattle.counting.specs.Paths.{Path}
use Rattle.counting.specs.Paths.Path.{here, more}
use Rattle.counting.proofs.Iterate.{by_bool, clash}
use Rattle.orientation.specs.Ears.{Graph, is_placed, own_parents, is_reached, relax, sweep, exit, explored, parents_from, relaxed}
use Rattle.orientation.proofs.Tests.{free_at, free_passes, reached_at, reached_passes, unreached_at, unreached_passes}
use Rattle.orientation.proofs.Places.{Adjacent, GraphLaws, at, ToFree}
use Rattle.orientation.proofs.PutAlong.{Branch, Tree}

-- what is reached at first from dart e
abbrev first_parents : Graph → ℕ → List ℕ
first_parents G e = set (own_parents 128) (G.to e) (G.from e)

-- all darts in turn, i times
unfoldable pub sweeps : Graph → List ℕ → ℕ → List ℕ → List ℕ
sweeps G order zero parents = parents
sweeps G order (suc i) parents = sweep G order G.darts (sweeps G order i parents)

-- all that can be reached from dart e
unfoldable pub swept : Graph → List ℕ → ℕ → List ℕ
swept G order e = sweeps G order G.vertices (first_parents G e)

-- ---- the parents at first

own_parents_size : (k : ℕ) → length (own_parents k) ≡ 128
unfolding own_parents
own_parents_size zero = length-replicate {A = ℕ} 128 0
own_parents_size (suc k) = length-set (own_parents k) k k ∙ own_parents_size k

-- nothing is reached
own_parents_at : (k v : ℕ) → k ≤ 128 → v < k → at (own_parents k) v ≡ v
unfolding own_parents
own_parents_at zero v l h = absurd (omega arith)
own_parents_at (suc k) v l h = go (ℕ_discrete v k) (λ m. own_parents_at k v (omega arith) m)
  where
    go : Dec (v ≡ k) → (v < k → at (own_parents k) v ≡ v) → at (set (own_parents k) k k) v ≡ v
    go (yes e) ih = rw e (get_or-set_same (own_parents k) k k 0 (omega (arith, own_parents_size k)))
    go (no n) ih = get_or-set_other (own_parents k) k v k 0 n ∙ ih (omega arith)

-- ---- a function with another value at one place

unfoldable override : (ℕ → ℕ) → ℕ → ℕ → ℕ → ℕ
override f z x v = cond (eqb v z) x (f v)

override_same : (f : ℕ → ℕ) (z x : ℕ) → override f z x z ≡ x
unfolding override
override_same f z x = rw (eq-eqb z z refl) refl

override_other : (f : ℕ → ℕ) (z x v : ℕ) → v ≢ z → override f z x v ≡ f v
unfolding override
override_other f z x v n = rw (ne_eqb v z n) refl

-- ---- a tree with one more vertex: z, whose parent y is u or on the tree

module _ {vertices : ℕ} {G : Graph} {order : List ℕ} {u : ℕ} {parents : List ℕ} (T : Tree vertices G order u parents) (y z : ℕ) (inside : z < 128) (link : Adjacent G z y) (free : at order z ≡ 0)
    (new_z : at parents z ≡ z) (on_tree : (y ≡ u) ⊎ (at parents y ≢ y)) (y_other : y ≢ z) (u_other : u ≢ z) where
  -- the depths, and the parents
  deep : ℕ → ℕ
  deep = override T.depth z (suc (T.depth y))

  new : at (set parents z y) z ≡ y
  new = get_or-set_same parents z y 0 (omega (arith, T.size))

  old : (v : ℕ) → v ≢ z → at (set parents z y) v ≡ at parents v
  old v n = get_or-set_other parents z v y 0 n

  -- z and the others are branches
  branch_z : Branch G order u (set parents z y) deep z
  unfolding deep
  branch_z = record {
    link = rw new link;
    free = free;
    back = rw new (go on_tree);
    deeper = omega (arith, ap (override T.depth z (suc (T.depth y))) new, override_other T.depth z (suc (T.depth y)) y y_other, override_same T.depth z (suc (T.depth y)));
  }
    where
      go : (y ≡ u) ⊎ (at parents y ≢ y) → (y ≡ u) ⊎ (at (set parents z y) y ≢ y)
      go (inl e) = inl e
      go (inr n) = inr (λ w. n (sym (old y y_other) ∙ w))

  branch_other : (v : ℕ) → v < vertices → v ≢ z → at (set parents z y) v ≢ v → Branch G order u (set parents z y) deep v
  unfolding deep
  branch_other v l o n = record {
    link = rw (old v o) B.link;
    free = B.free;
    back = rw (old v o) (keep B.back);
    deeper = omega (arith, ap (override T.depth z (suc (T.depth y))) (old v o), override_other T.depth z (suc (T.depth y)) (at parents v) p_other, override_other T.depth z (suc (T.depth y)) v o, B.deeper);
  }
    where
      B : Branch G order u parents T.depth v
      B = T.branch v l (λ w. n (old v o ∙ w))

      p_other : at parents v ≢ z
      p_other e = go B.back
        where
          go : (at parents v ≡ u) ⊎ (at parents (at parents v) ≢ at parents v) → ⊥
          go (inl w) = u_other (sym w ∙ e)
          go (inr w) = w (ap (at parents) e ∙ new_z ∙ sym e)

      keep : (at parents v ≡ u) ⊎ (at parents (at parents v) ≢ at parents v) → (at parents v ≡ u) ⊎ (at (set parents z y) (at parents v) ≢ at parents v)
      keep (inl w) = inl w
      keep (inr w) = inr (λ q. w (sym (old (at parents v) p_other) ∙ q))

  -- so it is a tree
  with_branch : Tree vertices G order u (set parents z y)
  with_branch = record {
    size = length-set parents z y ∙ T.size;
    depth = deep;
    branch = λ v l n. by_cases (ℕ_discrete v z) (λ e. rw e branch_z) (λ o. branch_other v l o n);
  }

module _ {vertices : ℕ} (G : Graph) (L : GraphLaws vertices G) (order : List ℕ) where
  -- ---- one dart

  -- it makes its second vertex reached
  relaxes : List ℕ → ℕ → Bool
  relaxes parents d = is_reached parents (G.from d) && not (is_reached parents (G.to d)) && not (is_placed order (G.to d))

  -- nothing changes, or the second vertex gets a parent
  data Relaxed (parents : List ℕ) (d : ℕ) : Type 0 where
    same : relaxes parents d ≡ false → relax G order parents d ≡ parents → Relaxed parents d
    added : at parents (G.from d) ≢ G.from d → at parents (G.to d) ≡ G.to d → at order (G.to d) ≡ 0
        → relax G order parents d ≡ set parents (G.to d) (G.from d) → Relaxed parents d

  relax_view : (parents : List ℕ) (d : ℕ) → Relaxed parents d
  unfolding relaxes relax relaxed
  relax_view parents d = by_bool (relaxes parents d) yes_added (λ e. same e (rw e refl))
    where
      yes_added : relaxes parents d ≡ true → Relaxed parents d
      yes_added e =
          let (f, c) = (and-eq-true_iff _ _).0 e in
          let (a, b) = (and-eq-true_iff _ _).0 f in
          added (reached_at parents (G.from d) a) (unreached_at parents (G.to d) b) (free_at order (G.to d) c) (rw e refl)

  -- what was reached stays reached
  relax_keeps : (parents : List ℕ) (d v : ℕ) → at parents v ≢ v → at (relax G order parents d) v ≢ v
  relax_keeps parents d v n = go (relax_view parents d)
    where
      go : Relaxed parents d → at (relax G order parents d) v ≢ v
      go (same f e) = rw e n
      go (added a b c e) = λ q.
          let other : v ≢ G.to d = λ w. n (ap (at parents) w ∙ b ∙ sym w) in
          n (sym (get_or-set_other parents (G.to d) v (G.from d) 0 other) ∙ ap (λ l. at l v) (sym e) ∙ q)

  -- and where the first vertex of a dart is reached, so is the second, if it is free
  relax_reaches : (parents : List ℕ) (d : ℕ) → length parents ≡ 128 → d < G.darts → at parents (G.from d) ≢ G.from d → at order (G.to d) ≡ 0
      → at (relax G order parents d) (G.to d) ≢ G.to d
  unfolding relaxes
  relax_reaches parents d s h n free = go (relax_view parents d)
    where
      go : Relaxed parents d → at (relax G order parents d) (G.to d) ≢ G.to d
      go (added a b c e) = λ q.
          let z : at (set parents (G.to d) (G.from d)) (G.to d) ≡ G.from d
          = get_or-set_same parents (G.to d) (G.from d) 0 (omega (arith, L.to_in d h, L.few)) in
          L.different d h (sym z ∙ ap (λ l. at l (G.to d)) (sym e) ∙ q)
      go (same f e) =
          by_cases (ℕ_discrete (at parents (G.to d)) (G.to d))
          (λ w. clash (and_from _ _ (and_from _ _ (reached_passes parents (G.from d) n) (unreached_passes parents (G.to d) w)) (free_passes order (G.to d) free)) f)
          (λ w. rw e w)

  -- ---- all darts in turn, again and again

  -- what was reached stays reached
  sweep_keeps : (k : ℕ) (parents : List ℕ) (v : ℕ) → at parents v ≢ v → at (sweep G order k parents) v ≢ v
  unfolding sweep
  sweep_keeps zero parents v n = n
  sweep_keeps (suc k) parents v n = relax_keeps (sweep G order k parents) k v (sweep_keeps k parents v n)

  sweeps_keeps : (i : ℕ) (parents : List ℕ) (v : ℕ) → at parents v ≢ v → at (sweeps G order i parents) v ≢ v
  unfolding sweeps
  sweeps_keeps zero parents v n = n
  sweeps_keeps (suc i) parents v n = sweep_keeps G.darts (sweeps G order i parents) v (sweeps_keeps i parents v n)

  module _ (u : ℕ) (placed_u : 1 ≤ at order u) where
    -- the tree stays a tree
    relax_tree : (parents : List ℕ) (d : ℕ) → d < G.darts → Tree vertices G order u parents → Tree vertices G order u (relax G order parents d)
    relax_tree parents d h T = go (relax_view parents d)
      where
        go : Relaxed parents d → Tree vertices G order u (relax G order parents d)
        go (same f e) = rw e T
        go (added a b c e) =
            rw e (with_branch T (G.from d) (G.to d) (omega (arith, L.to_in d h, L.few))
            (L.back d h) c b (inr a) (L.different d h) (λ w. omega (arith, ap (at order) w)))

    sweep_tree : (k : ℕ) → k ≤ G.darts → (parents : List ℕ) → Tree vertices G order u parents → Tree vertices G order u (sweep G order k parents)
    unfolding sweep
    sweep_tree zero h parents T = T
    sweep_tree (suc k) h parents T = relax_tree (sweep G order k parents) k h (sweep_tree k (omega arith) parents T)

    sweeps_tree : (i : ℕ) (parents : List ℕ) → Tree vertices G order u parents → Tree vertices G order u (sweeps G order i parents)
    unfolding sweeps
    sweeps_tree zero parents T = T
    sweeps_tree (suc i) parents T = sweep_tree G.darts (omega arith) (sweeps G order i parents) (sweeps_tree i parents T)

    explored_tree : (f : ℕ) (parents : List ℕ) → Tree vertices G order u parents → Tree vertices G order u (explored G order u f parents)
    unfolding explored
    explored_tree zero parents T = T
    explored_tree (suc f) parents T =
        go (ltb (exit G order u parents) G.darts) (explored_tree f (sweep G order G.darts parents) (sweep_tree G.darts (omega arith) parents T))
      where
        go : (t : Bool) → Tree vertices G order u (explored G order u f (sweep G order G.darts parents))
            → Tree vertices G order u (pick t (λ _. parents) (λ _. explored G order u f (sweep G order G.darts parents)))
        go true ih = T
        go false ih = ih

    -- the first k darts reach the second vertices of those whose first vertices are reached
    sweep_reaches : (k : ℕ) → k ≤ G.darts → (parents : List ℕ) → Tree vertices G order u parents → (d : ℕ) → d < k → at parents (G.from d) ≢ G.from d
        → at order (G.to d) ≡ 0 → at (sweep G order k parents) (G.to d) ≢ G.to d
    unfolding sweep
    sweep_reaches zero h parents T d l n b = absurd (omega arith)
    sweep_reaches (suc k) h parents T d l n b = go (ℕ_discrete d k) (λ m. sweep_reaches k (omega arith) parents T d m n b)
      where
        go : Dec (d ≡ k) → (d < k → at (sweep G order k parents) (G.to d) ≢ G.to d) → at (relax G order (sweep G order k parents) k) (G.to d) ≢ G.to d
        go (yes e) ih = rw e (relax_reaches (sweep G order k parents) k (sweep_tree k (omega arith) parents T).size h (sweep_keeps k parents (G.from k) (rw e at n)) (rw e at b))
        go (no e) ih = relax_keeps (sweep G order k parents) k (G.to d) (ih (omega arith))

    -- i times all darts reach to the end of a path of at most i steps
    sweeps_reach : (parents : List ℕ) → Tree vertices G order u parents → (x : ℕ) → at parents x ≢ x → {v k : ℕ} → Path (ToFree (Adjacent G) order) x v k → (i : ℕ) → k ≤ i
        → at (sweeps G order i parents) v ≢ v
    unfolding sweeps
    sweeps_reach parents T x n here i l = sweeps_keeps i parents x n
    sweeps_reach parents T x n (more p t) zero l = absurd (omega arith)
    sweeps_reach parents T x n (more {b} {v} p t) (suc i) l =
        let before : at (sweeps G order i parents) b ≢ b = sweeps_reach parents T x n p i (omega arith) in
        let there = sweep_reaches G.darts (omega arith) (sweeps G order i parents) (sweeps_tree i parents T) t.step.dart t.step.dart_in
        (rw t.step.at_from before) (rw t.step.at_to t.free) in
        rw t.step.at_to at there

  -- all darts once more, at first or at last
  sweeps_shift : (i : ℕ) (parents : List ℕ) → sweeps G order i (sweep G order G.darts parents) ≡ sweep G order G.darts (sweeps G order i parents)
  unfolding sweeps
  sweeps_shift zero parents = refl
  sweeps_shift (suc i) parents = ap (sweep G order G.darts) (sweeps_shift i parents)

  -- a dart by which the ear ends is found, if there is one for all that can be reached
  explored_exits : (u f : ℕ) (parents : List ℕ) → exit G order u (sweeps G order f parents) < G.darts → exit G order u (explored G order u f parents) < G.darts
  unfolding explored sweeps
  explored_exits u zero parents h = h
  explored_exits u (suc f) parents h =
      go (ltb (exit G order u parents) G.darts) refl (explored_exits u f (sweep G order G.darts parents) (rw (sweeps_shift f parents) h))
    where
      go : (t : Bool) → ltb (exit G order u parents) G.darts ≡ t → exit G order u (explored G order u f (sweep G order G.darts parents)) < G.darts
          → exit G order u (pick t (λ _. parents) (λ _. explored G order u f (sweep G order G.darts parents))) < G.darts
      go true e ih = ltb-true _ _ e
      go false e ih = ih

  -- ---- the search from dart e

  module _ (e : ℕ) (e_in : e < G.darts) (from_placed : 1 ≤ at order (G.from e)) (to_free : at order (G.to e) ≡ 0) where
    -- at first nothing is reached, then the first vertex of the ear
    start_tree : Tree vertices G order (G.from e) (own_parents 128)
    start_tree = record { size = own_parents_size 128; depth = λ v. 0; branch = λ v l n. absurd (n (own_parents_at 128 v (omega arith) (omega (arith, L.few)))) }

    first_tree : Tree vertices G order (G.from e) (first_parents G e)
    first_tree =
        with_branch start_tree (G.from e) (G.to e) (omega (arith, L.to_in e e_in, L.few))
        (L.back e e_in) to_free
        (own_parents_at 128 (G.to e) (omega arith) (omega (arith, L.to_in e e_in, L.few))) (inl refl) (L.different e e_in) (L.different e e_in)

    -- the parents make a tree
    pub parents_tree : Tree vertices G order (G.from e) (parents_from G order e)
    unfolding parents_from
    parents_tree = explored_tree (G.from e) from_placed G.vertices (first_parents G e) first_tree

    -- all is reached to which a path leads through free vertices
    pub swept_reaches : {v k : ℕ} → Path (ToFree (Adjacent G) order) (G.to e) v k → k ≤ G.vertices → at (swept G order e) v ≢ v
    unfolding swept
    swept_reaches p l =
        sweeps_reach (G.from e) from_placed (first_parents G e) first_tree (G.to e) first p G.vertices l
      where
        first : at (first_parents G e) (G.to e) ≢ G.to e
        first q = L.different e e_in (sym (get_or-set_same (own_parents 128) (G.to e) (G.from e) 0 (omega (arith, L.to_in e e_in, L.few, own_parents_size 128))) ∙ q)

    -- and the ear ends by a dart where it can
    pub exit_found : exit G order (G.from e) (swept G order e) < G.darts → exit G order (G.from e) (parents_from G order e) < G.darts
    unfolding swept parents_from
    exit_found h = explored_exits (G.from e) G.vertices (first_parents G e) h
