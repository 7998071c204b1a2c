-- The tests of `levels_of` and what they say. Assumes nothing.
use Rattle.std.proofs.Common.{◌≡◌, refl, sym, subst, ◌∙◌, Bool, true, false, ◌&&◌, true≢false, List, ℕ, zero, suc, ◌≤◌, ◌<◌, arith, ltb, get_or, ltb-true, ltb-false, leb-true, lt-ltb, le-leb, length, take, length-take}
use Rattle.std.proofs.Math.Logic.{by_cases}
use Rattle.std.proofs.Math.Bool.{and-eq-true_iff}
use Rattle.std.proofs.Math.Decide.{ℕ_discrete}
use Rattle.std.proofs.lemmas.List.{get_or-take}
use Rattle.digraph.specs.Digraph.{Within}
use Rattle.digraph.specs.Relaxed.{joins, within_of, climbs}

-- edge j joins two nodes
abbrev pub Joins : ℕ → List ℕ → List ℕ → ℕ → Type 0
Joins nodes from to j = (get_or from j 0 < nodes) × (get_or to j 0 < nodes)

-- what holds below k and at k holds below suc k
below_suc : (P : ℕ → Type 0) (k : ℕ) → ((j : ℕ) → j < k → P j) → P k → (j : ℕ) → j < suc k → P j
below_suc P k h p j l = by_cases (ℕ_discrete j k) (λ e. subst P (sym e) p) (λ n. h j (omega arith))

module _ (nodes : ℕ) (from to : List ℕ) where
  joins_all : (k : ℕ) → joins nodes k from to ≡ true → (j : ℕ) → j < k → Joins nodes from to j
  unfolding joins
  joins_all zero t j l = absurd (omega arith)
  joins_all (suc k) t j l =
      let (both, rest) = (and-eq-true_iff _ _).0 t in
      let (f, g) = (and-eq-true_iff _ _).0 both in
      below_suc (Joins nodes from to) k (joins_all k rest) (ltb-true _ _ f, ltb-true _ _ g) j l

  joins_true : (k : ℕ) → ((j : ℕ) → j < k → Joins nodes from to j) → joins nodes k from to ≡ true
  unfolding joins
  joins_true zero h = refl
  joins_true (suc k) h =
      rw (lt-ltb _ _ (h k (omega arith)).0, lt-ltb _ _ (h k (omega arith)).1)
      (joins_true k (λ j l. h j (omega arith)))

  module _ (edges : ℕ) where
    pub within_is : within_of nodes edges from to ≡ true → Within nodes edges from to
    unfolding within_of
    within_is t =
        let (both, rest) = (and-eq-true_iff _ _).0 t in
        let (n, e) = (and-eq-true_iff _ _).0 both in
        record {
          few_nodes = leb-true _ _ n;
          few_edges = leb-true _ _ e;
          from_in = λ k l. (joins_all edges rest k l).0;
          to_in = λ k l. (joins_all edges rest k l).1;
        }

    pub within_true : Within nodes edges from to → within_of nodes edges from to ≡ true
    unfolding within_of
    within_true w = rw (le-leb _ _ w.few_nodes, le-leb _ _ w.few_edges) (joins_true edges (λ j l. (w.from_in j l, w.to_in j l)))

    -- the test that passes where all is within
    pub within_met : (r : Bool) → (r ≡ true → Within nodes edges from to) → (Within nodes edges from to → r ≡ true) → r ≡ within_of nodes edges from to
    within_met true h g = sym (within_true (h refl))
    within_met false h g = go (within_of nodes edges from to) refl
      where
        go : (b : Bool) → within_of nodes edges from to ≡ b → false ≡ b
        go true t = g (within_is t)
        go false t = refl

-- an entry of the first n
pub entry_of : (n : ℕ) (xs : List ℕ) {k v : ℕ} → k < length (take n xs) → v ≡ get_or (take n xs) k 0 → (k < n) × (v ≡ get_or xs k 0)
entry_of n xs {k} l e = let h : k < n = omega (arith, length-take n xs) in (h, e ∙ get_or-take n xs k 0 h)

-- edge j leads to a higher level
abbrev pub Climbs : List ℕ → List ℕ → List ℕ → ℕ → Type 0
Climbs from to level j = get_or level (get_or from j 0) 0 < get_or level (get_or to j 0) 0

module _ (from to level : List ℕ) where
  pub climbs_all : (k : ℕ) → climbs k from to level ≡ true → (j : ℕ) → j < k → Climbs from to level j
  unfolding climbs
  climbs_all zero t j l = absurd (omega arith)
  climbs_all (suc k) t j l =
      let (here, rest) = (and-eq-true_iff _ _).0 t in
      below_suc (Climbs from to level) k (climbs_all k rest) (ltb-true _ _ here) j l

  -- an edge that does not climb
  pub climbs_not : (k : ℕ) → climbs k from to level ≡ false → (j : ℕ) × (j < k) × (get_or level (get_or to j 0) 0 ≤ get_or level (get_or from j 0) 0)
  unfolding climbs
  climbs_not zero f = absurd (true≢false f)
  climbs_not (suc k) f = go (ltb (get_or level (get_or from k 0) 0) (get_or level (get_or to k 0) 0)) refl (climbs_not k) f
    where
      go : (b : Bool) → ltb (get_or level (get_or from k 0) 0) (get_or level (get_or to k 0) 0) ≡ b
          → (climbs k from to level ≡ false → (j : ℕ) × (j < k) × (get_or level (get_or to j 0) 0 ≤ get_or level (get_or from j 0) 0))
          → (b && climbs k from to level) ≡ false → (j : ℕ) × (j < suc k) × (get_or level (get_or to j 0) 0 ≤ get_or level (get_or from j 0) 0)
      go true e ih g = let (j, l, h) = ih g in (j, omega arith, h)
      go false e ih g = (k, omega arith, ltb-false _ _ e)
