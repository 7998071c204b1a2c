-- The darts of a sheet, two of each link: their vertices, the lowest that passes a test, and what a sweep over them makes. Assumes nothing.
use Rattle.std.proofs.Common.{◌≡◌, refl, ap, subst, ◌∙◌, ℕ, zero, suc, ◌+◌, ◌*◌, ◌/◌, ◌<◌, Bool, true, false, cond, List, Some, None, add-one, arith, eqb, eq-eqb, ne_eqb, lt-ltb, le-ltb}
use Rattle.std.proofs.Math.Decide.{ℕ_discrete}
use Rattle.counting.specs.Below.{lowest_below}
use Rattle.clauses.specs.Darts.{is_tail, opposite}
use Rattle.clauses.specs.declared.Sheet.{Sheet}
use Rattle.sheet.specs.Darts.{tail, head, vertex}
use Rattle.sheet.proofs.Darts.{dart, dart_is, dart_opposite, dart_vertex, edge_below}
use Rattle.digraph.specs.Inner.{Ends}
use Rattle.orientation.specs.Inner.{dart_ends}
use Rattle.orientation.specs.Ears.{graph_of, entry, relax, sweep, exit, enters, exits, relaxed}

-- ---- the vertices of a dart

-- both darts of link k
module _ (s : Sheet) (k : ℕ) where
  pub along_from : vertex s (2 * k) ≡ tail s k
  along_from = dart_vertex s true k

  pub along_to : vertex s (opposite (2 * k)) ≡ head s k
  along_to = ap (vertex s) (dart_opposite true k) ∙ dart_vertex s false k

  pub back_from : vertex s (2 * k + 1) ≡ head s k
  back_from = dart_vertex s false k

  pub back_to : vertex s (opposite (2 * k + 1)) ≡ tail s k
  back_to = ap (vertex s) (dart_opposite false k) ∙ dart_vertex s true k

-- they are below 128
pub vertex_in : (s : Sheet) → Ends 128 s.edges s.tails → Ends 128 s.edges s.heads → (d : ℕ) → d < 2 * s.edges → vertex s d < 128
vertex_in s T H d h = subst (λ e. vertex s e < 128) (dart_is d) (inside (is_tail d))
  where
    inside : (b : Bool) → vertex s (dart b (d / 2)) < 128
    inside true = rw (dart_vertex s true (d / 2)) (T.inside (d / 2) (edge_below s h))
    inside false = rw (dart_vertex s false (d / 2)) (H.inside (d / 2) (edge_below s h))

-- ---- the lowest that passes

-- none below k passes: nor does k, or k is the lowest that does
module _ (p : ℕ → Bool) (k : ℕ) (e : lowest_below p k ≡ k) where
  none_more : p k ≡ false → lowest_below p (k + 1) ≡ k + 1
  unfolding lowest_below
  none_more f = rw (add-one, e, eq-eqb k k refl, f) refl

  first_found : p k ≡ true → (n : ℕ) → k < n → lowest_below p n ≡ k
  unfolding lowest_below
  first_found t zero h = absurd (omega arith)
  first_found t (suc n) h = go (ℕ_discrete k n) (λ l. first_found t n l)
    where
      go : Dec (k ≡ n) → (k < n → lowest_below p n ≡ k) → cond (eqb (lowest_below p n) n) (cond (p n) n (suc n)) (lowest_below p n) ≡ k
      go (yes q) ih = rw (← q, e, eq-eqb k k refl, t) refl
      go (no q) ih = let z = ih (omega arith) in rw (ne_eqb (lowest_below p n) n (λ w. omega arith)) z

-- a test of the darts of a sheet by their vertices; link by link, which turns two of them
unfoldable pub by_dart : Sheet → (ℕ → ℕ → Bool) → ℕ → Bool
by_dart s test d = test (vertex s d) (vertex s (opposite d))

module _ (s : Sheet) (test : ℕ → ℕ → Bool) where
  pub lowest_start : lowest_below (by_dart s test) 0 ≡ 0
  unfolding lowest_below
  lowest_start = refl

  module _ (k : ℕ) where
    along : by_dart s test (2 * k) ≡ test (tail s k) (head s k)
    unfolding by_dart
    along = rw (along_from s k, along_to s k) refl

    back : by_dart s test (2 * k + 1) ≡ test (head s k) (tail s k)
    unfolding by_dart
    back = rw (back_from s k, back_to s k) refl

    -- no dart of the links before k passes
    module _ (e : lowest_below (by_dart s test) (2 * k) ≡ 2 * k) where
      pub lowest_along : test (tail s k) (head s k) ≡ true → k < s.edges → dart_ends (graph_of s) (lowest_below (by_dart s test) (2 * s.edges)) ≡ Some (tail s k, head s k)
      unfolding dart_ends
      lowest_along t h =
          let z = first_found (by_dart s test) (2 * k) e (along ∙ t) (2 * s.edges) (omega arith) in
          rw (z, lt-ltb (2 * k) (2 * s.edges) (omega arith), along_from s k, along_to s k) refl

      module _ (f : test (tail s k) (head s k) ≡ false) where
        second : lowest_below (by_dart s test) (2 * k + 1) ≡ 2 * k + 1
        second = none_more (by_dart s test) (2 * k) e (along ∙ f)

        pub lowest_back : test (head s k) (tail s k) ≡ true → k < s.edges → dart_ends (graph_of s) (lowest_below (by_dart s test) (2 * s.edges)) ≡ Some (head s k, tail s k)
        unfolding dart_ends
        lowest_back t h =
            let z = first_found (by_dart s test) (2 * k + 1) second (back ∙ t) (2 * s.edges) (omega arith) in
            rw (z, lt-ltb (2 * k + 1) (2 * s.edges) (omega arith), back_from s k, back_to s k) refl

        pub lowest_more : test (head s k) (tail s k) ≡ false → lowest_below (by_dart s test) (2 * (k + 1)) ≡ 2 * (k + 1)
        lowest_more t =
            let z : 2 * (k + 1) ≡ 2 * k + 1 + 1 = omega arith in
            rw z (none_more (by_dart s test) (2 * k + 1) second (back ∙ t))

      pub lowest_none : k ≡ s.edges → dart_ends (graph_of s) (lowest_below (by_dart s test) (2 * s.edges)) ≡ None
      unfolding dart_ends
      lowest_none q =
          let z : lowest_below (by_dart s test) (2 * s.edges) ≡ 2 * s.edges = rw q at e in
          rw (z, le-ltb (2 * s.edges) (2 * s.edges) (omega arith)) refl

-- entries and exits are such darts
pub entry_is : (s : Sheet) (order : List ℕ) → entry (graph_of s) order ≡ lowest_below (by_dart s (enters order)) (2 * s.edges)
unfolding entry by_dart
entry_is s order = refl

pub exit_is : (s : Sheet) (order : List ℕ) (u : ℕ) (parents : List ℕ) → exit (graph_of s) order u parents ≡ lowest_below (by_dart s (exits order parents u)) (2 * s.edges)
unfolding exit by_dart
exit_is s order u parents = refl

pub ruleset entry_steps = (entry_is, lowest_start, lowest_along, lowest_back, lowest_more, lowest_none)

pub ruleset exit_steps = (exit_is, lowest_start, lowest_along, lowest_back, lowest_more, lowest_none)

-- ---- a sweep, link by link

module _ (s : Sheet) (order parents : List ℕ) where
  pub sweep_start : sweep (graph_of s) order 0 parents ≡ parents
  unfolding sweep
  sweep_start = refl

  pub sweep_more : (k : ℕ) → sweep (graph_of s) order (2 * (k + 1)) parents ≡ relaxed order (relaxed order (sweep (graph_of s) order (2 * k) parents) (tail s k) (head s k)) (head s k) (tail s k)
  unfolding sweep relax
  sweep_more k =
      let z : 2 * (k + 1) ≡ suc (suc (2 * k)) = omega arith in
      let y : suc (2 * k) ≡ 2 * k + 1 = omega arith in
      rw z (rw y (rw (along_from s k, along_to s k, back_from s k, back_to s k) refl))

pub ruleset sweep_steps = (sweep_start, sweep_more)
