-- The rule on vertices 0 and 1, by the numbers of the edges into each vertex and of its darts. Assumes nothing.
use Rattle.std.proofs.Common.{ℕ, ◌+◌, ◌*◌, ◌<◌, ◌≡◌, refl, ap, ◌∙◌, Bool, true, false, not, ◌&&◌, List, add-one, arith, eq-eqb, ne_eqb, eqb, get_or}
use Rattle.std.proofs.Math.Logic.{by_cases}
use Rattle.std.proofs.Math.Bool.{beq, and_assoc}
use Rattle.std.proofs.Math.Decide.{ℕ_discrete}
use Rattle.counting.specs.Below.{all_below}
use Rattle.counting.specs.Counts.{count}
use Rattle.counting.proofs.Counts.{count_agree, some_counted, count_twice}
use Rattle.counting.proofs.Below.{all_both}
use Rattle.digraph.specs.Inner.{Waiting}
use Rattle.clauses.specs.Inner.{end_of, pole_at, poles_of}
use Rattle.rings.specs.Inner.{Degrees, Placed}

-- the test of one vertex, by the number of ends there
pole_counted : (m : ℕ) (ends : List ℕ) (pole v : ℕ) → pole_at m ends pole v ≡ beq (eqb (count (λ k. eqb (get_or ends k 0) v) m) 0) (eqb v pole)
unfolding pole_at end_of
pole_counted m ends pole v = rw (some_counted (λ k. eqb (get_or ends k 0) v) m) (both (eqb (count (λ k. eqb (get_or ends k 0) v) m) 0) (eqb v pole))
  where
    both : (x y : Bool) → beq (not x) (not y) ≡ beq x y
    both true true = refl
    both true false = refl
    both false true = refl
    both false false = refl

-- a and b together are b where a is 0, and only there
none_left : (d a b : ℕ) → d ≡ a + b → eqb d b ≡ eqb a 0
none_left d a b e = by_cases (ℕ_discrete a 0) (λ z. rw (eq-eqb d b (omega arith), eq-eqb a 0 z) refl) (λ z. rw (ne_eqb d b (omega arith), ne_eqb a 0 z) refl)

module _ {darts : ℕ} {at : List ℕ} (P : Placed darts at) where
  -- both tests of one vertex
  abbrev pub pole_tests : ℕ → Bool
  pole_tests v = pole_at P.edges P.to 0 v && pole_at P.edges P.graph.from 1 v

  pub poles_tested : (n : ℕ) → all_below pole_tests n ≡ poles_of n P.edges P.graph.from P.to
  unfolding poles_of
  poles_tested n = all_both (pole_at P.edges P.to 0) (pole_at P.edges P.graph.from 1) n

  -- the darts at a vertex are the edges out of it and those into it
  darts_counted : (v : ℕ) → count (λ d. eqb (get_or at d 0) v) darts ≡ count (λ k. eqb (get_or P.graph.from k 0) v) P.edges + count (λ k. eqb (get_or P.to k 0) v) P.edges
  darts_counted v = omega (
    arith,
    ap (count (λ d. eqb (get_or at d 0) v)) P.twice,
    count_twice (λ d. eqb (get_or at d 0) v) P.edges,
    count_agree (λ k. eqb (get_or at (2 * k) 0) v) (λ k. eqb (get_or P.graph.from k 0) v) P.edges (λ k l. ap (λ x. eqb x v) (P.tails_at k l)),
    count_agree (λ k. eqb (get_or at (2 * k + 1) 0) v) (λ k. eqb (get_or P.to k 0) v) P.edges (λ k l. ap (λ x. eqb x v) (P.heads_at k l)),
  )

  module _ {degree into : List ℕ} (D : Degrees darts at degree) (W : Waiting P.edges P.to (λ j. true) into) where
    -- one vertex more
    pub poles_next : (v : ℕ) → v < 128 → (edges_in : ℕ) → edges_in ≡ get_or into v 0 → (only : Bool) → only ≡ all_below pole_tests v
        → (only && beq (eqb edges_in 0) (eqb v 0) && beq (eqb (get_or degree v 0) edges_in) (eqb v 1)) ≡ all_below pole_tests (v + 1)
    unfolding all_below
    poles_next v small edges_in ei only e =
        let from = count (λ k. eqb (get_or P.graph.from k 0) v) P.edges in
        let to = count (λ k. eqb (get_or P.to k 0) v) P.edges in
        let counted : edges_in ≡ to = ei ∙ W.counts v (omega arith) in
        let left : eqb (get_or degree v 0) edges_in ≡ eqb from 0 = none_left (get_or degree v 0) from edges_in (omega (arith, D.counts v small, darts_counted v)) in
        rw (add-one v, e, left, counted, pole_counted P.edges P.to 0 v, pole_counted P.edges P.graph.from 1 v)
        (and_assoc (all_below pole_tests v) (beq (eqb to 0) (eqb v 0)) (beq (eqb from 0) (eqb v 1)))
