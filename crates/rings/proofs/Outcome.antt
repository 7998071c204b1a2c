-- All vertices: the rule on vertices 0 and 1 is met, and their rings and levels are right; or one of these is not so, or there is a circle. Assumes nothing.
use Rattle.std.proofs.Common.{ℕ, ◌+◌, ◌*◌, ◌≤◌, ◌<◌, ◌≡◌, refl, sym, ◌∙◌, Bool, true, false, List, None, arith, get_or, eqb-true, leb-true, leb}
use Rattle.std.specs.Bool.{then_some}
use Rattle.std.proofs.Math.Bool.{and-false}
use Rattle.counting.proofs.Iterate.{by_bool, clash}
use Rattle.counting.proofs.Counts.{count_full}
use Rattle.digraph.specs.Digraph.{Within, flat}
use Rattle.digraph.specs.Relaxed.{found}
use Rattle.digraph.specs.declared.Sorting.{Sorting}
use Rattle.rings.specs.declared.Darts.{Darts}
use Rattle.digraph.specs.Inner.{Ends, Waiting, Queued, ready, Settled}
use Rattle.digraph.proofs.Settling.{start, outcome}
use Rattle.clauses.specs.Inner.{dart_table, vertex_of, poles_of}
use Rattle.clauses.proofs.Below.{dart_at_law}
use Rattle.clauses.proofs.Tables.{tail_vertex, head_vertex}
use Rattle.rings.specs.Inner.{OneRingEach, Held, Degrees, Covered, Placed, Underway, PassedOn, rings_of, ring_levels}
use Rattle.rings.proofs.Rings.{rings_refused, rings_met}
use Rattle.rings.proofs.Walking.{vertex_in}

-- the rule on vertices 0 and 1 is not met
pub no_poles : (n m : ℕ) (tails heads nexts : List ℕ) → poles_of n m tails heads ≡ false → None ≡ found (ring_levels n m tails heads nexts)
unfolding ring_levels
no_poles n m tails heads nexts f = rw f refl

module _ {n m : ℕ} {tails heads : List ℕ} (few : n ≤ 128) (T : Ends n m tails) (H : Ends n m heads) where
  pub inside : Within n m tails heads
  inside = record { few_nodes = omega arith; few_edges = T.few; from_in = T.inside; to_in = H.inside }

  module _ {count : ℕ} {at : List ℕ} (ec : count ≡ 2 * m) (ea : at ≡ dart_table (vertex_of tails heads) (2 * m)) where
    abbrev pub placed : Placed count at
    placed = record {
      edges = m;
      to = heads;
      graph = record { nodes = n; from = tails; within = inside };
      twice = ec;
      few = few;
      tails_at = λ k l. rw ea (dart_at_law (vertex_of tails heads) (2 * m) (2 * k) (omega arith) ∙ sym (tail_vertex k tails heads));
      heads_at = λ k l. rw ea (dart_at_law (vertex_of tails heads) (2 * m) (2 * k + 1) (omega arith) ∙ sym (head_vertex k tails heads));
    }

    -- a ring is not right
    pub no_rings : (nexts : List ℕ) → ¬ OneRingEach count at nexts → None ≡ found (ring_levels n m tails heads nexts)
    unfolding ring_levels rings_of
    no_rings nexts f = let z = rw (ec, ea) at (rings_refused count at nexts (omega (arith, T.few)) f) in rw (z, and-false (poles_of n m tails heads)) refl

  module _ (r : Darts) (ec : r.count ≡ 2 * m) (ea : r.at.now ≡ dart_table (vertex_of tails heads) (2 * m)) (D : Degrees r.count r.at.now r.degree) (E : Held r.count r.at.now r.held)
      (s : Sorting) (A : Waiting m heads (λ j. true) s.waiting) (Q : Queued n s.waiting s.queue s.end) (z : s.level ≡ flat) where
    begun : Settled (placed ec ea).graph 0 s.waiting s.level s.queue s.end
    begun = rw z (start (placed ec ea).graph A Q)

    pub underway : Underway r 0 s
    underway = record { placed = placed ec ea; settled = begun; held_in = E; degrees = D }

    module _ (s' : Sorting) (O : PassedOn r 0 s s'.end s') where
      settled : Settled (placed ec ea).graph s'.end s'.waiting s'.level s'.queue s'.end
      settled = O.onward (placed ec ea) begun

      -- all vertices came into the queue
      covered : n ≤ s'.end → (d : ℕ) → d < r.count → Covered r.count r.at.now r.nexts.now r.held d
      covered h d l =
          let Q = settled.progress.queued in
          let v = vertex_in (placed ec ea) d l in
          let t = count_full (ready s'.waiting) n (omega (arith, Q.many)) (get_or r.at.now d 0) v in
          let (i, b, q) = Q.all (get_or r.at.now d 0) v (eqb-true _ _ t) in
          O.covers i d (omega arith) b l (sym q)

      all_rings : n ≤ s'.end → rings_of (2 * m) tails heads r.nexts.now ≡ true
      unfolding rings_of
      all_rings h = rw (ec, ea) at (rings_met (omega (arith, ec, T.few)) (covered h))

      -- all are right, or some did not come into the queue
      pub answer : poles_of n m tails heads ≡ true → then_some (leb n s'.end) s'.level ≡ found (ring_levels n m tails heads r.nexts.now)
      unfolding ring_levels
      answer p =
          rw p (by_bool (rings_of (2 * m) tails heads r.nexts.now) (λ t. rw t (outcome (placed ec ea).graph settled)) (λ f. rw f (none (leb n s'.end) refl (λ h. clash (all_rings h) f))))
        where
          none : (b : Bool) → leb n s'.end ≡ b → ¬ n ≤ s'.end → then_some b s'.level ≡ None
          none true e k = absurd (k (leb-true _ _ e))
          none false e k = refl
