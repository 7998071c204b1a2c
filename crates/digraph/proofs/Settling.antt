-- The whole queue: all nodes came into it, and their levels are right; or some did not, and there is a circle. Assumes nothing.
use Rattle.std.proofs.Common.{◌≡◌, refl, sym, ◌∙◌, Bool, true, false, true≢false, List, ℕ, zero, suc, ◌≤◌, ◌<◌, arith, get_or, eqb-true, leb-true, leb-false, leb}
use Rattle.std.proofs.Math.Logic.{by_cases}
use Rattle.std.proofs.Math.Bool.{and-eq-true_iff}
use Rattle.std.proofs.Math.Decide.{ℕ_discrete}
use Rattle.std.proofs.lemmas.Bool.{eqb-false}
use Rattle.std.specs.Bool.{then_some}
use Rattle.counting.specs.Paths.{Path}
use Rattle.counting.specs.Paths.Path.{here}
use Rattle.counting.proofs.Counts.{count_all, count_onto, count_full, count_gap}
use Rattle.counting.proofs.Paths.{before, circle}
use Rattle.digraph.specs.Digraph.{Layering, Within, Leads, Leveled, flat}
use Rattle.digraph.specs.declared.Digraph.{Digraph}
use Rattle.digraph.specs.declared.Sorting.{Sorting}
use Rattle.digraph.specs.declared.Lists.{Lists}
use Rattle.digraph.specs.Relaxed.{found, levels_of}
use Rattle.digraph.proofs.Tests.{within_true}
use Rattle.digraph.proofs.Waits.{tail_in}
use Rattle.digraph.specs.Inner.{into, ready, Chained, Waiting, Queued, Graph, Listing, Settled, Underway, Onward}
use Rattle.digraph.proofs.Relaxation.{flat_at, flat_attained, source_in, climbs_leveled, circle_leveled, right}

module _ {edges : ℕ} {to : List ℕ} (G : Graph edges to) where
  -- before the first edge
  pub start : {waiting queue : List ℕ} {tail : ℕ} → Waiting edges to (λ j. true) waiting → Queued G.nodes waiting queue tail → Settled G 0 waiting flat queue tail
  start A Q = record {
    waits = λ j. true;
    progress = record {
      waiting_in = A;
      queued = Q;
      attained = flat_attained G.within;
      climbs = λ j l f. absurd (true≢false f);
      low = λ v. omega (arith, flat_at v, count_all edges);
    };
    passed = λ i j h. absurd (omega arith);
    left = λ j l f. absurd (true≢false f);
    inside = omega arith;
  }

  -- the edges out of all nodes in the queue are passed
  module _ {waiting level queue : List ℕ} {tail : ℕ} (S : Settled G tail waiting level queue tail) where
    -- an edge that waits leaves a node for which one waits
    waits_on : (j : ℕ) → j < edges → S.waits j ≡ true → 0 < get_or waiting (get_or G.from j 0) 0
    waits_on j l t = by_cases (ℕ_discrete (get_or waiting (get_or G.from j 0) 0) 0)
        (λ z. let (i, h, q) = S.progress.queued.all (get_or G.from j 0) (G.within.from_in j l) z in absurd (true≢false (sym t ∙ S.passed i j h l (sym q))))
        (λ n. omega arith)

    pub acyclic : G.nodes ≤ tail → Leveled G.nodes edges G.from to true level
    acyclic h = climbs_leveled G.within S.progress.attained (λ j l. S.progress.climbs j l (passes j l (S.waits j) refl))
      where
        passes : (j : ℕ) → j < edges → (b : Bool) → S.waits j ≡ b → b ≡ false
        passes j l false e = refl
        passes j l true e =
            let r = count_full (ready waiting) G.nodes (omega (arith, S.progress.queued.many)) (get_or G.from j 0) (G.within.from_in j l) in
            absurd (omega (arith, waits_on j l e, eqb-true (get_or waiting (get_or G.from j 0) 0) 0 r))

    -- back from a node for which an edge waits to another
    prior : (w : ℕ) → w < G.nodes → 0 < get_or waiting w 0 → (u : ℕ) × (u < G.nodes) × (0 < get_or waiting u 0) × Leads edges G.from to u w
    prior w b h =
        let (j, l, t, _) = count_onto (into S.waits to w) 0 edges (omega (arith, S.progress.waiting_in.counts w (omega (arith, G.within.few_nodes)))) in
        let (o, e) = (and-eq-true_iff _ _).0 t in
        (get_or G.from j 0, G.within.from_in j l, waits_on j l o, record { edge = j; inside = l; source = refl; target = eqb-true _ _ e })

    back : {v : ℕ} → v < G.nodes → 0 < get_or waiting v 0 → (k : ℕ) → (a : ℕ) × (a < G.nodes) × (0 < get_or waiting a 0) × Path (Leads edges G.from to) a v k
    back {v} b h zero = (v, b, h, here)
    back b h (suc k) =
        let (a, c, l, p) = back b h k in
        let (u, d, m, s) = prior a c l in
        (u, d, m, before s p)

    pub cyclic : tail < G.nodes → Leveled G.nodes edges G.from to false flat
    cyclic h =
        let (v, b, f) = count_gap (ready waiting) G.nodes (omega (arith, S.progress.queued.many)) in
        let n = eqb-false (get_or waiting v 0) 0 f in
        let (a, _, _, p) = back b (omega arith) G.nodes in
        circle_leveled G.within (circle G.nodes (source_in G.within) b (omega arith) p)

    -- the answer of `levels`
    pub outcome : then_some (leb G.nodes tail) level ≡ found (levels_of G.nodes edges G.from to)
    outcome = go (leb G.nodes tail) refl
      where
        is : (r : Layering) → Leveled G.nodes edges G.from to r.acyclic r.level → levels_of G.nodes edges G.from to ≡ r
        is = right G.nodes edges G.from to (within_true G.nodes G.from to edges G.within)

        go : (b : Bool) → leb G.nodes tail ≡ b → then_some b level ≡ found (levels_of G.nodes edges G.from to)
        go true e = rw (is (record { acyclic = true; level = level }) (acyclic (leb-true _ _ e))) refl
        go false e = rw (is (record { acyclic = false; level = flat }) (cyclic (leb-false _ _ e))) refl

-- from the lists of a digraph and the first state on
module _ (g : Digraph) (W : Within g.nodes g.edges g.from.now g.to.now) (l : Lists) (C : (l.graph ≡ g) × Chained 0 g.edges g.from.now l.first l.after)
    (s : Sorting) (A : Waiting g.edges g.to.now (λ j. true) s.waiting) (Q : Queued g.nodes s.waiting s.queue s.end) (z : s.level ≡ flat) where
  abbrev listing : Listing l.graph.edges l.graph.to.now l.first l.after
  listing = record { graph = record { nodes = g.nodes; from = g.from.now; within = rw C.0 W }; chained = rw C.0 C.1 }

  first : Settled listing.graph 0 s.waiting s.level s.queue s.end
  first = rw z (start listing.graph (rw C.0 A) Q)

  pub underway : Underway l 0 s
  underway = record { listing = listing; settled = first }

  pub answer : (s' : Sorting) → Onward l 0 s s'.end s' → then_some (leb g.nodes s'.end) s'.level ≡ found (levels_of g.nodes g.edges g.from.now g.to.now)
  answer s' O = rw C.0 at (outcome listing.graph (O listing first))

-- ---- what the code looks at is in its array

pub head_in : {l : Lists} {head : ℕ} {s : Sorting} → Underway l head s → head < s.end → head < 256
head_in U h = omega (arith, tail_in U.settled.progress.queued, U.listing.graph.within.few_nodes)

pub still_underway : {l : Lists} {head : ℕ} {s₀ s : Sorting} → Underway l 0 s₀ → Onward l 0 s₀ head s → Underway l head s
still_underway U O = record { listing = U.listing; settled = O U.listing U.settled }
