-- A walk round one vertex passes the edges out of it. Assumes nothing.
use Rattle.std.proofs.Common.{ℕ, suc, ◌+◌, ◌*◌, ◌/◌, ◌%◌, ◌≤◌, ◌<◌, ◌≡◌, refl, sym, ap, ◌∙◌, ◌≢◌, ◌⊎◌, inl, inr, Bool, true, false, not, true≢false, List, arith, eq-eqb, eqb-true, eqb, get_or, get_or-set_other}
use Rattle.std.proofs.Math.Logic.{by_cases}
use Rattle.std.proofs.lemmas.Bool.{false≢true, eqb-false}
use Rattle.std.proofs.Math.Bool.{beq}
use Rattle.std.proofs.Math.Decide.{ℕ_discrete}
use Rattle.counting.specs.Counts.{count}
use Rattle.counting.specs.Orbits.{iter}
use Rattle.counting.proofs.Counts.{count_le, count_without, count_onto}
use Rattle.orbits.specs.Meaning.{entries}
use Rattle.digraph.specs.declared.Sorting.{Sorting}
use Rattle.rings.specs.declared.Darts.{Darts}
use Rattle.digraph.specs.Inner.{Graph, Settled, Stepped}
use Rattle.digraph.proofs.Waits.{tail_in}
use Rattle.digraph.proofs.Passing.{Turn, begin, step, stay, finish, end_moves}
use Rattle.rings.specs.Inner.{Readable, Round, Placed, head_of, out_of, Underway, PassedOn}
use Rattle.rings.proofs.Rings.{going_in, once, round_all, round_covers}

module _ {darts : ℕ} {at : List ℕ} (P : Placed darts at) where
  abbrev G : Graph P.edges P.to
  G = P.graph

  -- the edge of a dart is one of the graph's
  edge_in : (d : ℕ) → d < darts → d / 2 < P.edges
  edge_in d l = omega (arith, P.twice)

  head_is : (d : ℕ) → d < darts → head_of at d ≡ get_or P.to (d / 2) 0
  head_is d l = let z : d / 2 * 2 + 1 ≡ 2 * (d / 2) + 1 = omega arith in rw z (P.heads_at (d / 2) (edge_in d l))

  pub head_in : (d : ℕ) → d < darts → head_of at d < 128
  head_in d l = omega (arith, head_is d l, G.within.to_in (d / 2) (edge_in d l), P.few)

  pub vertex_in : (d : ℕ) → d < darts → get_or at d 0 < G.nodes
  vertex_in d l = by_cases (ℕ_discrete (d % 2) 0)
      (λ z. let e : d ≡ 2 * (d / 2) = omega arith in omega (arith, ap (λ x. get_or at x 0) e, P.tails_at (d / 2) (edge_in d l), G.within.from_in (d / 2) (edge_in d l)))
      (λ z. let e : d ≡ d / 2 * 2 + 1 = omega arith in omega (arith, ap (λ x. get_or at x 0) e, head_is d l, G.within.to_in (d / 2) (edge_in d l)))

  pub placed_readable : Readable darts at
  placed_readable = record { few = omega (arith, P.twice, G.within.few_edges); at_in = λ d l. omega (arith, vertex_in d l, P.few) }

-- the edges whose tails the walk comes to after `steps` steps or later
abbrev pub Ahead : List ℕ → ℕ → ℕ → ℕ → ℕ → Type 0
Ahead nexts start size steps j = (i : ℕ) × (steps ≤ i) × (i < size) × (iter (entries nexts) i start ≡ 2 * j)

-- the edges out of vertex v, at `head` of the queue, are passed up to the walk's place; the queue has grown
pub record Here {darts : ℕ} {at : List ℕ} (P : Placed darts at) (nexts : List ℕ) (start size steps head v row : ℕ) (s₀ s : Sorting) : Type 0 where
  pub turn : Turn P.graph (Ahead nexts start size steps) head v row s.waiting s.level s.queue s.end
  pub kept : (i : ℕ) → i < s₀.end → get_or s.queue i 0 ≡ get_or s₀.queue i 0
  pub longer : s₀.end ≤ s.end

module _ {darts : ℕ} {at nexts : List ℕ} {start v size : ℕ} (some : 0 < size) (R : Round darts at nexts start v size) (many : size ≡ count (λ d. eqb (get_or at d 0) v) darts) (P : Placed darts at) where
  -- before the first step
  pub walk_begin : {head : ℕ} (s : Sorting) → Settled P.graph head s.waiting s.level s.queue s.end → head < s.end
      → v ≡ get_or s.queue head 0 → (row : ℕ) → row ≡ get_or s.level v 0 → Here P nexts start size 0 head v row s s
  walk_begin s S h ev row er = record {
    turn = begin P.graph S h v ev row er (Ahead nexts start size 0)
        (λ j l e. let (i, b, q) = round_all some R (omega (arith, many)) (2 * j) (omega (arith, P.twice)) (P.tails_at j l ∙ e) in (i, omega arith, b, q))
        (λ j (i, _, b, q). let l : j < P.edges = omega (arith, P.twice, rw q at (R.inside i b)) in (l, sym (P.tails_at j l) ∙ rw q at (R.there i b)));
    kept = λ i l. refl;
    longer = omega arith;
  }

  module _ {steps head row : ℕ} {s₀ s s' : Sorting} (H : Here P nexts start size steps head v row s₀ s)
      (inside : steps < size) (d : ℕ) (place : d ≡ iter (entries nexts) steps start) (S : Stepped (head_of at d) row (out_of d) s s') where
    in_d : d < darts
    in_d = rw place (R.inside steps inside)

    small : s.end < 256
    small = omega (arith, tail_in H.turn.progress.queued, P.few)

    -- the dart is at its edge's tail
    at_tail : d % 2 ≡ 0 → Turn P.graph (Ahead nexts start size (suc steps)) head v row s'.waiting s'.level s'.queue s'.end
    at_tail z = step P.graph S H.turn (Ahead nexts start size (suc steps)) (omega arith) k this (head_is P d in_d) split rest
      where
        k : ℕ
        k = d / 2

        two : d ≡ 2 * k
        two = omega arith

        this : Ahead nexts start size steps k
        this = (steps, omega arith, inside, sym place ∙ two)

        split : (j : ℕ) → Ahead nexts start size steps j → (j ≡ k) ⊎ Ahead nexts start size (suc steps) j
        split j (i, l, b, q) = by_cases (ℕ_discrete i steps)
            (λ e. inl (let same : 2 * j ≡ 2 * k = sym q ∙ ap (λ x. iter (entries nexts) x start) e ∙ sym place ∙ two in omega arith))
            (λ n. inr (i, omega arith, b, q))

        rest : (j : ℕ) → Ahead nexts start size (suc steps) j → Ahead nexts start size steps j × (j ≢ k)
        rest j (i, l, b, q) = ((i, omega arith, b, q), λ e. let o : i ≡ steps = once some R i steps b inside (q ∙ ap (λ x. 2 * x) e ∙ sym two ∙ place) in omega arith)

    -- the dart is at its edge's head
    at_head : d % 2 ≢ 0 → Turn P.graph (Ahead nexts start size (suc steps)) head v row s'.waiting s'.level s'.queue s'.end
    at_head z = stay P.graph S H.turn (Ahead nexts start size (suc steps)) (omega arith) here small still back
      where
        here : head_of at d ≡ v
        here = let e : d / 2 * 2 + 1 ≡ d = omega arith in ap (λ x. get_or at x 0) e ∙ ap (λ x. get_or at x 0) place ∙ R.there steps inside

        still : (j : ℕ) → Ahead nexts start size steps j → Ahead nexts start size (suc steps) j
        still j (i, l, b, q) = (
          i,
          by_cases (ℕ_discrete i steps)
              (λ e. absurd (omega (arith, sym q ∙ ap (λ x. iter (entries nexts) x start) e ∙ sym place)))
              (λ n. omega arith),
          b,
          q,
        )

        back : (j : ℕ) → Ahead nexts start size (suc steps) j → Ahead nexts start size steps j
        back j (i, l, b, q) = (i, omega arith, b, q)

    pub walk_more : {k : ℕ} → k ≡ suc steps → Here P nexts start size k head v row s₀ s'
    walk_more ek = rw ek (record {
      turn = by_cases (ℕ_discrete (d % 2) 0) at_tail at_head;
      kept = λ i l. rw S.queue_is (get_or-set_other s.queue (s.end % 256) i _ 0 (omega (arith, H.longer, small)) ∙ H.kept i l);
      longer = omega (arith, H.longer, end_moves S);
    })

  -- after the last step
  module _ {head row : ℕ} {s₀ s : Sorting} (H : Here P nexts start size size head v row s₀ s) where
    pub walk_end : Settled P.graph (head + 1) s.waiting s.level s.queue s.end
    walk_end = finish P.graph H.turn (λ j (i, l, b, q). omega arith)

-- ---- what the walk is given, and what it leaves

-- of two tests of equality exactly one passes, or both or none do
pub differ : (a b c d : ℕ) → not (beq (eqb a b) (eqb c d)) ≡ true → ((a ≡ b) × (c ≢ d)) ⊎ ((a ≢ b) × (c ≡ d))
differ a b c d = go (eqb a b) (eqb c d) refl refl
  where
    go : (x y : Bool) → eqb a b ≡ x → eqb c d ≡ y → not (beq x y) ≡ true → ((a ≡ b) × (c ≢ d)) ⊎ ((a ≢ b) × (c ≡ d))
    go true true e f q = absurd (false≢true q)
    go true false e f q = inl (eqb-true a b e, eqb-false c d f)
    go false true e f q = inr (eqb-false a b e, eqb-true c d f)
    go false false e f q = absurd (false≢true q)

pub agree : (a b c d : ℕ) → not (beq (eqb a b) (eqb c d)) ≡ false → (a ≡ b → c ≡ d) × (c ≡ d → a ≡ b)
agree a b c d = go (eqb a b) (eqb c d) refl refl
  where
    go : (x y : Bool) → eqb a b ≡ x → eqb c d ≡ y → not (beq x y) ≡ false → (a ≡ b → c ≡ d) × (c ≡ d → a ≡ b)
    go true true e f q = (λ _. eqb-true c d f, λ _. eqb-true a b e)
    go true false e f q = absurd (true≢false q)
    go false true e f q = absurd (true≢false q)
    go false false e f q = (λ z. absurd (eqb-false a b e z), λ z. absurd (eqb-false c d f z))

module _ {r : Darts} {head : ℕ} {s : Sorting} (U : Underway r head s) (h : head < s.end) where
  pub head_small : head < 128
  head_small = omega (arith, tail_in U.settled.progress.queued, U.placed.few)

  pub end_small : s.end ≤ 128
  end_small = omega (arith, tail_in U.settled.progress.queued, U.placed.few)

  pub dart_small : {d : ℕ} → d < r.count → d < 512
  dart_small l = omega (arith, (placed_readable U.placed).few)

  module _ (v : ℕ) (ev : v ≡ get_or s.queue head 0) where
    pub vertex_small : v < 128
    vertex_small = omega (arith, ev, U.settled.progress.queued.node head h, U.placed.few)

    pub level_small : get_or s.level v 0 ≤ 256
    level_small = omega (arith, U.settled.progress.low v, U.placed.graph.within.few_edges)

    module _ (size : ℕ) (ez : size ≡ get_or r.degree v 0) where
      pub size_is : size ≡ count (λ d. eqb (get_or r.at.now d 0) v) r.count
      size_is = ez ∙ U.degrees.counts v vertex_small

      -- no dart is at v
      pub none_passed : size ≡ 0 → PassedOn r head s (head + 1) s
      none_passed none = record {
        onward = λ P S.
            finish P.graph (begin P.graph S h v ev (get_or s.level v 0) refl (λ _. ⊥) (λ j l e. no_dart (2 * j) (omega (arith, P.twice)) (P.tails_at j l ∙ e)) (λ j a. absurd a)) (λ j a. a);
        kept = λ i l. refl;
        longer = omega arith;
        covers = λ i d l m b e. let z : i ≡ head = omega arith in absurd (no_dart d b (e ∙ ap (λ x. get_or s.queue x 0) z ∙ sym ev));
      }
        where
          no_dart : (d : ℕ) → d < r.count → get_or r.at.now d 0 ≡ v → ⊥
          no_dart d l e = omega (arith, size_is, count_without (λ d. eqb (get_or r.at.now d 0) v) r.count d l (eq-eqb _ _ e))

      module _ (some : size ≢ 0) (start : ℕ) (es : start ≡ get_or r.held v 0) where
        pub start_at : (start < r.count) × (get_or r.at.now start 0 ≡ v)
        start_at =
            let (d, l, t, _) = count_onto (λ d. eqb (get_or r.at.now d 0) v) 0 r.count (omega (arith, size_is)) in
            let e = eqb-true _ _ t in
            rw (es, ← e) (U.held_in.some d l)

        -- each step puts at most one vertex in the queue
        pub tail_small : {steps end : ℕ} → steps ≤ size → end ≤ s.end + steps → end ≤ 1024
        tail_small l t = omega (arith, end_small, size_is, count_le (λ d. eqb (get_or r.at.now d 0) v) r.count, (placed_readable U.placed).few)

        -- its ring is walked
        pub ring_passed : Round r.count r.at.now r.nexts.now start v size → {row : ℕ} {s' : Sorting}
            → ((P : Placed r.count r.at.now) → Settled P.graph head s.waiting s.level s.queue s.end → Here P r.nexts.now start size size head v row s s')
            → PassedOn r head s (head + 1) s'
        ring_passed R {s'} walked =
            let H = walked U.placed U.settled in
            let more : 0 < size = omega arith in
            record {
              onward = λ P S. walk_end more R size_is P (walked P S);
              kept = H.kept;
              longer = H.longer;
              covers = λ i d l m b e.
                  let z : i ≡ head = omega arith in
                  let q = e ∙ ap (λ x. get_or s'.queue x 0) z ∙ H.kept head h ∙ sym ev in
                  round_covers more R r.held es d q (round_all more R (omega (arith, size_is)) d b q);
            }

-- ---- from vertex to vertex

pub still_underway : {r : Darts} {s₀ s : Sorting} {head : ℕ} → Underway r 0 s₀ → PassedOn r 0 s₀ head s → Underway r head s
still_underway U P = record { placed = U.placed; settled = P.onward U.placed U.settled; held_in = U.held_in; degrees = U.degrees }

pub none_yet : {r : Darts} {s : Sorting} → PassedOn r 0 s 0 s
none_yet = record { onward = λ P S. S; kept = λ i l. refl; longer = omega arith; covers = λ i d l m. absurd (omega arith) }

pub one_more : {r : Darts} {s₀ s s' : Sorting} {head : ℕ} → PassedOn r 0 s₀ head s → head < s.end → PassedOn r head s (head + 1) s' → PassedOn r 0 s₀ (head + 1) s'
one_more {head} A h B = record {
  onward = λ P S. B.onward P (A.onward P S);
  kept = λ i l. B.kept i (omega (arith, A.longer)) ∙ A.kept i l;
  longer = omega (arith, A.longer, B.longer);
  covers = λ i d l m b e. by_cases (ℕ_discrete i head)
      (λ z. B.covers i d (omega arith) m b e)
      (λ z. A.covers i d l (omega arith) b (e ∙ B.kept i (omega arith)));
}

-- what is looked at is in its array
pub ruleset places = (vertex_small, dart_small, going_in)
