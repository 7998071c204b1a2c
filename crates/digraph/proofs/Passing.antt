-- The edges out of one node are passed. Assumes nothing.
use Rattle.std.proofs.Common.{◌≡◌, refl, sym, ap, ◌∙◌, ◌≢◌, ◌⊎◌, inl, inr, ⊎_elim, Bool, true, false, List, ℕ, suc, ◌+◌, ◌-◌, ◌%◌, ◌≤◌, ◌<◌, max, arith, add-one, eqb, ltb, eq-eqb, ne_eqb, lt-ltb, le-ltb, get_or, set, length, get_or-set_other}
use Rattle.std.proofs.Math.Logic.{by_cases}
use Rattle.std.proofs.Math.Decide.{ℕ_discrete}
use Rattle.std.proofs.Math.Seq.{set-get_or}
use Rattle.counting.specs.Counts.{bit, count}
use Rattle.counting.proofs.Counts.{without, without_same, without_other, count_without, bit_most}
use Rattle.counting.proofs.Stores.{Stored, stored}
use Rattle.counting.proofs.Stores.Stored.{here as same, apart as other}
use Rattle.digraph.specs.Relaxed.{higher_of, raised}
use Rattle.digraph.specs.Inner.{Queued, Graph, Progress, Settled, Stepped}
use Rattle.digraph.specs.declared.Sorting.{Sorting}
use Rattle.digraph.proofs.Relaxation.{raised_kept, raised_above, raised_attained}
use Rattle.digraph.proofs.Waits.{some, waiting_less, once, room, queue_past, queue_passed, earlier}

-- what fails `without p k` is k, or fails p
without_false : (p : ℕ → Bool) (k j : ℕ) → without p k j ≡ false → (j ≡ k) ⊎ (p j ≡ false)
without_false p k j f = by_cases (ℕ_discrete j k) inl (λ n. inr (sym (without_other p n) ∙ f))

without_kept : (p : ℕ → Bool) (k j : ℕ) → p j ≡ false → without p k j ≡ false
without_kept p k j f = by_cases (ℕ_discrete j k) (λ e. rw e (without_same p k)) (λ n. without_other p n ∙ f)

module _ {edges : ℕ} {to : List ℕ} (G : Graph edges to) where
  -- ---- one edge

  module _ {waits : ℕ → Bool} {waiting level queue : List ℕ} {tail : ℕ} (P : Progress G waits waiting level queue tail)
      (started : (j : ℕ) → j < edges → waits j ≡ false → get_or waiting (get_or G.from j 0) 0 ≡ 0)
      (k : ℕ) (in_k : k < edges) (unpassed : waits k ≡ true) (v : ℕ) (ev : get_or G.from k 0 ≡ v) (done : get_or waiting v 0 ≡ 0)
      (w : ℕ) (ew : w ≡ get_or to k 0) where
    in_w : w < G.nodes
    in_w = omega (arith, G.within.to_in k in_k)

    below_w : w < 256
    below_w = omega (arith, in_w, G.within.few_nodes)

    pub waited : 0 < get_or waiting w 0
    waited = some edges to waits k in_k unpassed P.waiting_in w ew below_w

    -- w is raised above v
    abbrev level' : List ℕ
    level' = set level w (higher_of (get_or level w 0) (get_or level v 0))

    abbrev waiting' : List ℕ
    waiting' = set waiting w (get_or waiting w 0 - 1)

    size_level : w < length level
    size_level = omega (arith, below_w, P.attained.size)

    -- a node for which no edge waits keeps its level
    pub keeps : (u : ℕ) → get_or waiting u 0 ≡ 0 → get_or level' u 0 ≡ get_or level u 0
    keeps u z = get_or-set_other level w u _ 0 (λ e. omega (arith, waited, ap (λ x. get_or waiting x 0) e))

    climb : (j : ℕ) → j < edges → without waits k j ≡ false → get_or level' (get_or G.from j 0) 0 < get_or level' (get_or to j 0) 0
    unfolding raised
    climb j h f = ⊎_elim now before (without_false waits k j f)
      where
        now : j ≡ k → get_or level' (get_or G.from j 0) 0 < get_or level' (get_or to j 0) 0
        now e = rw (e, ev, ← ew) (omega (arith, keeps v done, raised_above level v w size_level))

        before : waits j ≡ false → get_or level' (get_or G.from j 0) 0 < get_or level' (get_or to j 0) 0
        before g = omega (arith, keeps (get_or G.from j 0) (started j h g), P.climbs j h g, raised_kept level v w size_level (get_or to j 0))

    fewer : count waits edges ≡ suc (count (without waits k) edges)
    fewer = count_without waits edges k in_k unpassed

    low : (u : ℕ) → get_or level' u 0 + count (without waits k) edges ≤ edges
    low u = go (stored level w _ u 0 size_level)
      where
        go : Stored level w (higher_of (get_or level w 0) (get_or level v 0)) u 0 → get_or level' u 0 + count (without waits k) edges ≤ edges
        go (same p q) = omega (arith, q, fewer, P.low w, P.low v)
        go (other n q) = omega (arith, q, fewer, P.low u)

    pub pass_edge : {queue' : List ℕ} {tail' : ℕ} → Queued G.nodes waiting' queue' tail' → Progress G (without waits k) waiting' level' queue' tail'
    unfolding raised
    pass_edge Q = record {
      waiting_in = waiting_less edges to waits k in_k unpassed P.waiting_in w ew below_w;
      queued = Q;
      attained = rw (ev, ← ew) at (raised_attained G.within level k in_k P.attained);
      climbs = climb;
      low = low;
    }

  -- ---- the edges out of v, the node at `head` of the queue

  -- of the edges out of v those ahead are still to be passed
  pub record Turn (Ahead : ℕ → Type 0) (head v d : ℕ) (waiting level queue : List ℕ) (tail : ℕ) : Type 0 where
    pub waits : ℕ → Bool
    pub progress : Progress G waits waiting level queue tail
    pub passed : (i j : ℕ) → i < head → j < edges → get_or G.from j 0 ≡ get_or queue i 0 → waits j ≡ false
    pub left : (j : ℕ) → j < edges → waits j ≡ false → (i : ℕ) × (i ≤ head) × (get_or queue i 0 ≡ get_or G.from j 0)
    pub mine : (j : ℕ) → j < edges → get_or G.from j 0 ≡ v → Ahead j ⊎ (waits j ≡ false)
    pub ahead : (j : ℕ) → Ahead j → (j < edges) × (get_or G.from j 0 ≡ v) × (waits j ≡ true)
    pub node : get_or queue head 0 ≡ v
    pub value : get_or level v 0 ≡ d
    pub inside : head < tail

  pub begin : {head : ℕ} {waiting level queue : List ℕ} {tail : ℕ} → Settled G head waiting level queue tail → head < tail
      → (v : ℕ) → v ≡ get_or queue head 0 → (d : ℕ) → d ≡ get_or level v 0
      → (Ahead : ℕ → Type 0) → ((j : ℕ) → j < edges → get_or G.from j 0 ≡ v → Ahead j) → ((j : ℕ) → Ahead j → (j < edges) × (get_or G.from j 0 ≡ v))
      → Turn Ahead head v d waiting level queue tail
  begin {head} {queue} {tail} S h v ev d ed Ahead all only = record {
    waits = S.waits;
    progress = S.progress;
    passed = S.passed;
    left = λ j l f. let (i, b, q) = S.left j l f in (i, omega arith, q);
    mine = λ j l e. inl (all j l e);
    ahead = λ j a. let (l, e) = only j a in (l, e, unpassed j l e (S.waits j) refl);
    node = sym ev;
    value = sym ed;
    inside = h;
  }
    where
      -- v stands at one place in the queue, so no edge out of it is passed
      unpassed : (j : ℕ) → j < edges → get_or G.from j 0 ≡ v → (b : Bool) → S.waits j ≡ b → b ≡ true
      unpassed j l e true q = refl
      unpassed j l e false q =
          let (i, b, p) = S.left j l q in
          absurd (omega (arith, once S.progress.queued i head (omega arith) h (p ∙ e ∙ ev)))

  module _ {Ahead : ℕ → Type 0} {head v d : ℕ} {waiting level queue : List ℕ} {tail : ℕ} (T : Turn Ahead head v d waiting level queue tail) where
    done : get_or waiting v 0 ≡ 0
    done = rw T.node at (T.progress.queued.none head T.inside)

    started : (j : ℕ) → j < edges → T.waits j ≡ false → get_or waiting (get_or G.from j 0) 0 ≡ 0
    started j l f = let (i, b, q) = T.left j l f in rw q at (T.progress.queued.none i (omega (arith, T.inside)))

    -- the level fits
    pub low_level : d ≤ edges
    low_level = omega (arith, T.value, T.progress.low v)

    -- edge k is passed
    module _ (k : ℕ) (a : Ahead k) (w : ℕ) (ew : w ≡ get_or to k 0) where
      this : (k < edges) × (get_or G.from k 0 ≡ v) × (T.waits k ≡ true)
      this = T.ahead k a

      pub edge_waits : 0 < get_or waiting w 0
      edge_waits = waited T.progress started k this.0 this.2 v this.1 done w ew

      pub end_in : w < G.nodes
      end_in = omega (arith, G.within.to_in k this.0)

      pub end_room : tail < 256
      end_room = room T.progress.queued G.within.few_nodes T.progress.waiting_in.size w end_in edge_waits

      module _ (level' : List ℕ) (el : level' ≡ set level w (max (get_or level w 0) (d + 1)))
          (Ahead' : ℕ → Type 0) (split : (j : ℕ) → Ahead j → (j ≡ k) ⊎ Ahead' j) (rest : (j : ℕ) → Ahead' j → Ahead j × (j ≢ k)) where
        raised_is : level' ≡ set level w (higher_of (get_or level w 0) (get_or level v 0))
        raised_is = rw (T.value, ← add-one d) el

        turn : {queue' : List ℕ} {tail' : ℕ} → Queued G.nodes (set waiting w (get_or waiting w 0 - 1)) queue' tail'
            → ((i : ℕ) → i < tail → get_or queue' i 0 ≡ get_or queue i 0) → tail ≤ tail'
            → Turn Ahead' head v d (set waiting w (get_or waiting w 0 - 1)) level' queue' tail'
        turn Q start longer = record {
          waits = without T.waits k;
          progress = rw raised_is (pass_edge T.progress started k this.0 this.2 v this.1 done w ew Q);
          passed = λ i j h l e. without_kept T.waits k j (T.passed i j h l (e ∙ start i (omega (arith, T.inside))));
          left = λ j l f. ⊎_elim
              (λ e. (head, omega arith, start head T.inside ∙ T.node ∙ sym this.1 ∙ ap (λ x. get_or G.from x 0) (sym e)))
              (λ g. let (i, b, q) = T.left j l g in (i, b, start i (omega (arith, T.inside)) ∙ q))
              (without_false T.waits k j f);
          mine = λ j l e. ⊎_elim
              (λ b. ⊎_elim (λ q. inr (rw q (without_same T.waits k))) inl (split j b))
              (λ f. inr (without_kept T.waits k j f))
              (T.mine j l e);
          ahead = λ j b. let (o, n) = rest j b in let (l, e, t) = T.ahead j o in (l, e, without_other T.waits n ∙ t);
          node = start head T.inside ∙ T.node;
          value = rw raised_is (keeps T.progress started k this.0 this.2 v this.1 done w ew v done) ∙ T.value;
          inside = omega (arith, T.inside);
        }

        next : (t : ℕ) → t ≡ bit (eqb (get_or waiting w 0 - 1) 0) → Turn Ahead' head v d (set waiting w (get_or waiting w 0 - 1)) level' (set queue tail w) (tail + t)
        next t e =
            turn (queue_passed T.progress.queued G.within.few_nodes T.progress.waiting_in.size w end_in edge_waits t e)
            (earlier queue tail w) (omega arith)

    -- no edge is passed, and something is stored past the queue's end
    skip : (Ahead' : ℕ → Type 0) → ((j : ℕ) → Ahead j → Ahead' j) → ((j : ℕ) → Ahead' j → Ahead j) → (x : ℕ) → Turn Ahead' head v d waiting level (set queue tail x) tail
    skip Ahead' still back x = record {
      waits = T.waits;
      progress = record { waiting_in = P.waiting_in; queued = queue_past P.queued x; attained = P.attained; climbs = P.climbs; low = P.low };
      passed = λ i j h l e. T.passed i j h l (e ∙ earlier queue tail x i (omega (arith, T.inside)));
      left = λ j l f. let (i, b, q) = T.left j l f in (i, b, earlier queue tail x i (omega (arith, T.inside)) ∙ q);
      mine = λ j l e. ⊎_elim (λ a. inl (still j a)) inr (T.mine j l e);
      ahead = λ j a. T.ahead j (back j a);
      node = earlier queue tail x head T.inside ∙ T.node;
      value = T.value;
      inside = T.inside;
    }
      where
        P : Progress G T.waits waiting level queue tail
        P = T.progress

    -- the edges out of v are passed
    pub finish : ((j : ℕ) → Ahead j → ⊥) → Settled G (head + 1) waiting level queue tail
    finish none = record {
      waits = T.waits;
      progress = T.progress;
      passed = λ i j h b e. by_cases (ℕ_discrete i head)
          (λ q. ⊎_elim (λ a. absurd (none j a)) (λ f. f) (T.mine j b (e ∙ ap (λ x. get_or queue x 0) q ∙ T.node)))
          (λ q. T.passed i j (omega arith) b e);
      left = λ j b f. let (i, h, q) = T.left j b f in (i, omega arith, q);
      inside = omega (arith, T.inside);
    }

  -- ---- the same as the code does it

  module _ {Ahead : ℕ → Type 0} {head v d w out : ℕ} {s s' : Sorting} (S : Stepped w d out s s') (T : Turn Ahead head v d s.waiting s.level s.queue s.end) (Ahead' : ℕ → Type 0) where
    -- an edge to w is passed
    pub step : out ≡ 1 → (k : ℕ) → Ahead k → w ≡ get_or to k 0
        → ((j : ℕ) → Ahead j → (j ≡ k) ⊎ Ahead' j) → ((j : ℕ) → Ahead' j → Ahead j × (j ≢ k)) → Turn Ahead' head v d s'.waiting s'.level s'.queue s'.end
    step one k a ew split rest = rw (rw one at S.waiting_is, queue_is, end_is) (next T k a w ew s'.level (rw one at S.level_is) Ahead' split rest _ refl)
      where
        queue_is : s'.queue ≡ set s.queue s.end w
        queue_is = let z : s.end % 256 ≡ s.end = omega (arith, end_room T k a w ew) in rw z at S.queue_is

        zero_test : (x : ℕ) → ltb x 1 ≡ eqb x 0
        zero_test x = by_cases (ℕ_discrete x 0) (λ e. lt-ltb x 1 (omega arith) ∙ sym (eq-eqb x 0 e)) (λ n. le-ltb x 1 (omega arith) ∙ sym (ne_eqb x 0 n))

        end_is : s'.end ≡ s.end + bit (eqb (get_or s.waiting w 0 - 1) 0)
        end_is = rw one at S.end_is ∙ ap (λ b. s.end + bit b) (zero_test (get_or s.waiting w 0 - 1))

    -- none is passed
    pub stay : out ≡ 0 → w ≡ v → s.end < 256 → ((j : ℕ) → Ahead j → Ahead' j) → ((j : ℕ) → Ahead' j → Ahead j) → Turn Ahead' head v d s'.waiting s'.level s'.queue s'.end
    stay none here small still back = rw (waiting_is, level_is, queue_is, end_is) (skip T Ahead' still back w)
      where
        waiting_is : s'.waiting ≡ s.waiting
        waiting_is = let e : get_or s.waiting w 0 - out ≡ get_or s.waiting w 0 = omega arith in rw e at S.waiting_is ∙ set-get_or s.waiting w 0

        level_is : s'.level ≡ s.level
        level_is = let e : max (get_or s.level w 0) (d + out) ≡ get_or s.level w 0 = omega (arith, ap (λ x. get_or s.level x 0) here, T.value) in rw e at S.level_is ∙ set-get_or s.level w 0

        queue_is : s'.queue ≡ set s.queue s.end w
        queue_is = let z : s.end % 256 ≡ s.end = omega arith in rw z at S.queue_is

        end_is : s'.end ≡ s.end
        end_is = omega (arith, S.end_is, ap bit (le-ltb (get_or s.waiting w 0 - out) out (omega arith)))

-- the queue's end moves on by one at most
pub end_moves : {w row out : ℕ} {s s' : Sorting} → Stepped w row out s s' → (s.end ≤ s'.end) × (s'.end ≤ s.end + 1)
end_moves {w} {out} {s} S = omega (arith, S.end_is, bit_most (ltb (get_or s.waiting w 0 - out) out))
