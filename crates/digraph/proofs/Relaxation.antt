-- What `levels_of` means: the greatest lengths of paths, or a circle. Assumes nothing.
use Rattle.std.proofs.Common.{◌≡◌, refl, sym, ap, ◌∙◌, Bool, true, false, not, ◌&&◌, true≢false, List, ℕ, zero, suc, ◌≤◌, ◌<◌, arith, get_or, set, length, length-set, ext_get_or, Some, None, is_none, unwrap_or}
use Rattle.std.proofs.Math.Logic.{by_cases}
use Rattle.std.proofs.lemmas.Bool.{false≢true}
use Rattle.std.proofs.Math.Decide.{ℕ_discrete, dec_lt}
use Rattle.counting.specs.Paths.{Path, Circle}
use Rattle.counting.specs.Paths.Path.{here, more}
use Rattle.counting.proofs.Paths.{append, circle}
use Rattle.digraph.specs.Digraph.{Layering}
use Rattle.digraph.specs.Digraph.{Leads, Within, Leveled, flat}
use Rattle.digraph.specs.Relaxed.{higher_of, raised, relaxed, rounds, climbs, answer, within_of, found, levels_of, LevelsMean}
use Rattle.std.specs.Bool.{then_some}
use Rattle.digraph.specs.Inner.{Attained}
use Rattle.counting.proofs.Stores.{Stored, stored, replicate_at}
use Rattle.counting.proofs.Stores.Stored.{here as same, apart as other}
use Rattle.digraph.proofs.Tests.{within_is, within_true, Climbs, climbs_all, climbs_not}

pub flat_size : length flat ≡ 256
unfolding flat
flat_size = refl

pub flat_at : (v : ℕ) → get_or flat v 0 ≡ 0
unfolding flat
flat_at v = replicate_at 0 256 v

-- ---- one edge

module _ (level : List ℕ) (u v : ℕ) (h : v < length level) where
  raised_view : (w : ℕ) → Stored level v (higher_of (get_or level v 0) (get_or level u 0)) w 0
  raised_view w = stored level v _ w 0 h

  pub raised_kept : (w : ℕ) → get_or level w 0 ≤ get_or (raised level u v) w 0
  unfolding raised
  raised_kept w = go (raised_view w)
    where
      go : Stored level v (higher_of (get_or level v 0) (get_or level u 0)) w 0 → get_or level w 0 ≤ get_or (set level v (higher_of (get_or level v 0) (get_or level u 0))) w 0
      go (same e q) = omega (arith, q, ap (λ x. get_or level x 0) e)
      go (other n q) = omega arith

  pub raised_above : get_or level u 0 < get_or (raised level u v) v 0
  unfolding raised
  raised_above = go (raised_view v)
    where
      go : Stored level v (higher_of (get_or level v 0) (get_or level u 0)) v 0 → get_or level u 0 < get_or (set level v (higher_of (get_or level v 0) (get_or level u 0))) v 0
      go (same e q) = omega arith
      go (other n q) = absurd (n refl)

-- ---- rounds

module _ {nodes edges : ℕ} {from to : List ℕ} (W : Within nodes edges from to) where
  pub flat_attained : Attained nodes edges from to flat
  flat_attained = record { size = flat_size; path = λ v. (v, rw (flat_at v) here); rest = λ v _. flat_at v }

  target_in : (level : List ℕ) → Attained nodes edges from to level → (k : ℕ) → k < edges → get_or to k 0 < length level
  target_in level s k l = omega (arith, s.size, W.few_nodes, W.to_in k l)

  pub raised_attained : (level : List ℕ) (k : ℕ) → k < edges → Attained nodes edges from to level → Attained nodes edges from to (raised level (get_or from k 0) (get_or to k 0))
  unfolding raised
  raised_attained level k l s = record {
    size = length-set level (get_or to k 0) _ ∙ s.size;
    path = λ v. reach v (view v);
    rest = λ v h. past v h (view v);
  }
    where
      new : ℕ
      new = higher_of (get_or level (get_or to k 0) 0) (get_or level (get_or from k 0) 0)

      view : (v : ℕ) → Stored level (get_or to k 0) new v 0
      view v = stored level (get_or to k 0) new v 0 (target_in level s k l)

      reach : (v : ℕ) → Stored level (get_or to k 0) new v 0 → (a : ℕ) × Path (Leads edges from to) a v (get_or (set level (get_or to k 0) new) v 0)
      reach v (same e q) =
          by_cases (dec_lt (get_or level (get_or from k 0) 0) (get_or level (get_or to k 0) 0))
          (λ b. let (a, p) = s.path v in
          let m : get_or (set level (get_or to k 0) new) v 0 ≡ get_or level v 0 = omega (arith, q, ap (λ x. get_or level x 0) e) in
          (a, rw m p))
          (λ b. let (a, p) = s.path (get_or from k 0) in
          let m : get_or (set level (get_or to k 0) new) v 0 ≡ suc (get_or level (get_or from k 0) 0) = omega (arith, q) in
          (a, rw m (more p (record { edge = k; inside = l; source = refl; target = sym e }))))
      reach v (other n q) = let (a, p) = s.path v in (a, rw q p)

      past : (v : ℕ) → nodes ≤ v → Stored level (get_or to k 0) new v 0 → get_or (set level (get_or to k 0) new) v 0 ≡ 0
      past v h (same e q) = absurd (omega (arith, W.to_in k l))
      past v h (other n q) = q ∙ s.rest v h

  -- the first k edges in one round
  module _ (level : List ℕ) (S : Attained nodes edges from to level) where
    relaxed_attained : (k : ℕ) → k ≤ edges → Attained nodes edges from to (relaxed k from to level)
    unfolding relaxed
    relaxed_attained zero l = S
    relaxed_attained (suc k) l = raised_attained (relaxed k from to level) k (omega arith) (relaxed_attained k (omega arith))

    relaxed_kept : (k : ℕ) → k ≤ edges → (v : ℕ) → get_or level v 0 ≤ get_or (relaxed k from to level) v 0
    unfolding relaxed
    relaxed_kept zero l v = omega arith
    relaxed_kept (suc k) l v =
        omega (
          arith,
          relaxed_kept k (omega arith) v,
          raised_kept (relaxed k from to level) (get_or from k 0) (get_or to k 0) (target_in _ (relaxed_attained k (omega arith)) k (omega arith)) v,
        )

    relaxed_above : (k : ℕ) → k ≤ edges → (j : ℕ) → j < k → get_or level (get_or from j 0) 0 < get_or (relaxed k from to level) (get_or to j 0) 0
    unfolding relaxed
    relaxed_above zero l j b = absurd (omega arith)
    relaxed_above (suc k) l j b = go (ℕ_discrete j k) (relaxed_above k (omega arith) j)
      where
        fine : get_or to k 0 < length (relaxed k from to level)
        fine = target_in _ (relaxed_attained k (omega arith)) k (omega arith)

        go : Dec (j ≡ k) → (j < k → get_or level (get_or from j 0) 0 < get_or (relaxed k from to level) (get_or to j 0) 0)
            → get_or level (get_or from j 0) 0 < get_or (raised (relaxed k from to level) (get_or from k 0) (get_or to k 0)) (get_or to j 0) 0
        go (yes e) _ = rw e (omega (arith, relaxed_kept k (omega arith) (get_or from k 0), raised_above (relaxed k from to level) (get_or from k 0) (get_or to k 0) fine))
        go (no n) ih = omega (arith, ih (omega arith), raised_kept (relaxed k from to level) (get_or from k 0) (get_or to k 0) fine (get_or to j 0))

  rounds_attained : (i : ℕ) → Attained nodes edges from to (rounds i edges from to)
  unfolding rounds
  rounds_attained zero = flat_attained
  rounds_attained (suc i) = relaxed_attained (rounds i edges from to) (rounds_attained i) edges (omega arith)

  -- after i rounds no path of at most i edges is longer than its end's level
  rounds_upto : {a : ℕ} (i : ℕ) {v k : ℕ} → k ≤ i → Path (Leads edges from to) a v k → k ≤ get_or (rounds i edges from to) v 0
  unfolding rounds
  rounds_upto i l here = omega arith
  rounds_upto zero l (more p s) = absurd (omega arith)
  rounds_upto (suc i) l (more p s) =
      let ih = rounds_upto i (omega arith) p in
      omega (arith, rw (s.source, s.target) at (relaxed_above (rounds i edges from to) (rounds_attained i) edges (omega arith) s.edge s.inside))

  -- where every edge climbs, no path is longer than its end's level
  module _ {level : List ℕ} (S : Attained nodes edges from to level) (climb : (j : ℕ) → j < edges → Climbs from to level j) where
    climbed : {a v k : ℕ} → Path (Leads edges from to) a v k → k ≤ get_or level v 0
    climbed here = omega arith
    climbed (more p s) = let ih = climbed p in omega (arith, rw (s.source, s.target) at (climb s.edge s.inside))

    pub climbs_leveled : Leveled nodes edges from to true level
    climbs_leveled = record {
      size = S.size;
      deepest = λ _ v h. let (a, p) = S.path v in record { start = a; path = p; most = λ b j q. climbed q };
      rest = S.rest;
      circle = λ f. absurd (true≢false f);
    }

  pub circle_leveled : Circle (Leads edges from to) → Leveled nodes edges from to false flat
  circle_leveled c = record {
    size = flat_size;
    deepest = λ t. absurd (false≢true t);
    rest = λ v _. flat_at v;
    circle = λ _. (c, refl);
  }

  -- as many rounds as nodes
  abbrev final : List ℕ
  final = rounds nodes edges from to

  pub source_in : (u v : ℕ) → Leads edges from to u v → u < nodes
  source_in u v s = rw s.source at (W.from_in s.edge s.inside)

  -- an edge that does not climb ends a path of as many edges as nodes
  unsettled : (j : ℕ) → j < edges → get_or final (get_or to j 0) 0 ≤ get_or final (get_or from j 0) 0 → Circle (Leads edges from to)
  unsettled j l h =
      let (a, p) = (rounds_attained nodes).path (get_or from j 0) in
      let q : Path (Leads edges from to) a (get_or to j 0) (suc (get_or final (get_or from j 0) 0)) = more p (record { edge = j; inside = l; source = refl; target = refl }) in
      by_cases (dec_lt (get_or final (get_or from j 0) 0) nodes)
      (λ b. absurd (omega (arith, rounds_upto nodes b q)))
      (λ b. circle nodes source_in (W.to_in j l) (omega arith) q)

  leveled : (b : Bool) → climbs edges from to final ≡ b → Leveled nodes edges from to (answer b final).acyclic (answer b final).level
  unfolding answer
  leveled true t = climbs_leveled (rounds_attained nodes) (climbs_all from to final edges t)
  leveled false f = let (j, l, h) = climbs_not from to final edges f in circle_leveled (unsettled j l h)

pub levels_mean : LevelsMean
unfolding levels_of
levels_mean nodes edges from to W = rw (within_true nodes from to edges W) (leveled W (climbs edges from to (rounds nodes edges from to)) refl)

-- ---- the meaning says it all

module _ {nodes edges : ℕ} {from to : List ℕ} (W : Within nodes edges from to) where
  end_in : {a v k : ℕ} → Path (Leads edges from to) a v (suc k) → v < nodes
  end_in (more p s) = rw s.target at (W.to_in s.edge s.inside)

  -- a circle would make paths longer than any level
  pub no_circle : {acyclic : Bool} {level : List ℕ} → acyclic ≡ true → Leveled nodes edges from to acyclic level → ¬ Circle (Leads edges from to)
  no_circle t L c =
      let D = L.deepest t c.at (end_in c.round) in
      omega (arith, D.most D.start _ (append D.path c.round))

  pub unique : (a b : Bool) {l m : List ℕ} → Leveled nodes edges from to a l → Leveled nodes edges from to b m → (a ≡ b) × (l ≡ m)
  unique true true {l} {m} L M = (refl, ext_get_or 0 l m (L.size ∙ sym M.size) (λ v _. by_cases (dec_lt v nodes) (at_node v) (λ h. L.rest v (omega arith) ∙ sym (M.rest v (omega arith)))))
    where
      at_node : (v : ℕ) → v < nodes → get_or l v 0 ≡ get_or m v 0
      at_node v h =
          let D = L.deepest refl v h in
          let E = M.deepest refl v h in
          omega (arith, D.most E.start _ E.path, E.most D.start _ D.path)
  unique true false L M = absurd (no_circle refl L (M.circle refl).0)
  unique false true L M = absurd (no_circle refl M (L.circle refl).0)
  unique false false L M = (refl, (L.circle refl).1 ∙ sym (M.circle refl).1)

-- ---- the answers of `levels`

same_layering : (x y : Layering) → x.acyclic ≡ y.acyclic → x.level ≡ y.level → x ≡ y
same_layering x y p q = λ i. record { acyclic = p i; level = q i }

module _ (nodes edges : ℕ) (from to : List ℕ) where
  pub outside : within_of nodes edges from to ≡ false → levels_of nodes edges from to ≡ record { acyclic = false; level = flat }
  unfolding levels_of answer
  outside f = rw f refl

  pub right : within_of nodes edges from to ≡ true → (r : Layering) → Leveled nodes edges from to r.acyclic r.level → levels_of nodes edges from to ≡ r
  right t r L =
      let W = within_is nodes from to edges t in
      let (p, q) = unique W _ _ (levels_mean nodes edges from to W) L in
      same_layering (levels_of nodes edges from to) r p q

-- none is found where there is a circle, and else the levels
pub found_none : (l : Layering) → None ≡ found l → l.acyclic ≡ false
found_none l e = go l.acyclic refl
  where
    go : (b : Bool) → l.acyclic ≡ b → b ≡ false
    go true t = let q = rw t at e in cc
    go false f = refl

pub found_some : (l : Layering) (level : List ℕ) → Some level ≡ found l → (l.acyclic ≡ true) × (level ≡ l.level)
found_some l level e = go l.acyclic refl
  where
    go : (b : Bool) → l.acyclic ≡ b → (b ≡ true) × (level ≡ l.level)
    go true t = let q = rw t at e in (refl, cc)
    go false f = let q = rw f at e in (cc, cc)

pub is_none_found : (l : Layering) → is_none (found l) ≡ not l.acyclic
is_none_found l = go l.acyclic
  where
    go : (b : Bool) → is_none (then_some b l.level) ≡ not b
    go true = refl
    go false = refl

-- and no levels where there is a circle
pub levels_or_flat : (nodes edges : ℕ) (from to : List ℕ) → unwrap_or (found (levels_of nodes edges from to)) flat ≡ (levels_of nodes edges from to).level
unfolding levels_of answer
levels_or_flat nodes edges from to = go (within_of nodes edges from to && climbs edges from to (rounds nodes edges from to)) (rounds nodes edges from to)
  where
    go : (b : Bool) (level : List ℕ) → unwrap_or (found (answer b level)) flat ≡ (answer b level).level
    go true level = refl
    go false level = refl
