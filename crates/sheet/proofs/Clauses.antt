-- Each clause of soundness over the arrays; what the answer is by them. Assumes nothing.
use Rattle.std.proofs.Common.{Result, Ok, Err, is_ok, ℕ, ◌+◌, ◌*◌, ◌≤◌, ◌<◌, ◌≡◌, refl, sym, ap, ◌∙◌, ◌≢◌, Bool, true, false, ◌&&◌, ◌||◌, cond, true≢false, List, arith, leb-true, eq-eqb, ne_eqb, eqb, ltb, leb, get_or, Option, Some, None, ok_or}
use Rattle.std.proofs.Math.Bool.{and-eq-true_iff, or-and_distrib_left}
use Rattle.counting.specs.Below.{all_below}
use Rattle.counting.proofs.Iterate.{by_bool}
use Rattle.orbits.specs.declared.Traced.{Traced}
use Rattle.orbits.specs.Tables.{traced}
use Rattle.orbits.proofs.Numbering.{count_law}
use Rattle.digraph.specs.Digraph.{Within}
use Rattle.digraph.specs.Relaxed.{within_of, climbs, rounds, answer, found, levels_of}
use Rattle.digraph.proofs.Relaxation.{found_none, found_some}
use Rattle.digraph.proofs.Tests.{within_is}
use Rattle.clauses.specs.declared.Sheet.{Sheet}
use Rattle.answers.specs.declared.Refusal.{Refusal}
use Rattle.answers.specs.declared.Refusal.TheVariants.{BadRoot, NotPlanar, NotSound}
use Rattle.sheet.specs.declared.Findings.{Findings}
use Rattle.answers.specs.Answers.{Answer}
use Rattle.answers.specs.Refusals.{first, answering}
use Rattle.sheet.specs.Darts.{tail, head, darts}
use Rattle.sheet.specs.Check.{within_limits, joined, in_rings, unused_zero, rooted, row_levels, acyclic, incoming, outgoing, poles, face_table, planar, sound, judge_by}
use Rattle.sheet.specs.Inner.{findings_in, bounded, faced_of, judged_of, findings_of}
use Rattle.clauses.proofs.Below.{dart_at_law}
use Rattle.clauses.proofs.Touching.{joins_means}
use Rattle.digraph.specs.Inner.{Ends}
use Rattle.clauses.specs.Inner.{limits_of, joins_at, zero_at, unused_of, dart_table, walk_of, end_of, pole_at, poles_of, rooted_of}
use Rattle.rings.specs.Inner.{rings_of, ring_levels}
use Rattle.sheet.specs.Darts.{sheet_of}
use Rattle.counting.proofs.Below.{all_at, all_agree, all_both}
use Rattle.sheet.proofs.Rings.{rings_are}

unused_is : (s : Sheet) → unused_zero s ≡ unused_of s.edges s.tails s.heads s.nexts
unfolding unused_zero unused_of zero_at
unused_is s =
    rw (
      all_agree (λ k. ltb k s.edges || (eqb (tail s k) 0 && eqb (head s k) 0)) (λ k. (ltb k s.edges || eqb (tail s k) 0) && (ltb k s.edges || eqb (head s k) 0)) 256
          (λ k l. or-and_distrib_left (ltb k s.edges) (eqb (tail s k) 0) (eqb (head s k) 0)),
      all_both (λ k. ltb k s.edges || eqb (tail s k) 0) (λ k. ltb k s.edges || eqb (head s k) 0) 256,
    ) refl

pub bounded_is : (s : Sheet) → bounded s
    ≡ (limits_of s.vertices s.edges && all_below (joins_at s.vertices s.tails s.heads) s.edges && unused_of s.edges s.tails s.heads s.nexts)
unfolding bounded within_limits joined limits_of joins_at
bounded_is s = rw (unused_is s) refl

poles_is : (s : Sheet) → poles s ≡ poles_of s.vertices s.edges s.tails s.heads
unfolding poles poles_of pole_at incoming outgoing end_of
poles_is s = all_both (pole_at s.edges s.heads 0) (pole_at s.edges s.tails 1) s.vertices

-- what the first tests tell the next
pub limits_most : (n m : ℕ) → limits_of n m ≡ true → (n ≤ 128) × (m ≤ 256)
unfolding limits_of
limits_most n m t =
    let (three, most) = (and-eq-true_iff (leb 2 n && leb n 128 && leb 2 m) (leb m 256)).0 t in
    let (two, _) = (and-eq-true_iff (leb 2 n && leb n 128) (leb 2 m)).0 three in
    (leb-true n 128 ((and-eq-true_iff (leb 2 n) (leb n 128)).0 two).1, leb-true m 256 most)

pub few_orbits : (n : ℕ) (step : ℕ → ℕ) (f : Traced) → f ≡ traced n step → f.count ≤ n
few_orbits n step f e = rw e (count_law n step)

-- by the number of faces
faced_is : (s : Sheet) → faced_of s.vertices s.edges s.nexts (row_levels s).level ≡ cond (planar s) (Some (findings_in s)) None
unfolding faced_of planar findings_in face_table walk_of
faced_is s = refl

-- or a refusal
faced_or : (s : Sheet) (r : Refusal) → ok_or (faced_of s.vertices s.edges s.nexts (row_levels s).level) r ≡ cond (planar s) (Ok (findings_in s)) (Err r)
faced_or s r = rw (faced_is s) (by_bool (planar s) (λ t. rw t refl) (λ t. rw t refl))

judged_by : (circle bars : Refusal) (s : Sheet) → rooted s ≡ true → acyclic s ≡ true → poles s ≡ true → cond (planar s) (Ok (findings_in s)) (Err NotPlanar) ≡ judged_of circle bars s
unfolding judged_of judge_by first answering
judged_by circle bars s r a p = rw (r, a, p) (by_bool (planar s) (λ t. rw t refl) (λ t. rw t refl))

-- the walk, looked up in its table
pub walked : (m : ℕ) (nexts walk : List ℕ) → walk ≡ dart_table (walk_of nexts) (2 * m) → (d x : ℕ) → d < 2 * m → x ≡ get_or walk d 0 → x ≡ walk_of nexts d
walked m nexts walk e d x h q = q ∙ ap (λ (l : List ℕ). get_or l d 0) e ∙ dart_at_law (walk_of nexts) (2 * m) d h

module _ (n m : ℕ) (nexts rows : List ℕ) (f : Traced) (e : f ≡ traced (2 * m) (walk_of nexts)) where
  pub face_refused : (n + f.count ≡ m + 2 → ⊥) → None ≡ faced_of n m nexts rows
  unfolding faced_of
  face_refused q = let b = ne_eqb (n + f.count) (m + 2) q in rw (← e, b) refl

  pub face_met : n + f.count ≡ m + 2 → Some (record { rows = rows; faces = f.orbit; count = f.count }) ≡ faced_of n m nexts rows
  unfolding faced_of
  face_met q = let b = eq-eqb (n + f.count) (m + 2) q in rw (← e, b) refl

module _ (n m : ℕ) (tails heads : List ℕ) where
  joined_ends : m ≤ 256 → all_below (joins_at n tails heads) m ≡ true → Ends n m tails × Ends n m heads
  unfolding joins_at
  joined_ends few a = (record { few = few; inside = λ k h. (ends k h).0 }, record { few = few; inside = λ k h. (ends k h).1 })
    where
      ends : (k : ℕ) → k < m → (get_or tails k 0 < n) × (get_or heads k 0 < n) × (get_or tails k 0 ≢ get_or heads k 0)
      ends k h = joins_means n (get_or tails k 0) (get_or heads k 0) (all_at (joins_at n tails heads) m a k h)

  acyclic_within : (levels_of n m tails heads).acyclic ≡ true → Within n m tails heads
  unfolding levels_of answer
  acyclic_within t = within_is n tails heads m (go (within_of n m tails heads) (climbs m tails heads (rounds n m tails heads)) t)
    where
      go : (a b : Bool) → (answer (a && b) (rounds n m tails heads)).acyclic ≡ true → a ≡ true
      go true b q = refl
      go false b q = q

  module _ (rows : List ℕ) (e : Some rows ≡ found (levels_of n m tails heads)) where
    acyclic_law : (levels_of n m tails heads).acyclic ≡ true
    acyclic_law = (found_some (levels_of n m tails heads) rows e).0

    pub acyclic_ends : (n ≤ 256) × Ends 256 m tails × Ends 256 m heads
    acyclic_ends =
        let w = acyclic_within acyclic_law in
        (w.few_nodes, record { few = w.few_edges; inside = λ k h. omega (arith, w.from_in k h) }, record { few = w.few_edges; inside = λ k h. omega (arith, w.to_in k h) })

  module _ (circle bars : Refusal) (nexts : List ℕ) where
    pub bad_root : rooted_of tails heads ≡ false → Err BadRoot ≡ judged_of circle bars (sheet_of n m tails heads nexts)
    unfolding judged_of judge_by first answering rooted rooted_of
    bad_root r = rw r refl

    module _ (r : rooted_of tails heads ≡ true) where
      pub cyclic : None ≡ found (levels_of n m tails heads) → Err circle ≡ judged_of circle bars (sheet_of n m tails heads nexts)
      unfolding judged_of judge_by first answering rooted rooted_of acyclic row_levels
      cyclic e = rw (r, found_none (levels_of n m tails heads) e) refl

      module _ (rows : List ℕ) (e : Some rows ≡ found (levels_of n m tails heads)) where
        pub bad_poles : poles_of n m tails heads ≡ false → Err bars ≡ judged_of circle bars (sheet_of n m tails heads nexts)
        unfolding judged_of judge_by first answering rooted rooted_of acyclic row_levels
        bad_poles p = rw (r, acyclic_law rows e, poles_is (sheet_of n m tails heads nexts), p) refl

        pub by_faces : poles_of n m tails heads ≡ true → (f : Result Findings Refusal) → f ≡ ok_or (faced_of n m nexts rows) NotPlanar → f ≡ judged_of circle bars (sheet_of n m tails heads nexts)
        unfolding rooted rooted_of acyclic row_levels
        by_faces p f q =
            let s = sheet_of n m tails heads nexts in
            q ∙ ap (λ l. ok_or (faced_of n m nexts l) NotPlanar) (found_some (levels_of n m tails heads) rows e).1 ∙ faced_or s NotPlanar ∙ judged_by circle bars s r (acyclic_law rows e) (poles_is s ∙ p)

-- what is found of the digraph of a sheet is found of its arrays
pub of_digraph : {n n' m m' : ℕ} {from to tails heads : List ℕ} → (n ≡ n') × (m ≡ m') × (from ≡ tails) × (to ≡ heads)
    → {r : Option (List ℕ)} → r ≡ found (levels_of n m from to) → r ≡ found (levels_of n' m' tails heads)
of_digraph (en, em, ef, et) e = rw (en, em, ef, et) at e

-- what a record within its bounds tells the next tests
pub bounded_ends : (s : Sheet) → bounded s ≡ true
    → (s.vertices ≤ 128) × (s.edges ≤ 256) × Ends s.vertices s.edges s.tails × Ends s.vertices s.edges s.heads
bounded_ends s t =
    let joins = all_below (joins_at s.vertices s.tails s.heads) s.edges in
    let (x, _) = (and-eq-true_iff (limits_of s.vertices s.edges && joins) (unused_of s.edges s.tails s.heads s.nexts)).0 (sym (bounded_is s) ∙ t) in
    let (l, j) = (and-eq-true_iff (limits_of s.vertices s.edges) joins).0 x in
    let (n, m) = limits_most s.vertices s.edges l in
    let (tails, heads) = joined_ends s.vertices s.edges s.tails s.heads m j in
    (n, m, tails, heads)

module _ (s : Sheet) where
  pub judged_refused : (circle bars r : Refusal) → judged_of circle bars s ≡ Err r → judge_by circle bars s ≡ Err r
  unfolding judged_of answering
  judged_refused circle bars r = go (judge_by circle bars s)
    where
      go : (a : Answer) → answering a (λ _. findings_in s) ≡ Err r → a ≡ Err r
      go (Ok u) e = cc e
      go (Err q) e = cc e

  pub judged_accepted : (circle bars : Refusal) (f : Findings) → judged_of circle bars s ≡ Ok f → judge_by circle bars s ≡ Ok tt
  unfolding judged_of answering
  judged_accepted circle bars f = go (judge_by circle bars s)
    where
      go : (a : Answer) → answering a (λ _. findings_in s) ≡ Ok f → a ≡ Ok tt
      go (Ok u) e = refl
      go (Err r) e = cc e

  -- a clause fails
  pub not_sound : (sound s ≡ true → ⊥) → Err NotSound ≡ findings_of s
  unfolding findings_of
  not_sound f = by_bool (sound s) (λ t. absurd (f t)) (λ t. rw t refl)

  -- what soundness tells of each clause
  sound_parts : sound s ≡ true
      → (within_limits s ≡ true) × (joined s ≡ true) × (in_rings s ≡ true) × (unused_zero s ≡ true) × (rooted s ≡ true) × (acyclic s ≡ true) × (poles s ≡ true) × (planar s ≡ true)
  unfolding sound
  sound_parts t =
      let (a, h) = (and-eq-true_iff _ _).0 t in
      let (b, g) = (and-eq-true_iff _ _).0 a in
      let (c, f) = (and-eq-true_iff _ _).0 b in
      let (d, e) = (and-eq-true_iff _ _).0 c in
      let (x, u) = (and-eq-true_iff _ _).0 d in
      let (y, r) = (and-eq-true_iff _ _).0 x in
      let (l, j) = (and-eq-true_iff _ _).0 y in
      (l, j, r, u, e, f, g, h)

  pub not_bounded : bounded s ≡ false → sound s ≡ true → ⊥
  unfolding bounded
  not_bounded f t = let (l, j, _, u, _, _, _, _) = sound_parts t in true≢false (sym (rw (l, j, u) refl) ∙ f)

  pub not_rooted : rooted_of s.tails s.heads ≡ false → sound s ≡ true → ⊥
  unfolding rooted rooted_of
  not_rooted f t = let (_, _, _, _, r, _, _, _) = sound_parts t in true≢false (sym r ∙ f)

  -- vertices 0 and 1 and the rings are right; the rows are found with them
  abbrev poles_and_rings : Bool
  poles_and_rings = poles_of s.vertices s.edges s.tails s.heads && rings_of (darts s) s.tails s.heads s.nexts

  with_rings : poles_and_rings ≡ true → ring_levels s.vertices s.edges s.tails s.heads s.nexts ≡ row_levels s
  unfolding ring_levels row_levels
  with_rings t = rw t refl

  pub no_levels : None ≡ found (ring_levels s.vertices s.edges s.tails s.heads s.nexts) → sound s ≡ true → ⊥
  unfolding acyclic
  no_levels e t =
      let (_, _, r, _, _, a, p, _) = sound_parts t in
      true≢false (sym a ∙ found_none (row_levels s) (e ∙ ap found (with_rings (rw (sym (poles_is s) ∙ p, sym (rings_are s) ∙ r) refl))))

  -- all clauses but the last are met
  module _ (rows : List ℕ) (e : Some rows ≡ found (ring_levels s.vertices s.edges s.tails s.heads s.nexts)) where
    both_right : poles_and_rings ≡ true
    unfolding ring_levels
    both_right = by_bool poles_and_rings (λ t. t) (λ f. let q = rw f at e in cc)

    pub by_all : bounded s ≡ true → rooted_of s.tails s.heads ≡ true
        → (f : Result Findings Refusal) → f ≡ ok_or (faced_of s.vertices s.edges s.nexts rows) NotSound → f ≡ findings_of s
    unfolding findings_of sound bounded rooted rooted_of acyclic
    by_all b r f q =
        let (a, level) = found_some (row_levels s) rows (e ∙ ap found (with_rings both_right)) in
        let (p, rings) = (and-eq-true_iff (poles_of s.vertices s.edges s.tails s.heads) (rings_of (darts s) s.tails s.heads s.nexts)).0 both_right in
        let (x, u) = (and-eq-true_iff (within_limits s && joined s) (unused_zero s)).0 b in
        let (y, j) = (and-eq-true_iff (within_limits s) (joined s)).0 x in
        q ∙ ap (λ l. ok_or (faced_of s.vertices s.edges s.nexts l) NotSound) level ∙ faced_or s NotSound
        ∙ rw (y, j, rings_are s ∙ rings, u, r, a, poles_is s ∙ p) refl

  pub findings_answer : is_ok (findings_of s) ≡ sound s
  unfolding findings_of
  findings_answer = by_bool (sound s) (λ t. rw t refl) (λ t. rw t refl)
