-- One ring at each vertex: the ring of one dart of each has as many darts as the vertex, all at it. Assumes nothing.
use Rattle.std.proofs.Common.{ℕ, zero, suc, ◌+◌, ◌-◌, ◌≤◌, ◌<◌, ◌≡◌, refl, sym, ap, ◌∙◌, ◌≢◌, true, false, not, ◌||◌, List, add-one, arith, eq-eqb, ne_eqb, eqb-true, eqb, get_or, set, length-set, replicate}
use Rattle.std.proofs.Math.Logic.{by_cases}
use Rattle.std.proofs.Math.Decide.{ℕ_discrete, dec_lt}
use Rattle.std.proofs.Math.ListN.{length-replicate, get_or-replicate}
use Rattle.std.proofs.lemmas.Bool.{and_parts}
use Rattle.counting.specs.Below.{all_below}
use Rattle.counting.specs.Counts.{count}
use Rattle.counting.specs.Orbits.{Perm, iter, Reach}
use Rattle.counting.proofs.Counts.{all, count_all, count_room, room_onto, Onto, onto_count, onto_injective, tally_more}
use Rattle.counting.proofs.Iterate.{by_bool, iter_add, around}
use Rattle.counting.proofs.Below.{all_at, all_of}
use Rattle.counting.proofs.Reach.{iter_one_one, reach_trans, reach_sym}
use Rattle.counting.proofs.Stores.{Stored, stored}
use Rattle.counting.proofs.Stores.Stored.{here, apart}
use Rattle.orbits.specs.Tables.{traced, is_permutation}
use Rattle.orbits.specs.Meaning.{entries, Numbering}
use Rattle.orbits.proofs.Distinct.{permutation_law}
use Rattle.orbits.proofs.Numbering.{traced_law}
use Rattle.rings.specs.Inner.{ring_at, Readable, Held, Degrees, OneRingEach, Round, Covered, rings_in}

-- ---- a dart of each vertex

pub held_none : (at : List ℕ) → Held 0 at (replicate 128 0)
held_none at = record { full = length-replicate {A = ℕ} 128 0; some = λ d l. absurd (omega arith) }

pub held_more : {k : ℕ} {at held : List ℕ} → Held k at held → (v : ℕ) → v ≡ get_or at k 0 → v < 128 → Held (k + 1) at (set held v k)
held_more {k} {at} {held} h v e b = record {
  full = length-set held v k ∙ h.full;
  some = λ d l. of_d d l (stored held v k (get_or at d 0) 0 (omega (arith, h.full)));
}
  where
    of_d : (d : ℕ) → d < k + 1 → Stored held v k (get_or at d 0) 0
        → (get_or (set held v k) (get_or at d 0) 0 < k + 1) × (get_or at (get_or (set held v k) (get_or at d 0) 0) 0 ≡ get_or at d 0)
    of_d d l (here p q) = (omega (arith, q), ap (λ x. get_or at x 0) q ∙ sym e ∙ sym p)
    of_d d l (apart n q) =
        by_cases (ℕ_discrete d k) (λ z. absurd (n (ap (λ x. get_or at x 0) z ∙ sym e)))
        (λ z. let (i, t) = h.some d (omega arith) in rw q (omega arith, t))

-- ---- how many darts a vertex has

pub degrees_none : (at : List ℕ) → Degrees 0 at (replicate 128 0)
unfolding count
degrees_none at = record { size = length-replicate {A = ℕ} 128 0; counts = λ v l. get_or-replicate {A = ℕ} 128 v 0 0 l }

pub degrees_more : {k : ℕ} {at degree : List ℕ} → Degrees k at degree → (v : ℕ) → v ≡ get_or at k 0 → v < 128 → Degrees (k + 1) at (set degree v (get_or degree v 0 + 1))
degrees_more {k} {at} {degree} D v e b = record { size = length-set degree v _ ∙ D.size; counts = λ x l. tally_more k at degree v e (omega (arith, D.size)) x (D.counts x l) }

-- ---- once round a ring

-- after some steps from `start`, which kept to darts of v and did not return
pub record Going (n : ℕ) (at nexts : List ℕ) (start v d steps : ℕ) : Type 0 where
  pub place : d ≡ iter (entries nexts) steps start
  pub out : (j : ℕ) → 0 < j → j ≤ steps → iter (entries nexts) j start ≢ start
  pub inside : (j : ℕ) → j ≤ steps → iter (entries nexts) j start < n
  pub there : (j : ℕ) → j ≤ steps → get_or at (iter (entries nexts) j start) 0 ≡ v

pub going_none : {n : ℕ} {at : List ℕ} (nexts : List ℕ) {start v : ℕ} → start < n → get_or at start 0 ≡ v → Going n at nexts start v start 0
going_none nexts h e = record {
  place = refl;
  out = λ j a l. absurd (omega arith);
  inside = λ j l. let z : j ≡ 0 = omega arith in rw z h;
  there = λ j l. let z : j ≡ 0 = omega arith in rw z e;
}

module _ {n : ℕ} {at nexts : List ℕ} {start v d steps : ℕ} (G : Going n at nexts start v d steps) where
  pub going_in : d < n
  going_in = rw G.place (G.inside steps (omega arith))

  module _ (e : ℕ) (next : e ≡ get_or nexts d 0) where
    moved : e ≡ iter (entries nexts) (suc steps) start
    moved = next ∙ ap (entries nexts) G.place

    pub going_outside : n ≤ e → OneRingEach n at nexts → ⊥
    going_outside l O = omega (arith, O.permuted.below d going_in)

    pub going_elsewhere : get_or at e 0 ≢ v → OneRingEach n at nexts → ⊥
    going_elsewhere ne O = ne (ap (entries at) next ∙ O.stays d going_in ∙ ap (entries at) G.place ∙ G.there steps (omega arith))

    pub going_back : {k : ℕ} → k ≡ suc steps → e ≡ start → Round n at nexts start v k
    going_back ek q = rw ek (record {
      back = sym moved ∙ q;
      first = λ j a l. G.out j a (omega arith);
      inside = λ j l. G.inside j (omega arith);
      there = λ j l. G.there j (omega arith);
    })

    pub going_on : {k : ℕ} → k ≡ suc steps → e < n → get_or at e 0 ≡ v → e ≢ start → Going n at nexts start v e k
    going_on ek b t q = rw ek (record {
      place = moved;
      out = λ j a m. by_cases (ℕ_discrete j (suc steps)) (λ z. rw z (λ w. q (moved ∙ w))) (λ z. G.out j a (omega arith));
      inside = λ j m. by_cases (ℕ_discrete j (suc steps)) (λ z. rw (z, ← moved) b) (λ z. G.inside j (omega arith));
      there = λ j m. by_cases (ℕ_discrete j (suc steps)) (λ z. rw (z, ← moved) t) (λ z. G.there j (omega arith));
    })

-- ---- what a round covers

module _ {n : ℕ} {at nexts : List ℕ} {s v r : ℕ} (some : 0 < r) (R : Round n at nexts s v r) where
  -- its darts are different
  apart_on : (i j : ℕ) → i < j → j < r → iter (entries nexts) i s ≢ iter (entries nexts) j s
  apart_on i j l m e =
      let z : (r - j) + j ≡ r = omega arith in
      R.first ((r - j) + i) (omega arith) (omega arith)
      (iter_add (entries nexts) (r - j) i s ∙ ap (iter (entries nexts) (r - j)) e ∙ sym (iter_add (entries nexts) (r - j) j s) ∙ ap (λ k. iter (entries nexts) k s) z ∙ R.back)

  pub once : (i j : ℕ) → i < r → j < r → iter (entries nexts) i s ≡ iter (entries nexts) j s → i ≡ j
  once i j l m e =
      by_cases (dec_lt i j) (λ b. absurd (apart_on i j b m e))
      (λ b. by_cases (dec_lt j i) (λ c. absurd (apart_on j i c l (sym e))) (λ c. omega arith))

  -- and where they are as many as the vertex has, every dart of the vertex is among them
  pub round_all : count (λ d. eqb (get_or at d 0) v) n ≤ r → (d : ℕ) → d < n → get_or at d 0 ≡ v → (i : ℕ) × (i < r) × (iter (entries nexts) i s ≡ d)
  round_all full d l e =
      room_onto (λ d. eqb (get_or at d 0) v) n r (λ i. iter (entries nexts) i s) (λ i b. (R.inside i b, eq-eqb _ _ (R.there i b))) once full d l (eq-eqb _ _ e)

  -- they are as many where all darts of the vertex are reached
  round_full : ((d : ℕ) → d < n → get_or at d 0 ≡ v → Reach (entries nexts) s d) → count (λ d. eqb (get_or at d 0) v) n ≤ r
  round_full reach = omega (arith, onto_count (λ i. iter (entries nexts) i s) all r (λ d. eqb (get_or at d 0) v) n each, count_all r)
    where
      each : Onto (λ i. iter (entries nexts) i s) all r (λ d. eqb (get_or at d 0) v) n
      each d l t =
          let (k, q) = reach d l (eqb-true _ _ t) in
          let (j, b, w) = around (entries nexts) s r some R.back k in
          (j, b, refl, w ∙ q)

  pub round_covers : (held : List ℕ) → s ≡ get_or held v 0 → (d : ℕ) → get_or at d 0 ≡ v → (i : ℕ) × (i < r) × (iter (entries nexts) i s ≡ d) → Covered n at nexts held d
  round_covers held es d e (i, l, q) =
      let (j, b, w) = around (entries nexts) s r some R.back (suc i) in
      let next : iter (entries nexts) j s ≡ get_or nexts d 0 = w ∙ ap (entries nexts) q in
      record {
        below = rw (← next) (R.inside j b);
        stays = rw (← next) (R.there j b) ∙ sym e;
        before = before i l q;
        home = rw (e, ← es) (R.inside 0 some);
        from = rw (e, ← es) (i, q);
      }
    where
      before : (i : ℕ) → i < r → iter (entries nexts) i s ≡ d → (e : ℕ) × (e < n) × (get_or nexts e 0 ≡ d)
      before zero l q = let z : suc (r - 1) ≡ r = omega arith in (iter (entries nexts) (r - 1) s, R.inside (r - 1) (omega arith), ap (λ k. iter (entries nexts) k s) z ∙ R.back ∙ q)
      before (suc i) l q = (iter (entries nexts) i s, R.inside i (omega arith), q)

module _ {n : ℕ} {at nexts : List ℕ} {start v d steps : ℕ} (G : Going n at nexts start v d steps) (O : OneRingEach n at nexts) (e : ℕ) (next : e ≡ get_or nexts d 0) where
  -- one ring is not closed before it has all darts of the vertex
  pub going_early : e ≡ start → suc steps < count (λ d. eqb (get_or at d 0) v) n → ⊥
  going_early q l =
      omega (arith, round_full (omega arith) (going_back G e next (add-one steps) q) (λ x b y. O.joined start x (G.inside 0 (omega arith)) b (G.there 0 (omega arith) ∙ sym y)))

  -- and then it is
  pub going_long : e ≢ start → count (λ d. eqb (get_or at d 0) v) n ≤ suc steps → ⊥
  going_long q l = omega (
    arith,
    count_room (λ d. eqb (get_or at d 0) v) n (suc (suc steps)) (λ i. iter (entries nexts) i start) (λ i b. (more.inside i (omega arith), eq-eqb _ _ (more.there i (omega arith))))
        (λ i j b c. iter_one_one O.permuted (suc steps) start (G.inside 0 (omega arith)) (λ k m. more.out (suc k) (omega arith) (omega arith)) i j (omega arith) (omega arith)),
  )
    where
      more : Going n at nexts start v e (suc steps)
      more = going_on G e next refl (rw next (O.permuted.below d (going_in G))) (ap (entries at) next ∙ O.stays d (going_in G) ∙ ap (entries at) G.place ∙ G.there steps (omega arith)) q

-- ---- the rings of all vertices

-- every dart is on the ring of the dart that is held for its vertex
module _ {n : ℕ} {at nexts held : List ℕ} (on : (d : ℕ) → d < n → Covered n at nexts held d) where
  permuted : Perm n (entries nexts)
  permuted = record {
    below = λ d l. (on d l).below;
    one_one = λ d e i j q.
        onto_injective (entries nexts) all n all n (λ x l t. let (y, b, w) = (on x l).before in (y, b, refl, w)) (omega arith) d e i refl j refl q;
  }

  covered_all : OneRingEach n at nexts
  covered_all = record {
    permuted = permuted;
    stays = λ d l. (on d l).stays;
    joined = λ d e i j q. reach_trans (entries nexts) {d = d} (reach_sym permuted (on d i).home (on d i).from) (rw (← q) at (on e j).from);
  }

-- ---- the same by the definitions that compute

module _ (n : ℕ) (at nexts : List ℕ) (fits : n ≤ 512) where
  module _ (O : OneRingEach n at nexts) where
    law : Numbering n (entries nexts) (traced n (entries nexts))
    law = traced_law n (entries nexts) fits O.permuted

    one : (d e : ℕ) → d < n → e < n → Dec (get_or at d 0 ≡ get_or at e 0) → (not (eqb (get_or at d 0) (get_or at e 0)) || eqb (get_or (traced n (entries nexts)).orbit d 0) (get_or (traced n (entries nexts)).orbit e 0)) ≡ true
    one d e i j (yes q) = rw (eq-eqb (get_or at d 0) (get_or at e 0) q, eq-eqb _ _ ((law.same d e i j).1 (O.joined d e i j q))) refl
    one d e i j (no q) = rw (ne_eqb (get_or at d 0) (get_or at e 0) q) refl

    right : rings_in n at nexts ≡ true
    unfolding rings_in ring_at
    right =
        rw ((permutation_law n nexts).1 (fits, O.permuted))
        (all_of (ring_at n at nexts (traced n (entries nexts)).orbit) n (λ d l.
        rw (
          eq-eqb (get_or at (get_or nexts d 0) 0) (get_or at d 0) (O.stays d l),
          all_of (λ e. not (eqb (get_or at d 0) (get_or at e 0)) || eqb (get_or (traced n (entries nexts)).orbit d 0) (get_or (traced n (entries nexts)).orbit e 0)) n (λ e i. one d e l i (ℕ_discrete (get_or at d 0) (get_or at e 0))),
        ) refl))

  module _ (good : rings_in n at nexts ≡ true) where
    parts : (is_permutation n nexts ≡ true) × (all_below (ring_at n at nexts (traced n (entries nexts)).orbit) n ≡ true)
    unfolding rings_in
    parts = and_parts _ _ good

    P : Perm n (entries nexts)
    P = ((permutation_law n nexts).0 parts.0).1

    both : (d : ℕ) → d < n → (eqb (get_or at (get_or nexts d 0) 0) (get_or at d 0) ≡ true)
        × (all_below (λ e. not (eqb (get_or at d 0) (get_or at e 0)) || eqb (get_or (traced n (entries nexts)).orbit d 0) (get_or (traced n (entries nexts)).orbit e 0)) n ≡ true)
    unfolding ring_at
    both d l = and_parts _ _ (all_at (ring_at n at nexts (traced n (entries nexts)).orbit) n parts.1 d l)

    in_one : (d e : ℕ) → d < n → e < n → get_or at d 0 ≡ get_or at e 0 → get_or (traced n (entries nexts)).orbit d 0 ≡ get_or (traced n (entries nexts)).orbit e 0
    in_one d e i j q =
        eqb-true _ _ (rw (eq-eqb (get_or at d 0) (get_or at e 0) q) at
        (all_at (λ x. not (eqb (get_or at d 0) (get_or at x 0)) || eqb (get_or (traced n (entries nexts)).orbit d 0) (get_or (traced n (entries nexts)).orbit x 0)) n (both d i).1 e j))

    one_ring_each : OneRingEach n at nexts
    one_ring_each = record {
      permuted = P;
      stays = λ d l. eqb-true _ _ (both d l).0;
      joined = λ d e i j q. ((traced_law n (entries nexts) fits P).same d e i j).0 (in_one d e i j q);
    }

  pub rings_refused : (OneRingEach n at nexts → ⊥) → rings_in n at nexts ≡ false
  rings_refused f = by_bool (rings_in n at nexts) (λ t. absurd (f (one_ring_each t))) (λ t. t)

pub rings_met : {n : ℕ} {at nexts held : List ℕ} → n ≤ 512 → ((d : ℕ) → d < n → Covered n at nexts held d) → rings_in n at nexts ≡ true
rings_met {n} {at} {nexts} few on = right n at nexts few (covered_all on)

pub at_small : {n : ℕ} {at : List ℕ} → Readable n at → {d v : ℕ} → d < n → v ≡ get_or at d 0 → v < 128
at_small R {d} l e = omega (arith, e, R.at_in d l)
