-- When an edge joins two vertices, and when it has an end at one. Assumes nothing.
use Rattle.std.proofs.Common.{ℕ, ◌<◌, ◌≡◌, refl, ◌≢◌, true, false, not, ◌&&◌, List, eqb, ltb, get_or, ltb-true, eq-eqb, ne_eqb, eqb-true}
use Rattle.std.proofs.Math.Bool.{and-eq-true_iff, or-true}
use Rattle.std.proofs.lemmas.Bool.{eqb-false, not-true}
use Rattle.clauses.specs.Darts.{touches_of}

pub joins_means : (n a b : ℕ) → (ltb a n && ltb b n && not (eqb a b)) ≡ true → (a < n) × (b < n) × (a ≢ b)
joins_means n a b j =
    let (inside, apart) = (and-eq-true_iff (ltb a n && ltb b n) (not (eqb a b))).0 j in
    let (ha, hb) = (and-eq-true_iff (ltb a n) (ltb b n)).0 inside in
    (ltb-true a n ha, ltb-true b n hb, eqb-false a b (not-true (eqb a b) apart))

module _ (tails heads : List ℕ) (k v : ℕ) where
  pub touches_tail : get_or tails k 0 ≡ v → touches_of tails heads k v ≡ true
  unfolding touches_of
  touches_tail e = rw (eq-eqb (get_or tails k 0) v e) refl

  pub touches_head : get_or heads k 0 ≡ v → touches_of tails heads k v ≡ true
  unfolding touches_of
  touches_head e = rw (eq-eqb (get_or heads k 0) v e) (or-true (eqb (get_or tails k 0) v))

  pub touches_not : get_or tails k 0 ≢ v → get_or heads k 0 ≢ v → touches_of tails heads k v ≡ false
  unfolding touches_of
  touches_not t h = rw (ne_eqb (get_or tails k 0) v t, ne_eqb (get_or heads k 0) v h) refl

  pub head_touches : touches_of tails heads k v ≡ true → get_or tails k 0 ≢ v → get_or heads k 0 ≡ v
  unfolding touches_of
  head_touches t n = eqb-true (get_or heads k 0) v (rw (ne_eqb (get_or tails k 0) v n) at t)
