-- The tests of the search and what they say. Assumes nothing.
use Rattle.std.proofs.Common.{◌≡◌, ℕ, ◌<◌, ◌≤◌, Bool, true, not, ◌≢◌, List, get_or, refl, arith, eq-eqb, ne_eqb}
use Rattle.std.proofs.Math.Decide.{ℕ_discrete}
use Rattle.std.proofs.Math.Logic.{by_cases}
use Rattle.std.proofs.lemmas.Bool.{eqb-false, not-true, not_from_false}
use Rattle.counting.specs.Below.{lowest_below}
use Rattle.counting.proofs.Below.{lowest}
use Rattle.counting.proofs.Below.Lowest.{found, none}
use Rattle.counting.proofs.Iterate.{clash}
use Rattle.orientation.specs.Ears.{is_placed, is_reached}

-- the lowest number that passes, where some number below n does
pub lowest_passes : (p : ℕ → Bool) (n : ℕ) → lowest_below p n < n → p (lowest_below p n) ≡ true
lowest_passes p n h = elim (lowest p n) [ found b t f ↦ t | none q f ↦ absurd (omega arith) ]

-- the place of vertex v: 0 where it is not placed
module _ (order : List ℕ) (v : ℕ) where
  pub placed_at : is_placed order v ≡ true → 1 ≤ get_or order v 0
  unfolding is_placed
  placed_at t = let n = eqb-false (get_or order v 0) 0 (not-true _ t) in omega arith

  pub placed_passes : 1 ≤ get_or order v 0 → is_placed order v ≡ true
  unfolding is_placed
  placed_passes h = not_from_false _ (ne_eqb (get_or order v 0) 0 (omega arith))

  pub free_at : not (is_placed order v) ≡ true → get_or order v 0 ≡ 0
  free_at t = by_cases (ℕ_discrete (get_or order v 0) 0) (λ e. e) (λ n. clash (placed_passes (omega arith)) (not-true _ t))

  pub free_passes : get_or order v 0 ≡ 0 → not (is_placed order v) ≡ true
  unfolding is_placed
  free_passes e = rw (eq-eqb (get_or order v 0) 0 e) refl

-- the parent of vertex v: v itself where it is not reached
module _ (parents : List ℕ) (v : ℕ) where
  pub reached_at : is_reached parents v ≡ true → get_or parents v 0 ≢ v
  unfolding is_reached
  reached_at t = eqb-false (get_or parents v 0) v (not-true _ t)

  pub reached_passes : get_or parents v 0 ≢ v → is_reached parents v ≡ true
  unfolding is_reached
  reached_passes n = not_from_false _ (ne_eqb (get_or parents v 0) v n)

  pub unreached_at : not (is_reached parents v) ≡ true → get_or parents v 0 ≡ v
  unreached_at t = by_cases (ℕ_discrete (get_or parents v 0) v) (λ e. e) (λ n. clash (reached_passes n) (not-true _ t))

  pub unreached_passes : get_or parents v 0 ≡ v → not (is_reached parents v) ≡ true
  unfolding is_reached
  unreached_passes e = rw (eq-eqb (get_or parents v 0) v e) refl
