-- A turn of each loop: what is left to do, and the loops' beginnings and ends. Assumes nothing.
use Rattle.std.proofs.Common.{ℕ, suc, ◌+◌, ◌-◌, ◌≤◌, ◌<◌, ◌≡◌, List, ◌++◌, arith, eq-eqb, ne_eqb, get_or, set, replicate, drop, refl, take, length, length-take-le, ◌≢◌, le-leb}
use Rattle.std.proofs.Math.ListN.{length-replicate}
use Rattle.std.proofs.lemmas.Bool.{lt-leb}
use Rattle.std.proofs.Math.Bool.{or-true}
use Rattle.std.proofs.lemmas.List.{drop-replicate}
use Rattle.orbits.specs.Tables.{unnumbered_below, walk_from, trace_from, traced}

-- the first `size` entries, filled
pub unnumbered_filled : (size : ℕ) (part : List ℕ) → size ≤ 512 → part ≡ replicate (length (take {A = ℕ} size (replicate 512 0))) 512 → part ++ drop size (replicate 512 0) ≡ unnumbered_below size
unfolding unnumbered_below
unnumbered_filled size part h e =
    rw (e, length-take-le {A = ℕ} size (replicate 512 0) (omega (arith, length-replicate {A = ℕ} 512 0)), drop-replicate {X = ℕ} size 512 0) refl

module _ (n i size : ℕ) (step : ℕ → ℕ) (e f at : ℕ) (orbit : List ℕ) where
  pub walk_over : n ≤ i → walk_from (n - i) size step e f at orbit ≡ orbit
  unfolding walk_from
  walk_over h = let z : n - i ≡ 0 = omega arith in rw z refl

  module _ (h : i < n) where
    pub walk_round : step at ≡ e → walk_from (n - i) size step e f at orbit ≡ set orbit at f
    unfolding walk_from
    walk_round q = let z : n - i ≡ suc (n - (i + 1)) = omega arith in rw (z, eq-eqb (step at) e q) refl

    pub walk_out : size ≤ step at → walk_from (n - i) size step e f at orbit ≡ set orbit at f
    unfolding walk_from
    walk_out l = let z : n - i ≡ suc (n - (i + 1)) = omega arith in rw (z, le-leb size (step at) l, or-true) refl

    pub walk_more : step at ≢ e → step at < size
        → walk_from (n - i) size step e f at orbit ≡ walk_from (n - (i + 1)) size step e f (step at) (set orbit at f)
    unfolding walk_from
    walk_more q l = let z : n - i ≡ suc (n - (i + 1)) = omega arith in rw (z, ne_eqb (step at) e q, lt-leb size (step at) l) refl

module _ (size e : ℕ) (step : ℕ → ℕ) (f : ℕ) (orbit : List ℕ) where
  pub trace_over : size ≤ e → trace_from (size - e) size step e f orbit ≡ record { count = f; orbit = orbit }
  unfolding trace_from
  trace_over h = let z : size - e ≡ 0 = omega arith in rw z refl

  module _ (h : e < size) where
    pub trace_new : get_or orbit e 0 ≡ 512 → trace_from (size - e) size step e f orbit ≡ trace_from (size - (e + 1)) size step (e + 1) (f + 1) (walk_from size size step e f e orbit)
    unfolding trace_from
    trace_new q = let z : size - e ≡ suc (size - (e + 1)) = omega arith in rw (z, eq-eqb (get_or orbit e 0) 512 q) refl

    pub trace_old : get_or orbit e 0 ≢ 512 → trace_from (size - e) size step e f orbit ≡ trace_from (size - (e + 1)) size step (e + 1) f orbit
    unfolding trace_from
    trace_old q = let z : size - e ≡ suc (size - (e + 1)) = omega arith in rw (z, ne_eqb (get_or orbit e 0) 512 q) refl

module _ (size : ℕ) (step : ℕ → ℕ) where
  pub traced_none : 512 < size → traced size step ≡ record { count = 0; orbit = replicate 512 0 }
  unfolding traced
  traced_none h = rw (lt-leb size 512 h) refl

  pub traced_all : size ≤ 512 → traced size step ≡ trace_from (size - 0) size step 0 0 (unnumbered_below size)
  unfolding traced
  traced_all h = let z : size - 0 ≡ size = omega arith in rw (le-leb size 512 h, z) refl

-- a turn of each loop, and how they begin and end
pub ruleset turns = (walk_over, walk_round, walk_out, walk_more, trace_over, trace_new, trace_old, traced_none, traced_all)
