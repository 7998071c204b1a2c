-- The orbits of a step, and whether a table is a permutation, as definitions that compute.
use Rattle.std.specs.Prelude.{ℕ, zero, suc, ◌+◌, ◌-◌, Bool, true, false, not, ◌&&◌, ◌||◌, List, ◌++◌, eqb, leb, ltb, get_or, set, replicate}
use Rattle.counting.specs.Choice.{pick}
use Rattle.orbits.specs.declared.Traced.{Traced}

-- 512, for no number yet, at each element below `size`, and 0 past them
unfoldable pub unnumbered_below : ℕ → List ℕ
unnumbered_below size = replicate size 512 ++ replicate (512 - size) 0

-- n steps from `at` on give each element the number f, until the start e returns or a step leaves the elements below `size`
unfoldable pub walk_from : ℕ → ℕ → (ℕ → ℕ) → ℕ → ℕ → ℕ → List ℕ → List ℕ
walk_from zero size step e f at orbit = orbit
walk_from (suc n) size step e f at orbit =
    pick (eqb (step at) e || leb size (step at))
    (λ _. set orbit at f)
    (λ _. walk_from n size step e f (step at) (set orbit at f))

-- the n elements from e on: one that has no number yet starts the orbit f
unfoldable pub trace_from : ℕ → ℕ → (ℕ → ℕ) → ℕ → ℕ → List ℕ → Traced
trace_from zero size step e f orbit = record { count = f; orbit = orbit }
trace_from (suc n) size step e f orbit =
    pick (eqb (get_or orbit e 0) 512)
    (λ _. trace_from n size step (e + 1) (f + 1) (walk_from size size step e f e orbit))
    (λ _. trace_from n size step (e + 1) f orbit)

-- the orbits of the elements below `size`; none where they do not fit a table
unfoldable pub traced : ℕ → (ℕ → ℕ) → Traced
traced size step =
    pick (leb size 512) (λ _. trace_from size size step 0 0 (unnumbered_below size)) (λ _. record { count = 0; orbit = replicate 512 0 })

-- the n entries from e on are below `size`, and none is seen before
unfoldable pub permutes_from : ℕ → ℕ → List ℕ → ℕ → List Bool → Bool
permutes_from zero size table e seen = true
permutes_from (suc n) size table e seen =
    ltb (get_or table e 0) size && not (get_or seen (get_or table e 0) false) && permutes_from n size table (e + 1) (set seen (get_or table e 0) true)

-- the table permutes the elements below `size`, which fit it
unfoldable pub is_permutation : ℕ → List ℕ → Bool
is_permutation size table = leb size 512 && permutes_from size size table 0 (replicate 512 false)
