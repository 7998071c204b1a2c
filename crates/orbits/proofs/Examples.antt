-- The definitions, computed on whole tables. Assumes nothing.
use Rattle.std.proofs.Common.{ℕ, zero, suc, ◌+◌, ◌≡◌, refl, true, false, List, [], ◌∷◌, ◌++◌, replicate}
use Rattle.orbits.specs.Meaning.{entries}
use Rattle.orbits.specs.Tables.{unnumbered_below, walk_from, trace_from, traced, permutes_from, is_permutation}

two_orbits : traced 4 (entries ((2 ∷ 3 ∷ 0 ∷ 1 ∷ []) ++ replicate 508 9)) ≡ record { count = 2; orbit = (0 ∷ 1 ∷ 0 ∷ 1 ∷ []) ++ replicate 508 0 }
unfolding traced trace_from walk_from unnumbered_below
two_orbits = refl

-- no permutation: a walk that does not come round stops after `size` steps, or where it leaves the elements
stray : traced 3 (entries ((1 ∷ 1 ∷ 7 ∷ []) ++ replicate 509 0)) ≡ record { count = 2; orbit = (0 ∷ 0 ∷ 1 ∷ []) ++ replicate 509 0 }
unfolding traced trace_from walk_from unnumbered_below
stray = refl

twice : is_permutation 3 ((1 ∷ 1 ∷ 2 ∷ []) ++ replicate 509 0) ≡ false
unfolding is_permutation permutes_from
twice = refl

-- n numbers from k on
count_up : ℕ → ℕ → List ℕ
count_up zero k = []
count_up (suc n) k = k ∷ count_up n (k + 1)

-- all 512 in one orbit, and each by itself
one_orbit : (traced 512 (entries (count_up 511 1 ++ 0 ∷ []))).count ≡ 1
unfolding traced trace_from walk_from unnumbered_below count_up
one_orbit = refl

each_alone : (traced 512 (entries (count_up 512 0))).count ≡ 512
unfolding traced trace_from walk_from unnumbered_below count_up
each_alone = refl

still : is_permutation 512 (count_up 512 0) ≡ true
unfolding is_permutation permutes_from count_up
still = refl
