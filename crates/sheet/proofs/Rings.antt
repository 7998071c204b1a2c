-- The test of the rings, over the record and over its arrays. Assumes nothing.
use Rattle.std.proofs.Common.{ℕ, ◌<◌, ◌≡◌, refl, sym, ap, Bool, not, ◌&&◌, ◌||◌, eqb, get_or}
use Rattle.counting.specs.Below.{all_below}
use Rattle.counting.proofs.Iterate.{by_bool}
use Rattle.counting.proofs.Below.{all_agree}
use Rattle.orbits.specs.Tables.{traced, is_permutation}
use Rattle.orbits.proofs.Distinct.{permutation_law}
use Rattle.clauses.specs.Inner.{dart_table, vertex_of}
use Rattle.rings.specs.Inner.{ring_at, rings_in, rings_of}
use Rattle.clauses.proofs.Below.{dart_at_law}
use Rattle.clauses.specs.declared.Sheet.{Sheet}
use Rattle.sheet.specs.Darts.{darts, vertex, next}
use Rattle.sheet.specs.Check.{in_rings}

abbrev in_ring : (ℕ → ℕ) → (ℕ → ℕ) → (ℕ → ℕ) → ℕ → ℕ → Bool
in_ring at next ring n d = eqb (at (next d)) (at d) && all_below (λ e. not (eqb (at d) (at e)) || eqb (ring d) (ring e)) n

in_ring_agree : (at at' next ring : ℕ → ℕ) (n : ℕ) → ((d : ℕ) → d < n → at d ≡ at' d) → (d : ℕ) → d < n → next d < n → in_ring at next ring n d ≡ in_ring at' next ring n d
in_ring_agree at at' next ring n h d l i =
    rw (h (next d) i, h d l)
    (ap (λ b. eqb (at' (next d)) (at' d) && b) (all_agree (λ e. not (eqb (at' d) (at e)) || eqb (ring d) (ring e)) (λ e. not (eqb (at' d) (at' e)) || eqb (ring d) (ring e)) n (λ e j. rw (h e j) refl)))

pub rings_are : (s : Sheet) → in_rings s ≡ rings_of (darts s) s.tails s.heads s.nexts
unfolding in_rings rings_of rings_in ring_at vertex vertex_of
rings_are s =
    let ring : ℕ → ℕ = λ d. get_or (traced (darts s) (next s)).orbit d 0 in
    let at : ℕ → ℕ = λ d. get_or (dart_table (vertex_of s.tails s.heads) (darts s)) d 0 in
    by_bool (is_permutation (darts s) s.nexts) (λ t. rw t (all_agree (in_ring (vertex s) (next s) ring (darts s)) (in_ring at (next s) ring (darts s)) (darts s) (λ d l.
    in_ring_agree (vertex s) at (next s) ring (darts s) (λ e i. sym (dart_at_law (vertex_of s.tails s.heads) (darts s) e i)) d l (((permutation_law (darts s) s.nexts).0 t).1.below d l))))
    (λ t. rw t refl)
