-- A list of edges that are marked one after the other, each of which fits the line of a vertex, is the vertex's rotation where it is as
-- long as the vertex has edges: each edge stands there at most once, and the sums over all edges are equal. Assumes nothing.
use Rattle.std.proofs.Common.{◌≡◌, ℕ, zero, suc, ◌+◌, ◌<◌, ◌≤◌, Bool, true, false, not, ◌&&◌, eqb, ltb, ◌≢◌, List, [], ◌∷◌, length, get_or, set, sym, refl, ap, ◌∙◌, subst, arith, length-set, get_or-set_other, get_or-set_same, ltb-true, eq-eqb, ne_eqb, eqb-true}
use Rattle.std.proofs.Math.Logic.{by_cases}
use Rattle.std.proofs.Math.Bool.{and-eq-true_iff, and-true, and-false}
use Rattle.std.proofs.Math.Decide.{ℕ_discrete}
use Rattle.clauses.specs.Darts.{touches_of}
use Rattle.counting.specs.Counts.{bit, count}
use Rattle.counting.proofs.Iterate.{total, by_bool}
use Rattle.counting.proofs.Below.{all_at, all_of}
use Rattle.load.specs.Rings.{occurrences, all_in, is_rotation}
use Rattle.clauses.specs.declared.Sheet.{Sheet}
use Rattle.load.specs.Load.{with_nexts}
use Rattle.load.specs.Inner.{fits_of, fit_from}

-- ---- sums over the numbers below n

total_add : (f g : ℕ → ℕ) (n : ℕ) → total (λ k. f k + g k) n ≡ total f n + total g n
unfolding total
total_add f g zero = refl
total_add f g (suc n) = omega (arith, total_add f g n)

total_count : (p : ℕ → Bool) (n : ℕ) → total (λ k. bit (p k)) n ≡ count p n
unfolding total count
total_count p zero = refl
total_count p (suc n) = omega (arith, total_count p n)

total_le : (f g : ℕ → ℕ) (n : ℕ) → ((k : ℕ) → k < n → f k ≤ g k) → total f n ≤ total g n
unfolding total
total_le f g zero h = omega arith
total_le f g (suc n) h = omega (arith, h n (omega arith), total_le f g n (λ k l. h k (omega arith)))

-- at most as much everywhere, and as much in all, is as much everywhere
total_same : (f g : ℕ → ℕ) (n : ℕ) → ((k : ℕ) → k < n → f k ≤ g k) → total f n ≡ total g n → (k : ℕ) → k < n → f k ≡ g k
unfolding total
total_same f g zero h e k l = absurd (omega arith)
total_same f g (suc n) h e k l =
    let low = total_le f g n (λ i j. h i (omega arith)) in
    by_cases (ℕ_discrete k n) (λ q. ap f q ∙ omega (arith, h n (omega arith)) ∙ ap g (sym q)) (λ q. total_same f g n (λ i j. h i (omega arith)) (omega (arith, h n (omega arith))) k (omega arith))

total_agree : (f g : ℕ → ℕ) (n : ℕ) → ((k : ℕ) → k < n → f k ≡ g k) → total f n ≡ total g n
unfolding total
total_agree f g zero h = refl
total_agree f g (suc n) h = omega (arith, h n (omega arith), total_agree f g n (λ k l. h k (omega arith)))

-- one number is counted once
total_one : (w n : ℕ) → w < n → total (λ k. bit (eqb w k)) n ≡ 1
unfolding total
total_one w zero l = absurd (omega arith)
total_one w (suc n) l = go (ℕ_discrete w n) (λ h. total_one w n h)
  where
    none : (m : ℕ) → m ≤ w → total (λ k. bit (eqb w k)) m ≡ 0
    none zero h = refl
    none (suc m) h = rw (ne_eqb w m (λ e. omega arith)) (omega (arith, none m (omega arith)))

    go : Dec (w ≡ n) → (w < n → total (λ k. bit (eqb w k)) n ≡ 1) → bit (eqb w n) + total (λ k. bit (eqb w k)) n ≡ 1
    go (yes e) ih = rw (eq-eqb w n e) (omega (arith, none n (omega arith)))
    go (no e) ih = rw (ne_eqb w n e) (omega (arith, ih (omega arith)))

-- ---- how often numbers below m stand in a list of such numbers: in all, as often as it is long

all_in_head : (p : ℕ → Bool) (w : ℕ) (ws : List ℕ) → all_in p (w ∷ ws) ≡ true → (p w ≡ true) × (all_in p ws ≡ true)
unfolding all_in
all_in_head p w ws h = (and-eq-true_iff (p w) (all_in p ws)).0 h

total_none : (n : ℕ) → total (λ k. 0) n ≡ 0
unfolding total
total_none zero = refl
total_none (suc n) = omega (arith, total_none n)

total_occurrences : (m : ℕ) (ws : List ℕ) → all_in (λ w. ltb w m) ws ≡ true → total (λ k. occurrences k ws) m ≡ length ws
unfolding occurrences
total_occurrences m [] h = total_none m
total_occurrences m (w ∷ ws) h =
    let (l, t) = all_in_head (λ x. ltb x m) w ws h in
    total_add (λ k. bit (eqb w k)) (λ k. occurrences k ws) m ∙ omega (arith, total_one w m (ltb-true w m l), total_occurrences m ws t)

-- ---- edges that fit the line of v, and how often they stand there

module _ (s : Sheet) (v : ℕ) where
  -- an edge of v that does not bear the line's mark
  free : List ℕ → ℕ → Bool
  free seen k = touches_of s.tails s.heads k v && not (eqb (get_or seen k 0) (v + 1))

  module _ (seen : List ℕ) (w : ℕ) (l : w < length seen) where
    free_same : free (set seen w (v + 1)) w ≡ false
    unfolding free
    free_same = rw (eq-eqb (get_or (set seen w (v + 1)) w 0) (v + 1) (get_or-set_same seen w (v + 1) 0 l)) (and-false (touches_of s.tails s.heads w v))

    free_other : (k : ℕ) → k ≢ w → free (set seen w (v + 1)) k ≡ free seen k
    unfolding free
    free_other k n = rw (get_or-set_other seen w k (v + 1) 0 n) refl

  -- each stands there at most once, and only where it is free
  pub Once : List ℕ → List ℕ → Type 0
  Once seen ws = (all_in (λ w. ltb w s.edges) ws ≡ true) × ((k : ℕ) → k < s.edges → occurrences k ws ≤ bit (free seen k))

  fit_once : (ws seen : List ℕ) → s.edges ≤ length seen → fit_from s v seen ws ≡ true → Once seen ws
  unfolding Once fit_from fits_of free all_in occurrences
  fit_once [] seen h f = (refl, λ k l. omega arith)
  fit_once (w ∷ ws) seen h f =
      let (first, later) = (and-eq-true_iff (fits_of s v seen w) (fit_from s v (set seen w (v + 1)) ws)).0 f in
      let (below, here) = (and-eq-true_iff (ltb w s.edges) (free seen w)).0 first in
      let l : w < length seen = omega (arith, ltb-true w s.edges below) in
      let (all, once) = fit_once ws (set seen w (v + 1)) (omega (arith, length-set seen w (v + 1))) later in (
        (and-eq-true_iff (ltb w s.edges) (all_in (λ x. ltb x s.edges) ws)).1 (below, all),
        λ k j.
            by_cases (ℕ_discrete k w)
            (λ e. subst (λ x. occurrences x (w ∷ ws) ≤ bit (free seen x)) (sym e) (rw (eq-eqb w w refl, here) (omega (arith, rw (free_same seen w l) at (once w (ltb-true w s.edges below))))))
            (λ n. rw (ne_eqb w k (λ e. n (sym e))) (omega (arith, rw (free_other seen w l k n) at (once k j)))),
      )

  once_fit : (ws seen : List ℕ) → s.edges ≤ length seen → Once seen ws → fit_from s v seen ws ≡ true
  unfolding Once fit_from fits_of free occurrences
  once_fit [] seen h o = refl
  once_fit (w ∷ ws) seen h o =
      let (below, all) = all_in_head (λ x. ltb x s.edges) w ws o.0 in
      let one = rw (eq-eqb w w refl) at (o.1 w (ltb-true w s.edges below)) in
      let here : free seen w ≡ true = by_bool (free seen w) (λ t. t) (λ f. absurd (omega (arith, rw f at one))) in
      let l : w < length seen = omega (arith, ltb-true w s.edges below) in
      let later = once_fit ws (set seen w (v + 1)) (omega (arith, length-set seen w (v + 1))) (
        all,
        λ k j.
            by_cases (ℕ_discrete k w) (λ e. rw e (omega (arith, rw here at one))) (λ n. rw (free_other seen w l k n) (omega (arith, rw (ne_eqb w k (λ e. n (sym e))) at (o.1 k j)))),
      ) in
      (and-eq-true_iff (fits_of s v seen w) (fit_from s v (set seen w (v + 1)) ws)).1 ((and-eq-true_iff (ltb w s.edges) (free seen w)).1 (below, here), later)

  free_clear : (seen : List ℕ) (k : ℕ) → get_or seen k 0 ≤ v → free seen k ≡ touches_of s.tails s.heads k v
  unfolding free
  free_clear seen k h = rw (ne_eqb (get_or seen k 0) (v + 1) (λ e. omega arith)) (and-true (touches_of s.tails s.heads k v))

-- ---- the list is the rotation

module _ (s : Sheet) (nexts : List ℕ) (v : ℕ) (ws seen : List ℕ) (room : s.edges ≤ length seen) (clear : (k : ℕ) → get_or seen k 0 ≤ v) (degree : ℕ)
    (d : degree ≡ count (λ k. touches_of s.tails s.heads k v) s.edges) where
  pub rotation_if : length ws ≡ degree → fit_from s v seen ws ≡ true → is_rotation (with_nexts s nexts) v ws ≡ true
  unfolding is_rotation with_nexts touches_of Once
  rotation_if e f =
      let (all, once) = fit_once s v ws seen room f in
      let same = total_same (λ k. occurrences k ws) (λ k. bit (touches_of s.tails s.heads k v)) s.edges (λ k l. rw (free_clear s v seen k (clear k)) at (once k l)) (total_occurrences s.edges ws all ∙ e ∙ d ∙ sym (total_count (λ k. touches_of s.tails s.heads k v) s.edges)) in
      (and-eq-true_iff _ _).1 (all, all_of _ s.edges (λ k l. eq-eqb _ _ (same k l)))

  rotation_once : is_rotation (with_nexts s nexts) v ws ≡ true
      → (all_in (λ w. ltb w s.edges) ws ≡ true) × ((k : ℕ) → k < s.edges → occurrences k ws ≡ bit (touches_of s.tails s.heads k v))
  unfolding is_rotation with_nexts touches_of
  rotation_once r = let (all, each) = (and-eq-true_iff _ _).0 r in (all, λ k l. eqb-true _ _ (all_at _ s.edges each k l))

  pub rotation_length : is_rotation (with_nexts s nexts) v ws ≡ true → length ws ≡ degree
  rotation_length r =
      let (all, each) = rotation_once r in
      sym (total_occurrences s.edges ws all) ∙ total_agree (λ k. occurrences k ws) (λ k. bit (touches_of s.tails s.heads k v)) s.edges each ∙ total_count (λ k. touches_of s.tails s.heads k v) s.edges ∙ sym d

  pub rotation_fits : is_rotation (with_nexts s nexts) v ws ≡ true → fit_from s v seen ws ≡ true
  unfolding Once
  rotation_fits r =
      let (all, each) = rotation_once r in
      once_fit s v ws seen room (all, λ k l. rw (free_clear s v seen k (clear k)) (omega (arith, each k l)))
