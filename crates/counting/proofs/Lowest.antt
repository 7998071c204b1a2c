-- The labelling of a permutation's orbits in the order of their lowest elements; the number of orbits as a count. Assumes nothing.
use Rattle.std.proofs.Common.{◌≡◌, refl, sym, ◌∙◌, ap, subst, Bool, true, ◌&&◌, ℕ, zero, suc, ◌≤◌, ◌<◌, min, le_antisymm, arith, leb, leb-true, le-leb}
use Rattle.std.proofs.Math.Logic.{by_cases}
use Rattle.std.proofs.Math.Bool.{and-eq-true_iff}
use Rattle.std.proofs.Math.Nat.{min-eq_left, min-eq_right}
use Rattle.std.proofs.Math.Decide.{ℕ_discrete, dec_le}
use Rattle.counting.specs.Counts.{count}
use Rattle.counting.specs.Orbits.{Perm, iter, Reach, Orbits}
use Rattle.counting.proofs.Counts.{count_lt, count_one_one, count_onto}
use Rattle.counting.proofs.Reach.{reach_refl, reach_trans, reach_sym, reach_soon, reach_below}
use Rattle.counting.proofs.Orbits.{labels_orbits}

-- no iterate of d at a place below n is lower than d; at n = N: d is the lowest of its orbit
unfoldable pub low : (ℕ → ℕ) → ℕ → ℕ → Bool
low φ zero d = true
low φ (suc n) d = leb d (iter φ n d) && low φ n d

-- the lowest of d and its iterates at places below n
unfoldable pub lowest : (ℕ → ℕ) → ℕ → ℕ → ℕ
lowest φ zero d = d
lowest φ (suc n) d = min (iter φ n d) (lowest φ n d)

-- the number of orbits: how many are the lowest of theirs
unfoldable pub orbit_count : (ℕ → ℕ) → ℕ → ℕ
orbit_count φ N = count (low φ N) N

-- the orbit of d, in the order of their lowest elements
unfoldable pub orbit_of : (ℕ → ℕ) → ℕ → ℕ → ℕ
orbit_of φ N d = count (low φ N) (lowest φ N d)

low→ : (φ : ℕ → ℕ) (n d : ℕ) → low φ n d ≡ true → (i : ℕ) → i < n → d ≤ iter φ i d
unfolding low
low→ φ zero d t i h = absurd (omega arith)
low→ φ (suc n) d t i h =
    let (here, rest) = (and-eq-true_iff (leb d (iter φ n d)) (low φ n d)).0 t in
    by_cases (ℕ_discrete i n)
    (λ e. subst (λ x. d ≤ iter φ x d) (sym e) (leb-true d (iter φ n d) here))
    (λ e. low→ φ n d rest i (omega arith))

→low : (φ : ℕ → ℕ) (n d : ℕ) → ((i : ℕ) → i < n → d ≤ iter φ i d) → low φ n d ≡ true
unfolding low
→low φ zero d f = refl
→low φ (suc n) d f =
    (and-eq-true_iff (leb d (iter φ n d)) (low φ n d)).1 (le-leb d (iter φ n d) (f n (omega arith)), →low φ n d (λ i h. f i (omega arith)))

lowest_le : (φ : ℕ → ℕ) (n d i : ℕ) → i < n → lowest φ n d ≤ iter φ i d
unfolding lowest
lowest_le φ zero d i h = absurd (omega arith)
lowest_le φ (suc n) d i h = by_cases (ℕ_discrete i n)
    (λ e. subst (λ x. min (iter φ n d) (lowest φ n d) ≤ iter φ x d) (sym e) (omega arith))
    (λ e. omega (arith, lowest_le φ n d i (omega arith)))

lowest_reach : (φ : ℕ → ℕ) (n d : ℕ) → Reach φ d (lowest φ n d)
unfolding lowest
lowest_reach φ zero d = reach_refl φ d
lowest_reach φ (suc n) d = by_cases (dec_le (iter φ n d) (lowest φ n d))
    (λ h. (n, sym (min-eq_left h)))
    (λ h. subst (Reach φ d) (sym (min-eq_right (omega arith))) (lowest_reach φ n d))

module _ {N : ℕ} {φ : ℕ → ℕ} (P : Perm N φ) where
  -- all that is reached from the lowest of an orbit is at least that
  low_least : {d e : ℕ} → d < N → low φ N d ≡ true → Reach φ d e → d ≤ e
  low_least {d} {e} h t r = let s = reach_soon P h r in subst (λ x. d ≤ x) s.2 (low→ φ N d t s.0 s.1)

  lowest_least : {d e : ℕ} → d < N → Reach φ d e → lowest φ N d ≤ e
  lowest_least {d} {e} h r = let s = reach_soon P h r in subst (λ x. lowest φ N d ≤ x) s.2 (lowest_le φ N d s.0 s.1)

  lowest_below_law : {d : ℕ} → d < N → lowest φ N d < N
  lowest_below_law {d} h = reach_below P h (lowest_reach φ N d)

  -- `lowest` finds one that is `low`, and keeps one that is
  lowest_low : {d : ℕ} → d < N → low φ N (lowest φ N d) ≡ true
  lowest_low {d} h = →low φ N (lowest φ N d) (λ i l. lowest_least h (reach_trans φ (lowest_reach φ N d) (i, refl)))

  low_lowest : {d : ℕ} → d < N → low φ N d ≡ true → lowest φ N d ≡ d
  low_lowest {d} h t = le_antisymm (lowest_least h (reach_refl φ d)) (low_least h t (lowest_reach φ N d))

  -- those that reach one another have one lowest
  lowest_same : {d e : ℕ} → d < N → Reach φ d e → lowest φ N d ≡ lowest φ N e
  lowest_same {d} {e} h r =
      le_antisymm (lowest_least h (reach_trans φ r (lowest_reach φ N e)))
      (lowest_least (reach_below P h r) (reach_trans φ (reach_sym P h r) (lowest_reach φ N d)))

  -- so every permutation has a labelling of its orbits
  pub lowest_orbits : Orbits N φ (orbit_of φ N) (orbit_count φ N)
  unfolding orbit_of orbit_count
  lowest_orbits = record {
    inside = λ d h. count_lt (low φ N) (lowest φ N d) N (lowest_below_law h) (lowest_low h);
    step = λ d h. ap (count (low φ N)) (sym (lowest_same h (1, refl)));
    joins = λ d e h k q.
        let same : lowest φ N d ≡ lowest φ N e = count_one_one (low φ N) (lowest φ N d) (lowest φ N e) (lowest_low h) (lowest_low k) q in
        reach_trans φ (subst (Reach φ d) same (lowest_reach φ N d)) (reach_sym P k (lowest_reach φ N e));
    used = λ c h. let t = count_onto (low φ N) c N h in (t.0, t.1, ap (count (low φ N)) (low_lowest t.1 t.2) ∙ t.3);
  }

  -- kept labels of that number label the orbits
  pub orbits_by_count : (number : ℕ) → orbit_count φ N ≡ number → (L : ℕ → ℕ) → ((d : ℕ) → d < N → L d < number) → ((d : ℕ) → d < N → L (φ d) ≡ L d)
      → ((c : ℕ) → c < number → (d : ℕ) × (d < N) × (L d ≡ c)) → Orbits N φ L number
  orbits_by_count number e = labels_orbits P (subst (Orbits N φ (orbit_of φ N)) e lowest_orbits)
