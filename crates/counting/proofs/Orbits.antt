-- Labels that a permutation keeps, the number of its orbits, and renumbering. Assumes nothing.
use Rattle.std.proofs.Common.{◌≡◌, refl, sym, ◌∙◌, ap, subst, ◌≢◌, ℕ, zero, suc, ◌≤◌, ◌<◌, le_antisymm, arith}
use Rattle.std.proofs.Math.Logic.{by_cases}
use Rattle.std.proofs.Math.Decide.{ℕ_discrete}
use Rattle.counting.specs.Orbits.{Perm, Bijection, iter, Reach, Orbits}
use Rattle.counting.proofs.Pigeonhole.{Sent, Apart, pigeonhole}
use Rattle.counting.proofs.Reach.{iter_below}

-- ---- labels

module _ {N : ℕ} {φ : ℕ → ℕ} (P : Perm N φ) where
  -- a label that one step keeps is kept by all
  pub kept : (L : ℕ → ℕ) → ((d : ℕ) → d < N → L (φ d) ≡ L d) → (i d : ℕ) → d < N → L (iter φ i d) ≡ L d
  kept L s zero d h = refl
  kept L s (suc i) d h = s (iter φ i d) (iter_below P i d h) ∙ kept L s i d h

  -- so it is the same at two numbers of one orbit
  pub kept_reach : (L : ℕ → ℕ) → ((d : ℕ) → d < N → L (φ d) ≡ L d) → (d e : ℕ) → d < N → Reach φ d e → L d ≡ L e
  kept_reach L s d e h (i, r) = sym (kept L s i d h) ∙ ap L r

  pub kept_joined : {label : ℕ → ℕ} {count : ℕ} → Orbits N φ label count → (L : ℕ → ℕ) → ((d : ℕ) → d < N → L (φ d) ≡ L d)
      → (d e : ℕ) → d < N → e < N → label d ≡ label e → L d ≡ L e
  kept_joined o L s d e h k q = kept_reach L s d e h (o.joins d e h k q)

-- ---- the number of orbits, bounded by labels that tell them apart

module _ {N : ℕ} {φ label : ℕ → ℕ} {count : ℕ} (o : Orbits N φ label count) (L : ℕ → ℕ) (m : ℕ)
    (low : (d : ℕ) → d < N → L d < m) (tells : (d e : ℕ) → d < N → e < N → L d ≡ L e → label d ≡ label e) where
  data Has (c k : ℕ) : Type 0 where
    has : (d : ℕ) → d < N → label d ≡ c → L d ≡ k → Has c k

  data More (b c k : ℕ) : Type 0 where
    extra : c ≡ count → k ≡ b → More b c k
    old : Has c k → More b c k

  -- labels below m that tell the orbits apart: there are at most m orbits
  pub labels_le : count ≤ m
  labels_le = pigeonhole count m Has sent apart
    where
      sent : (c : ℕ) → c < count → Sent Has m c
      sent c h = let t = o.used c h in (L t.0, low t.0 t.1, has t.0 t.1 t.2 refl)

      apart : Apart Has count
      apart c c' k h h' (has d l a b) (has d' l' a' b') = sym a ∙ tells d d' l l' (b ∙ sym b') ∙ a'

  -- and fewer than m, if one of the labels is not used
  pub labels_lt : (b : ℕ) → b < m → ((d : ℕ) → d < N → L d ≢ b) → count < m
  labels_lt b g free = pigeonhole (suc count) m (More b) sent apart
    where
      sent : (c : ℕ) → c < suc count → Sent (More b) m c
      sent c h = by_cases (ℕ_discrete c count)
          (λ e. (b, g, extra e refl))
          (λ e. let t = o.used c (omega arith) in (L t.0, low t.0 t.1, old (has t.0 t.1 t.2 refl)))

      apart : Apart (More b) (suc count)
      apart c c' k h h' (extra a e) (extra a' e') = a ∙ sym a'
      apart c c' k h h' (extra a e) (old (has d l a' e')) = absurd (free d l (e' ∙ e))
      apart c c' k h h' (old (has d l a e)) (extra a' e') = absurd (free d l (e ∙ e'))
      apart c c' k h h' (old (has d l a e)) (old (has d' l' a' e')) = sym a ∙ tells d d' l l' (e ∙ sym e') ∙ a'

-- ---- two permutations, with maps between their numbers that carry the orbits of each into those of the other

-- `back` carries the orbits of φ' into those of φ, and undoes `forth` up to orbits: φ has no more orbits than φ'
pub number_le : {N N' : ℕ} {φ φ' label label' : ℕ → ℕ} {count count' : ℕ} → Orbits N φ label count → Perm N' φ' → Orbits N' φ' label' count'
    → (forth back : ℕ → ℕ) → ((d : ℕ) → d < N → forth d < N') → ((d : ℕ) → d < N' → label (back (φ' d)) ≡ label (back d))
    → ((d : ℕ) → d < N → label (back (forth d)) ≡ label d) → count ≤ count'
number_le {label = label} {label' = label'} {count' = count'} o P' o' forth back l s u =
    labels_le o (λ d. label' (forth d)) count' (λ d h. o'.inside (forth d) (l d h))
    (λ d e h k q. sym (u d h) ∙ kept_joined P' o' (λ x. label (back x)) s (forth d) (forth e) (l d h) (l e k) q ∙ u e k)

-- two labellings of one permutation have the same number
pub number_unique : {N : ℕ} {φ label label' : ℕ → ℕ} {count count' : ℕ} → Perm N φ → Orbits N φ label count → Orbits N φ label' count' → count ≡ count'
number_unique P o o' = le_antisymm
    (number_le o P o' (λ x. x) (λ x. x) (λ d h. h) o.step (λ d h. refl))
    (number_le o' P o (λ x. x) (λ x. x) (λ d h. h) o'.step (λ d h. refl))

-- ---- labels that are kept and as many as the orbits

module _ {N : ℕ} {φ label : ℕ → ℕ} {count : ℕ} (P : Perm N φ) (o : Orbits N φ label count) (L : ℕ → ℕ) (inside : (d : ℕ) → d < N → L d < count)
    (step : (d : ℕ) → d < N → L (φ d) ≡ L d) (used : (c : ℕ) → c < count → (d : ℕ) × (d < N) × (L d ≡ c)) where
  -- two orbits with one such label would leave too few for the others
  module _ (d e : ℕ) (h : d < N) (k : e < N) (same : L d ≡ L e) (apart : label d ≢ label e) where
    data Via (c j : ℕ) : Type 0 where
      extra : c ≡ count → j ≡ label e → Via c j
      other : (x : ℕ) → x < N → L x ≡ c → label x ≡ j → label x ≢ label e → Via c j

    too_few : suc count ≤ count
    too_few = pigeonhole (suc count) count Via sent one
      where
        sent : (c : ℕ) → c < suc count → Sent Via count c
        sent c l = by_cases (ℕ_discrete c count)
            (λ q. (label e, o.inside e k, extra q refl))
            (λ q. by_cases (ℕ_discrete c (L d))
            (λ r. (label d, o.inside d h, other d h (sym r) refl apart))
            (λ r. let t = used c (omega arith) in (
              label t.0,
              o.inside t.0 t.1,
              other t.0 t.1 t.2 refl
                  (λ z. r (sym t.2 ∙ kept_joined P o L step t.0 e t.1 k z ∙ sym same)),
            )))

        one : Apart Via (suc count)
        one c c' j l l' (extra a b) (extra a' b') = a ∙ sym a'
        one c c' j l l' (extra a b) (other x m a' b' n) = absurd (n (b' ∙ b))
        one c c' j l l' (other x m a b n) (extra a' b') = absurd (n (b ∙ b'))
        one c c' j l l' (other x m a b n) (other x' m' a' b' n') = sym a ∙ kept_joined P o L step x x' m m' (b ∙ sym b') ∙ a'

  -- such labels number the orbits too
  pub labels_orbits : Orbits N φ L count
  labels_orbits = record {
    inside = inside;
    step = step;
    joins = λ d e h k q. o.joins d e h k (by_cases (ℕ_discrete (label d) (label e)) (λ z. z) (λ z. absurd (let few = too_few d e h k q z in omega arith)));
    used = used;
  }

-- ---- renumbering

-- φ' is φ with its numbers renumbered by σ
module _ {N : ℕ} {φ σ τ : ℕ → ℕ} (P : Perm N φ) (φ' : ℕ → ℕ) (b : Bijection N σ τ) (carried : (d : ℕ) → d < N → φ' (σ d) ≡ σ (φ d)) where
  -- φ' by the old numbers
  pub renumbered_at : (d : ℕ) → d < N → φ' d ≡ σ (φ (τ d))
  renumbered_at d h = cc (b.to_from d h, carried (τ d) (b.from_below d h))

  old_below : (d : ℕ) → d < N → φ (τ d) < N
  old_below d h = P.below (τ d) (b.from_below d h)

  pub renumbered_perm : Perm N φ'
  renumbered_perm = record {
    below = λ d h. subst (λ x. x < N) (sym (renumbered_at d h)) (b.to_below (φ (τ d)) (old_below d h));
    one_one = λ d e h k q.
        let a : φ (τ d) ≡ φ (τ e) = cc (renumbered_at d h, renumbered_at e k, b.from_to (φ (τ d)) (old_below d h), b.from_to (φ (τ e)) (old_below e k)) in
        let c : τ d ≡ τ e = P.one_one (τ d) (τ e) (b.from_below d h) (b.from_below e k) a in
        cc (b.to_from d h, b.to_from e k);
  }

  renumbered_iter : (i d : ℕ) → d < N → iter φ' i (σ d) ≡ σ (iter φ i d)
  renumbered_iter zero d h = refl
  renumbered_iter (suc i) d h = ap φ' (renumbered_iter i d h) ∙ carried (iter φ i d) (iter_below P i d h)

  -- what was reached by the old numbers is reached by the new ones
  pub renumbered_reach : (d e : ℕ) → d < N → e < N → Reach φ (τ d) (τ e) → Reach φ' d e
  renumbered_reach d e h k (i, q) =
      (i, cc (renumbered_iter i (τ d) (b.from_below d h), b.to_from d h, b.to_from e k))

  -- the orbits keep their labels, and so their number
  pub renumbered_orbits : {label : ℕ → ℕ} {count : ℕ} → Orbits N φ label count → Orbits N φ' (λ d. label (τ d)) count
  renumbered_orbits {label} o = record {
    inside = λ d h. o.inside (τ d) (b.from_below d h);
    step = λ d h. cc (renumbered_at d h, b.from_to (φ (τ d)) (old_below d h), o.step (τ d) (b.from_below d h));
    joins = λ d e h k q. renumbered_reach d e h k (o.joins (τ d) (τ e) (b.from_below d h) (b.from_below e k) q);
    used = λ c h. let t = o.used c h in (σ t.0, b.to_below t.0 t.1, ap label (b.from_to t.0 t.1) ∙ t.2);
  }

-- a function that agrees with φ below N is a permutation too, with the same orbits
as_they_were : (N : ℕ) → Bijection N (λ d. d) (λ d. d)
as_they_were N = record { to_below = λ d h. h; from_below = λ d h. h; from_to = λ d h. refl; to_from = λ d h. refl }

pub perm_agree : {N : ℕ} {φ : ℕ → ℕ} (φ' : ℕ → ℕ) → Perm N φ → ((d : ℕ) → d < N → φ' d ≡ φ d) → Perm N φ'
perm_agree {N} φ' P agree = renumbered_perm P φ' (as_they_were N) agree

pub orbits_agree : {N : ℕ} {φ : ℕ → ℕ} (φ' : ℕ → ℕ) {label : ℕ → ℕ} {count : ℕ} → Perm N φ → ((d : ℕ) → d < N → φ' d ≡ φ d)
    → Orbits N φ label count → Orbits N φ' label count
orbits_agree {N} φ' P agree = renumbered_orbits P φ' (as_they_were N) agree
