-- What two darts are sent to is swapped: an orbit that holds both is split, two orbits that hold one each are merged. Assumes nothing.
use Rattle.std.proofs.Common.{◌≡◌, refl, sym, ◌∙◌, ap, subst, ◌≢◌, ◌⊎◌, inl, inr, ℕ, zero, suc, ◌+◌, ◌-◌, ◌≤◌, ◌<◌, le_antisymm, arith}
use Rattle.std.proofs.Math.Logic.{by_cases, ite, if_pos, if_neg}
use Rattle.std.proofs.Math.Decide.{ℕ_discrete}
use Rattle.counting.specs.Orbits.{Perm, iter, Reach, Orbits}
use Rattle.counting.proofs.Pigeonhole.{Found, at, nowhere, find}
use Rattle.counting.proofs.Iterate.{iter_add}
use Rattle.counting.proofs.Reach.{iter_below}
use Rattle.counting.proofs.Orbits.{kept, kept_joined, labels_le, labels_lt}

-- φ' is φ with what p and q are sent to swapped
pub record Swapped (N p q : ℕ) (φ φ' : ℕ → ℕ) : Type 0 where
  pub p_below : p < N
  pub q_below : q < N
  pub two : p ≢ q
  pub at_p : φ' p ≡ φ q
  pub at_q : φ' q ≡ φ p
  pub rest : (d : ℕ) → d < N → d ≢ p → d ≢ q → φ' d ≡ φ d

-- swapping again gives φ back
pub swapped_back : {N p q : ℕ} {φ φ' : ℕ → ℕ} → Swapped N p q φ φ' → Swapped N p q φ' φ
swapped_back s = record {
  p_below = s.p_below;
  q_below = s.q_below;
  two = s.two;
  at_p = sym s.at_q;
  at_q = sym s.at_p;
  rest = λ d h n m. sym (s.rest d h n m);
}

-- where a dart stands, and what φ' makes of it
data Spot (N p q : ℕ) (φ : ℕ → ℕ) (d v : ℕ) : Type 0 where
  on_p : d ≡ p → v ≡ φ q → Spot N p q φ d v
  on_q : d ≡ q → v ≡ φ p → Spot N p q φ d v
  off : d < N → d ≢ p → d ≢ q → v ≡ φ d → Spot N p q φ d v

module _ {N p q : ℕ} {φ φ' : ℕ → ℕ} (s : Swapped N p q φ φ') where
  spot : (d : ℕ) → d < N → Spot N p q φ d (φ' d)
  spot d h = by_cases (ℕ_discrete d p) (λ e. on_p e (ap φ' e ∙ s.at_p)) (λ e.
      by_cases (ℕ_discrete d q) (λ g. on_q g (ap φ' g ∙ s.at_q)) (λ g. off h e g (s.rest d h e g)))

-- ---- merge: p and q in different orbits

module _ {N p q : ℕ} {φ φ' label label' : ℕ → ℕ} {c c' : ℕ} (P : Perm N φ) (P' : Perm N φ') (s : Swapped N p q φ φ')
    (o : Orbits N φ label c) (o' : Orbits N φ' label' c') (apart : label p ≢ label q) where
  -- φ' goes from p round the old orbit of q, and comes to q
  round : (k : ℕ) → (label' (iter φ k (φ q)) ≡ label' p) ⊎ (label' p ≡ label' q)
  round zero = inl (cc (s.at_p, o'.step p s.p_below))
  round (suc k) = go (round k)
    where
      z : ℕ
      z = iter φ k (φ q)

      z_below : z < N
      z_below = iter_below P k (φ q) (P.below q s.q_below)

      z_label : label z ≡ label q
      z_label = kept P label o.step k (φ q) (P.below q s.q_below) ∙ o.step q s.q_below

      go : (label' z ≡ label' p) ⊎ (label' p ≡ label' q) → (label' (φ z) ≡ label' p) ⊎ (label' p ≡ label' q)
      go (inr e) = inr e
      go (inl e) = by_cases (ℕ_discrete z q) (λ g. inr (cc)) (λ g. inl (cc (s.rest z z_below (λ n. apart (cc (z_label))) g, o'.step z z_below)))

  pub merge_joins : label' p ≡ label' q
  merge_joins = go (o.joins (φ q) q (P.below q s.q_below) s.q_below (o.step q s.q_below))
    where
      done : (k : ℕ) → iter φ k (φ q) ≡ q → (label' (iter φ k (φ q)) ≡ label' p) ⊎ (label' p ≡ label' q) → label' p ≡ label' q
      done k e (inl g) = cc
      done k e (inr g) = g

      go : Reach φ (φ q) q → label' p ≡ label' q
      go (k, e) = done k e (round k)

  -- what lay together lies together
  merge_keeps : (d : ℕ) → d < N → label' (φ d) ≡ label' d
  merge_keeps d h = go (spot (swapped_back s) d h)
    where
      go : Spot N p q φ' d (φ d) → label' (φ d) ≡ label' d
      go (on_p e g) = cc (o'.step q s.q_below, merge_joins)
      go (on_q e g) = cc (o'.step p s.p_below, merge_joins)
      go (off k m n g) = cc (o'.step d h)

  merge_together : (d e : ℕ) → d < N → e < N → label d ≡ label e → label' d ≡ label' e
  merge_together = kept_joined P o label' merge_keeps

  -- the old labels, with that of q turned into that of p
  turned : ℕ → ℕ
  turned d = ite (ℕ_discrete (label d) (label q)) (label p) (label d)

  turned_is : (d : ℕ) → label d ≡ label q → turned d ≡ label p
  unfolding turned
  turned_is d e = if_pos (ℕ_discrete (label d) (label q)) e (label p) (label d)

  turned_not : (d : ℕ) → label d ≢ label q → turned d ≡ label d
  unfolding turned
  turned_not d e = if_neg (ℕ_discrete (label d) (label q)) e (label p) (label d)

  turned_same : (d e : ℕ) → label d ≡ label e → turned d ≡ turned e
  unfolding turned
  turned_same d e h = ap (λ x. ite (ℕ_discrete x (label q)) (label p) x) h

  turned_keeps : (d : ℕ) → d < N → turned (φ' d) ≡ turned d
  turned_keeps d h = go (spot s d h)
    where
      go : Spot N p q φ d (φ' d) → turned (φ' d) ≡ turned d
      go (on_p e g) = cc (turned_same (φ q) q (o.step q s.q_below), turned_is q refl, turned_not p apart)
      go (on_q e g) = cc (turned_same (φ p) p (o.step p s.p_below), turned_is q refl, turned_not p apart)
      go (off k m n g) = cc (turned_same (φ d) d (o.step d h))

  turned_joined : (d e : ℕ) → d < N → e < N → label' d ≡ label' e → turned d ≡ turned e
  turned_joined = kept_joined P' o' turned turned_keeps

  -- a dart with that label, in the new orbit of d and not in the old one of q
  seat : (d : ℕ) → d < N → (r : ℕ) × (r < N) × (label r ≡ turned d) × (label' r ≡ label' d) × (label r ≢ label q)
  seat d h = by_cases (ℕ_discrete (label d) (label q))
      (λ e. (p, s.p_below, sym (turned_is d e), merge_joins ∙ sym (merge_together d q h s.q_below e), apart))
      (λ e. (d, h, sym (turned_not d e), refl, e))

  turned_below : (d : ℕ) → d < N → turned d < c
  turned_below d h = let t = seat d h in subst (λ x. x < c) t.2 (o.inside t.0 t.1)

  turned_tells : (d e : ℕ) → d < N → e < N → turned d ≡ turned e → label' d ≡ label' e
  turned_tells d e h k g =
      let t = seat d h in let u = seat e k in
      sym t.3 ∙ merge_together t.0 u.0 t.1 u.1 (t.2 ∙ g ∙ sym u.2) ∙ u.3

  turned_free : (d : ℕ) → d < N → turned d ≢ label q
  turned_free d h e = let t = seat d h in t.4 (t.2 ∙ e)

  -- the new labels, with a new one for what lay with q
  fresh : ℕ → ℕ
  fresh d = ite (ℕ_discrete (label d) (label q)) c' (label' d)

  fresh_is : (d : ℕ) → label d ≡ label q → fresh d ≡ c'
  unfolding fresh
  fresh_is d e = if_pos (ℕ_discrete (label d) (label q)) e c' (label' d)

  fresh_not : (d : ℕ) → label d ≢ label q → fresh d ≡ label' d
  unfolding fresh
  fresh_not d e = if_neg (ℕ_discrete (label d) (label q)) e c' (label' d)

  fresh_below : (d : ℕ) → d < N → fresh d < suc c'
  fresh_below d h = by_cases (ℕ_discrete (label d) (label q)) (λ e. omega (arith, fresh_is d e)) (λ e. omega (arith, fresh_not d e, o'.inside d h))

  fresh_tells : (d e : ℕ) → d < N → e < N → fresh d ≡ fresh e → label d ≡ label e
  fresh_tells d e h k g = by_cases (ℕ_discrete (label d) (label q))
      (λ a. by_cases (ℕ_discrete (label e) (label q)) (λ b. a ∙ sym b) (λ b. absurd (omega (arith, fresh_is d a, fresh_not e b, o'.inside e k))))
      (λ a. by_cases (ℕ_discrete (label e) (label q)) (λ b. absurd (omega (arith, fresh_not d a, fresh_is e b, o'.inside d h)))
      (λ b. cc (turned_joined d e h k (cc (fresh_not d a, fresh_not e b)), turned_not d a, turned_not e b)))

  -- two orbits are merged, and there is one fewer
  pub merge_number : c ≡ suc c'
  merge_number = le_antisymm
      (labels_le o fresh (suc c') fresh_below fresh_tells)
      (labels_lt o' turned c turned_below turned_tells (label q) (o.inside q s.q_below) turned_free)

-- ---- split: p and q in one orbit

module _ {N p q : ℕ} {φ φ' : ℕ → ℕ} (P : Perm N φ) (s : Swapped N p q φ φ') where
  -- i steps lead from p to q, and no fewer
  module _ (i : ℕ) (to : iter φ i p ≡ q) (first : (j : ℕ) → j < i → iter φ j p ≢ q) where
    -- p itself is not met between
    not_p : (k : ℕ) → 0 < k → k ≤ i → iter φ k p ≢ p
    not_p k a b e = by_cases (ℕ_discrete k i) (λ g. s.two (cc))
        (λ g. first (i - k) (omega arith) (let z : i ≡ (i - k) + k = omega arith in cc (iter_add φ (i - k) k p)))

    -- so φ' goes round between p and q
    stays : (j : ℕ) → (k : ℕ) × (0 < k) × (k ≤ i) × (iter φ' j q ≡ iter φ k p)
    stays zero = (i, by_cases (ℕ_discrete i 0) (λ e. absurd (s.two (cc))) (λ e. omega arith), omega arith, sym to)
    stays (suc j) = let t = stays j in by_cases (ℕ_discrete t.0 i)
        (λ e. (1, omega arith, omega (arith, t.1, t.2), cc s.at_q))
        (λ e. (suc t.0, omega arith, omega (arith, t.2), ap φ' t.3 ∙ s.rest (iter φ t.0 p) (iter_below P t.0 p s.p_below) (not_p t.0 t.1 t.2) (first t.0 (omega (arith, t.2)))))

    parts_at : (j : ℕ) → iter φ' j q ≢ p
    parts_at j e = let t = stays j in not_p t.0 t.1 t.2 (sym t.3 ∙ e)

  parts : Reach φ p q → ¬ Reach φ' q p
  parts (n, e) (j, g) = go (find (λ i. iter φ i p ≡ q) (λ i. ℕ_discrete (iter φ i p) q) (suc n))
    where
      go : Found (λ i. iter φ i p ≡ q) (suc n) → ⊥
      go (at i l h m) = parts_at i h m j g
      go (nowhere m) = m n (omega arith) e

module _ {N p q : ℕ} {φ φ' label label' : ℕ → ℕ} {c c' : ℕ} (P : Perm N φ) (P' : Perm N φ') (s : Swapped N p q φ φ')
    (o : Orbits N φ label c) (o' : Orbits N φ' label' c') (together : label p ≡ label q) where
  -- the orbit of p and q is split: they part, and there is one more
  pub split_parts : label' p ≢ label' q
  split_parts e = parts P s (o.joins p q s.p_below s.q_below together) (o'.joins q p s.q_below s.p_below (sym e))

  pub split_number : c' ≡ suc c
  split_number = merge_number P' P (swapped_back s) o' o split_parts

-- ---- the swap as a function

unfoldable pub swap : ℕ → ℕ → (ℕ → ℕ) → ℕ → ℕ
swap p q φ d = ite (ℕ_discrete d p) (φ q) (ite (ℕ_discrete d q) (φ p) (φ d))

pub swap_swapped : (N p q : ℕ) (φ : ℕ → ℕ) → p < N → q < N → p ≢ q → Swapped N p q φ (swap p q φ)
unfolding swap
swap_swapped N p q φ h k n = record {
  p_below = h;
  q_below = k;
  two = n;
  at_p = if_pos (ℕ_discrete p p) refl (φ q) (ite (ℕ_discrete p q) (φ p) (φ p));
  at_q = if_neg (ℕ_discrete q p) (λ e. n (sym e)) (φ q) (ite (ℕ_discrete q q) (φ p) (φ q)) ∙ if_pos (ℕ_discrete q q) refl (φ p) (φ q);
  rest = λ d l a b. if_neg (ℕ_discrete d p) a (φ q) (ite (ℕ_discrete d q) (φ p) (φ d)) ∙ if_neg (ℕ_discrete d q) b (φ p) (φ d);
}
