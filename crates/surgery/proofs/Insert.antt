-- New darts put into the orbits of a permutation keep their number. Assumes nothing.
use Rattle.std.proofs.Common.{◌≡◌, refl, sym, ◌∙◌, ap, subst, ◌≢◌, ℕ, suc, ◌<◌, le_antisymm, arith}
use Rattle.std.proofs.Math.Logic.{by_cases, ite, if_pos, if_neg}
use Rattle.std.proofs.Math.Decide.{ℕ_discrete}
use Rattle.counting.specs.Orbits.{Perm, Orbits}
use Rattle.counting.proofs.Orbits.{kept_joined, number_le}
use Rattle.counting.proofs.Lowest.{orbit_count, orbit_of, lowest_orbits}
use Rattle.surgery.specs.Darts.{Inserted}

-- ---- one dart

-- φ' is φ with the new dart N put in after the dart p
record One (N p : ℕ) (φ φ' : ℕ → ℕ) : Type 0 where
  pub p_below : p < N
  pub at_p : φ' p ≡ N
  pub at_new : φ' N ≡ φ p
  pub rest : (d : ℕ) → d < N → d ≢ p → φ' d ≡ φ d

-- where a dart stands, and what φ' makes of it
data Spot (N p : ℕ) (φ : ℕ → ℕ) (d v : ℕ) : Type 0 where
  new : d ≡ N → v ≡ φ p → Spot N p φ d v
  on : d ≡ p → v ≡ N → Spot N p φ d v
  off : d < N → d ≢ p → v ≡ φ d → Spot N p φ d v

module _ {N p : ℕ} {φ φ' : ℕ → ℕ} (P : Perm N φ) (s : One N p φ φ') where
  spot : (d : ℕ) → d < suc N → Spot N p φ d (φ' d)
  spot d h = by_cases (ℕ_discrete d N) (λ e. new e (ap φ' e ∙ s.at_new)) (λ e.
      by_cases (ℕ_discrete d p) (λ q. on q (ap φ' q ∙ s.at_p)) (λ q. off (omega arith) q (s.rest d (omega arith) q)))

  below_at : (d v : ℕ) → Spot N p φ d v → v < suc N
  below_at d v (new e q) = omega (arith, P.below p s.p_below)
  below_at d v (on e q) = omega arith
  below_at d v (off h n q) = omega (arith, P.below d h)

  one_one_at : (d e v : ℕ) → Spot N p φ d v → Spot N p φ e v → d ≡ e
  one_one_at d e v (new a q) (new b r) = a ∙ sym b
  one_one_at d e v (new a q) (on b r) = absurd (omega (arith, P.below p s.p_below))
  one_one_at d e v (new a q) (off h n r) = absurd (n (P.one_one e p h s.p_below (sym r ∙ q)))
  one_one_at d e v (on a q) (new b r) = absurd (omega (arith, P.below p s.p_below))
  one_one_at d e v (on a q) (on b r) = a ∙ sym b
  one_one_at d e v (on a q) (off h n r) = absurd (omega (arith, P.below e h))
  one_one_at d e v (off h n q) (new b r) = absurd (n (P.one_one d p h s.p_below (sym q ∙ r)))
  one_one_at d e v (off h n q) (on b r) = absurd (omega (arith, P.below d h))
  one_one_at d e v (off h n q) (off k m r) = P.one_one d e h k (sym q ∙ r)

  one_perm : Perm (suc N) φ'
  one_perm = record {
    below = λ d h. below_at d (φ' d) (spot d h);
    one_one = λ d e h k q. one_one_at d e (φ' d) (spot d h) (subst (Spot N p φ e) (sym q) (spot e k));
  }

  -- the new dart stands for p
  old : ℕ → ℕ
  old d = ite (ℕ_discrete d N) p d

  old_new : old N ≡ p
  unfolding old
  old_new = if_pos (ℕ_discrete N N) refl p N

  old_old : (d : ℕ) → d < N → old d ≡ d
  unfolding old
  old_old d h = if_neg (ℕ_discrete d N) (omega arith) p d

  old_below : (d : ℕ) → d < suc N → old d < N
  old_below d h = by_cases (ℕ_discrete d N) (λ e. subst (λ x. x < N) (sym (ap old e ∙ old_new)) s.p_below)
      (λ e. subst (λ x. x < N) (sym (old_old d (omega arith))) (omega arith))

  module _ {label label' : ℕ → ℕ} {c c' : ℕ} (o : Orbits N φ label c) (o' : Orbits (suc N) φ' label' c') where
    -- the new dart lies in the orbit of p
    one_new : label' N ≡ label' p
    one_new = cc (s.at_p, o'.step p (omega (arith, s.p_below)))

    -- the labels of each are kept by the other
    keeps' : (d : ℕ) → d < N → label' (φ d) ≡ label' d
    keeps' d h = by_cases (ℕ_discrete d p) (λ e. cc (s.at_new, o'.step N (omega arith), one_new))
        (λ e. cc (s.rest d h e, o'.step d (omega arith)))

    keeps_at : (d : ℕ) → Spot N p φ d (φ' d) → label (old (φ' d)) ≡ label (old d)
    keeps_at d (new e q) = cc (old_new, old_old (φ p) (P.below p s.p_below), o.step p s.p_below)
    keeps_at d (on e q) = cc (old_new, old_old p s.p_below)
    keeps_at d (off h n q) = cc (old_old d h, old_old (φ d) (P.below d h), o.step d h)

    keeps : (d : ℕ) → d < suc N → label (old (φ' d)) ≡ label (old d)
    keeps d h = keeps_at d (spot d h)

    label'_old : (d : ℕ) → d < suc N → label' (old d) ≡ label' d
    label'_old d h = by_cases (ℕ_discrete d N) (λ e. cc (old_new, one_new)) (λ e. ap label' (old_old d (omega arith)))

    one_number : c ≡ c'
    one_number = le_antisymm
        (number_le o one_perm o' (λ x. x) old (λ d h. omega arith) keeps (λ d h. ap label (old_old d h)))
        (number_le o' P o old (λ x. x) old_below keeps' label'_old)

    -- the old darts lie together as they did
    one_joins : (d e : ℕ) → d < N → e < N → label d ≡ label e → label' d ≡ label' e
    one_joins = kept_joined P o label' keeps'

    one_parts : (d e : ℕ) → d < N → e < N → label' d ≡ label' e → label d ≡ label e
    one_parts d e h k q =
        ap label (sym (old_old d h)) ∙ kept_joined one_perm o' (λ x. label (old x)) keeps d e (omega arith) (omega arith) q ∙ ap label (old_old e k)

-- what is left when the new dart is taken out is a permutation
module _ {N p : ℕ} {φ φ' : ℕ → ℕ} (P' : Perm (suc N) φ') (s : One N p φ φ') where
  -- the dart whose φ' is φ d
  data From (d : ℕ) : Type 0 where
    moved : d ≡ p → φ' N ≡ φ d → From d
    same : d ≢ p → φ' d ≡ φ d → From d

  from : (d : ℕ) → d < N → From d
  from d h = by_cases (ℕ_discrete d p) (λ e. moved e (s.at_new ∙ ap φ (sym e))) (λ e. same e (s.rest d h e))

  p_small : p < suc N
  p_small = omega (arith, s.p_below)

  -- N is φ' of p alone
  less : (r v : ℕ) → r < suc N → r ≢ p → φ' r ≡ v → v < N
  less r v h n e =
      let a : v ≢ N = λ g. n (P'.one_one r p h p_small (e ∙ g ∙ sym s.at_p)) in
      let b : φ' r < suc N = P'.below r h in omega arith

  one_removed_perm : Perm N φ
  one_removed_perm = record { below = λ d h. below d h (from d h); one_one = λ d e h k q. one_one d e h k q (from d h) (from e k) }
    where
      below : (d : ℕ) → d < N → From d → φ d < N
      below d h (moved e g) = less N (φ d) (omega arith) (omega (arith, s.p_below)) g
      below d h (same n g) = less d (φ d) (omega arith) n g

      one_one : (d e : ℕ) → d < N → e < N → φ d ≡ φ e → From d → From e → d ≡ e
      one_one d e h k q (moved a g) (moved b l) = a ∙ sym b
      one_one d e h k q (moved a g) (same n l) = absurd (let z = P'.one_one N e (omega arith) (omega arith) (g ∙ q ∙ sym l) in omega arith)
      one_one d e h k q (same n g) (moved b l) = absurd (let z = P'.one_one d N (omega arith) (omega arith) (g ∙ q ∙ sym l) in omega arith)
      one_one d e h k q (same n g) (same m l) = P'.one_one d e (omega arith) (omega arith) (g ∙ q ∙ sym l)

-- φ with the new dart N put in after p
insert : ℕ → ℕ → (ℕ → ℕ) → ℕ → ℕ
insert N p φ d = ite (ℕ_discrete d N) (φ p) (ite (ℕ_discrete d p) N (φ d))

insert_one : (N p : ℕ) (φ : ℕ → ℕ) → p < N → One N p φ (insert N p φ)
unfolding insert
insert_one N p φ h = record {
  p_below = h;
  at_p = if_neg (ℕ_discrete p N) (omega arith) (φ p) (ite (ℕ_discrete p p) N (φ p)) ∙ if_pos (ℕ_discrete p p) refl N (φ p);
  at_new = if_pos (ℕ_discrete N N) refl (φ p) (ite (ℕ_discrete N p) N (φ N));
  rest = λ d l n. if_neg (ℕ_discrete d N) (omega arith) (φ p) (ite (ℕ_discrete d p) N (φ d)) ∙ if_neg (ℕ_discrete d p) n N (φ d);
}

-- ---- two darts: one after the other

module _ {N p q : ℕ} {φ φ' : ℕ → ℕ} (s : Inserted N p q φ φ') where
  first : One N p φ (insert N p φ)
  first = insert_one N p φ s.p_below

  second : One (suc N) q (insert N p φ) φ'
  second = record {
    p_below = omega (arith, s.q_below);
    at_p = s.at_q;
    at_new = s.at_y ∙ sym (first.rest q s.q_below (λ e. s.two (sym e)));
    rest = λ d h n. by_cases (ℕ_discrete d N) (λ e. cc (s.at_x, first.at_new)) (λ e.
        by_cases (ℕ_discrete d p) (λ a. cc (s.at_p, first.at_p)) (λ a. s.rest (omega arith) a n ∙ sym (first.rest d (omega arith) a)));
  }

  -- backwards: what is left when both are taken out is a permutation
  pub removed_perm : Perm (suc (suc N)) φ' → Perm N φ
  removed_perm P' = one_removed_perm (one_removed_perm P' second) first

  module _ (P : Perm N φ) where
    middle_perm : Perm (suc N) (insert N p φ)
    middle_perm = one_perm P first

    pub inserted_perm : Perm (suc (suc N)) φ'
    inserted_perm = one_perm middle_perm second

    module _ {label label' : ℕ → ℕ} {c c' : ℕ} (o : Orbits N φ label c) (o' : Orbits (suc (suc N)) φ' label' c') where
      middle : Orbits (suc N) (insert N p φ) (orbit_of (insert N p φ) (suc N)) (orbit_count (insert N p φ) (suc N))
      middle = lowest_orbits middle_perm

      -- two new darts keep the number
      pub inserted_number : c ≡ c'
      inserted_number = one_number P first o middle ∙ one_number middle_perm second middle o'

      -- and lie where p and q do
      inserted_x : label' N ≡ label' p
      inserted_x = cc (s.at_p, o'.step p (omega (arith, s.p_below)))

      inserted_y : label' (suc N) ≡ label' q
      inserted_y = cc (s.at_q, o'.step q (omega (arith, s.q_below)))

      -- so they lie together if and only if p and q did
      pub inserted_joins : label p ≡ label q → label' N ≡ label' (suc N)
      inserted_joins e =
          inserted_x ∙ one_joins middle_perm second middle o' p q (omega (arith, s.p_below)) (omega (arith, s.q_below))
          (one_joins P first o middle p q s.p_below s.q_below e) ∙ sym inserted_y

      pub inserted_parts : label' N ≡ label' (suc N) → label p ≡ label q
      inserted_parts e = one_parts P first o middle p q s.p_below s.q_below
          (one_parts middle_perm second middle o' p q (omega (arith, s.p_below)) (omega (arith, s.q_below)) (sym inserted_x ∙ e ∙ inserted_y))
