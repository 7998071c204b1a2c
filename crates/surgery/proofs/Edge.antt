-- A new edge: its two darts are put into the orbits of φ, and so an orbit of φ after `opposite` is split, or two are merged.
-- With φ = next these are the vertices and the faces, with φ = walk the faces and the vertices. Assumes nothing.
use Rattle.std.proofs.Common.{◌≡◌, sym, ◌∙◌, ap, ◌≢◌, ℕ, suc, ◌<◌, arith}
use Rattle.std.proofs.Math.Logic.{by_cases}
use Rattle.std.proofs.Math.Decide.{ℕ_discrete}
use Rattle.counting.specs.Orbits.{Perm, Orbits}
use Rattle.counting.proofs.Reach.{before}
use Rattle.counting.proofs.Lowest.{orbit_count, orbit_of, lowest_orbits}
use Rattle.surgery.specs.Darts.{Inserted, Removed, Paired}
use Rattle.surgery.proofs.Insert.{inserted_perm, inserted_number, inserted_joins, inserted_parts}
use Rattle.surgery.proofs.Swap.{Swapped, swap, swap_swapped, swapped_back, merge_joins, merge_number, split_parts, split_number}

-- opposite pairs the darts below N
pub record Pairing (N : ℕ) (opposite : ℕ → ℕ) : Type 0 where
  pub below : (d : ℕ) → d < N → opposite d < N
  pub back : (d : ℕ) → d < N → opposite (opposite d) ≡ d

-- φ after opposite
abbrev pub across : (ℕ → ℕ) → (ℕ → ℕ) → ℕ → ℕ
across φ opposite d = φ (opposite d)

module _ {N : ℕ} {opposite : ℕ → ℕ} (c : Pairing N opposite) where
  pub opposite_one_one : (d e : ℕ) → d < N → e < N → opposite d ≡ opposite e → d ≡ e
  opposite_one_one d e h k q = sym (c.back d h) ∙ ap opposite q ∙ c.back e k

  pub across_perm : {φ : ℕ → ℕ} → Perm N φ → Perm N (across φ opposite)
  across_perm P = record {
    below = λ d h. P.below (opposite d) (c.below d h);
    one_one = λ d e h k q. opposite_one_one d e h k (P.one_one (opposite d) (opposite e) (c.below d h) (c.below e k) q);
  }

-- ---- the pairing with and without the new pair

module _ {N : ℕ} {opposite opposite' : ℕ → ℕ} (r : Paired N opposite opposite') where
  data Place (d : ℕ) : Type 0 where
    at_x : d ≡ N → opposite' d ≡ suc N → Place d
    at_y : d ≡ suc N → opposite' d ≡ N → Place d
    old : d < N → opposite' d ≡ opposite d → Place d

  place : (d : ℕ) → d < suc (suc N) → Place d
  place d h = by_cases (ℕ_discrete d N) (λ e. at_x e (ap opposite' e ∙ r.at_x)) (λ e.
      by_cases (ℕ_discrete d (suc N)) (λ g. at_y g (ap opposite' g ∙ r.at_y)) (λ g. old (omega arith) (r.rest (omega arith))))

  pub paired : Pairing N opposite → Pairing (suc (suc N)) opposite'
  paired c = record { below = λ d h. below d (place d h); back = λ d h. back d (place d h) }
    where
      below : (d : ℕ) → Place d → opposite' d < suc (suc N)
      below d (at_x e q) = omega arith
      below d (at_y e q) = omega arith
      below d (old h q) = omega (arith, c.below d h)

      back : (d : ℕ) → Place d → opposite' (opposite' d) ≡ d
      back d (at_x e q) = cc r.at_y
      back d (at_y e q) = cc r.at_x
      back d (old h q) = cc (c.back d h, r.rest (c.below d h))

  pub unpaired : Pairing (suc (suc N)) opposite' → Pairing N opposite
  unpaired c = record { below = below; back = λ d h. cc (c.back d (omega arith), r.rest h, r.rest (below d h)) }
    where
      below : (d : ℕ) → d < N → opposite d < N
      below d h =
          let q : opposite' d ≡ opposite d = r.rest h in
          let a : opposite d ≢ N = λ e. (let z : d ≡ suc N = cc (c.back d (omega arith), r.at_x) in omega arith) in
          let b : opposite d ≢ suc N = λ e. (let z : d ≡ N = cc (c.back d (omega arith), r.at_y) in omega arith) in
          omega (arith, c.below d (omega arith))

-- ---- the orbits of φ after opposite

module _ {N p q : ℕ} {φ φ' opposite opposite' : ℕ → ℕ} (P : Perm N φ) (c : Pairing N opposite)
    (s : Inserted N p q φ φ') (r : Paired N opposite opposite') where
  pub edge_perm : Perm (suc (suc N)) (across φ' opposite')
  edge_perm = across_perm (paired r c) (inserted_perm s P)

  -- on the way: both new darts put in, and not yet crossed
  mid : ℕ → ℕ
  mid = swap N (suc N) (across φ' opposite')

  mid_swapped : Swapped (suc (suc N)) N (suc N) (across φ' opposite') mid
  unfolding mid
  mid_swapped = swap_swapped (suc (suc N)) N (suc N) (across φ' opposite') (omega arith) (omega arith) (omega arith)

  mid_old : (d : ℕ) → d < N → mid d ≡ φ' (opposite d)
  mid_old d h = mid_swapped.rest d (omega arith) (omega arith) (omega arith) ∙ ap φ' (r.rest h)

  mid_inserted : Inserted N (opposite p) (opposite q) (across φ opposite) mid
  mid_inserted = record {
    p_below = c.below p s.p_below;
    q_below = c.below q s.q_below;
    two = λ e. s.two (opposite_one_one c p q s.p_below s.q_below e);
    at_p = cc (mid_old (opposite p) (c.below p s.p_below), c.back p s.p_below, s.at_p);
    at_x = cc (mid_swapped.at_p, r.at_y, s.at_x, c.back p s.p_below);
    at_q = cc (mid_old (opposite q) (c.below q s.q_below), c.back q s.q_below, s.at_q);
    at_y = cc (mid_swapped.at_q, r.at_x, s.at_y, c.back q s.q_below);
    rest = λ {d} h m n. mid_old d h ∙ s.rest (c.below d h) (λ e. m (sym (c.back d h) ∙ ap opposite e)) (λ e. n (sym (c.back d h) ∙ ap opposite e));
  }

  mid_perm : Perm (suc (suc N)) mid
  mid_perm = inserted_perm mid_inserted (across_perm c P)

  module _ {label label' : ℕ → ℕ} {n n' : ℕ} (o : Orbits N (across φ opposite) label n) (o' : Orbits (suc (suc N)) (across φ' opposite') label' n') where
    om : Orbits (suc (suc N)) mid (orbit_of mid (suc (suc N))) (orbit_count mid (suc (suc N)))
    om = lowest_orbits mid_perm

    same_number : n ≡ orbit_count mid (suc (suc N))
    same_number = inserted_number mid_inserted (across_perm c P) o om

    mid_joins : label (opposite p) ≡ label (opposite q) → orbit_of mid (suc (suc N)) N ≡ orbit_of mid (suc (suc N)) (suc N)
    mid_joins = inserted_joins mid_inserted (across_perm c P) o om

    mid_parts : label (opposite p) ≢ label (opposite q) → orbit_of mid (suc (suc N)) N ≢ orbit_of mid (suc (suc N)) (suc N)
    mid_parts n e = n (inserted_parts mid_inserted (across_perm c P) o om e)

    -- inside one orbit: one more, and the new darts lie in different ones
    pub edge_splits : label (opposite p) ≡ label (opposite q) → n' ≡ suc n
    edge_splits e = split_number mid_perm edge_perm (swapped_back mid_swapped) om o' (mid_joins e) ∙ ap suc (sym same_number)

    pub edge_parts : label (opposite p) ≡ label (opposite q) → label' N ≢ label' (suc N)
    edge_parts e = split_parts mid_perm edge_perm (swapped_back mid_swapped) om o' (mid_joins e)

    -- backwards: new darts in different orbits were put inside one, new darts in one orbit between two
    pub edge_undone : label' N ≢ label' (suc N) → n' ≡ suc n
    edge_undone n = edge_splits (by_cases (ℕ_discrete (label (opposite p)) (label (opposite q))) (λ e. e)
        (λ e. absurd (n (merge_joins mid_perm edge_perm (swapped_back mid_swapped) om o' (mid_parts e)))))

    pub edge_merged : label' N ≡ label' (suc N) → n ≡ suc n'
    edge_merged e = same_number ∙ merge_number mid_perm edge_perm (swapped_back mid_swapped) om o' (mid_parts (λ g. edge_parts g e))

-- ---- the last edge taken out was put in

module _ {N : ℕ} {φ φ' : ℕ → ℕ} (P' : Perm (suc (suc N)) φ') (r : Removed N φ φ') (x_below : φ' N < N) (y_below : φ' (suc N) < N) where
  -- the darts before its two darts
  pub before_x : (p : ℕ) × (p < suc (suc N)) × (φ' p ≡ N)
  before_x = before P' N (omega arith)

  pub before_y : (q : ℕ) × (q < suc (suc N)) × (φ' q ≡ suc N)
  before_y = before P' (suc N) (omega arith)

  old_below : (d : ℕ) → d < suc (suc N) → N < suc (φ' d) → d < N
  old_below d h k =
      let a : d ≢ N = λ e. (let z : φ' d ≡ φ' N = ap φ' e in omega arith) in
      let b : d ≢ suc N = λ e. (let z : φ' d ≡ φ' (suc N) = ap φ' e in omega arith) in omega arith

  p_below : before_x.0 < N
  p_below = old_below before_x.0 before_x.1 (omega (arith, before_x.2))

  q_below : before_y.0 < N
  q_below = old_below before_y.0 before_y.1 (omega (arith, before_y.2))

  pub removed_inserted : Inserted N before_x.0 before_y.0 φ φ'
  removed_inserted = record {
    p_below = p_below;
    q_below = q_below;
    two = λ e. let z : N ≡ suc N = cc (before_x.2, before_y.2) in omega arith;
    at_p = before_x.2;
    at_x = sym (r.over_x p_below before_x.2);
    at_q = before_y.2;
    at_y = sym (r.over_y q_below before_y.2);
    rest = λ {d} h m n.
        let a : φ' d ≢ N = λ e. m (P'.one_one d before_x.0 (omega arith) before_x.1 (e ∙ sym before_x.2)) in
        let b : φ' d ≢ suc N = λ e. n (P'.one_one d before_y.0 (omega arith) before_y.1 (e ∙ sym before_y.2)) in
        sym (r.rest h (omega (arith, P'.below d (omega arith))));
  }
