-- `is_permutation` says whether the table permutes the elements below `size`. Assumes nothing.
use Rattle.std.proofs.Common.{ℕ, zero, suc, ◌+◌, ◌≤◌, ◌<◌, ◌≡◌, refl, sym, ap, ◌∙◌, Bool, true, false, not, ◌&&◌, List, arith, below_more, ltb-true, leb-true, lt-ltb, le-leb, leb, ltb, get_or, set, length, length-set, replicate, get_or-set_other}
use Rattle.std.proofs.Math.Logic.{by_cases}
use Rattle.std.proofs.Math.Bool.{and-eq-true_iff}
use Rattle.std.proofs.Math.Decide.{ℕ_discrete, dec_lt}
use Rattle.std.proofs.lemmas.Bool.{not-true}
use Rattle.std.proofs.Math.ListN.{length-replicate}
use Rattle.counting.specs.Orbits.{Perm}
use Rattle.counting.proofs.Iterate.{by_bool, clash}
use Rattle.orbits.specs.Tables.{permutes_from, is_permutation}
use Rattle.orbits.specs.Meaning.{entries, PermutationLaw}
use Rattle.counting.proofs.Stores.{Stored, stored, replicate_at}
use Rattle.counting.proofs.Stores.Stored.{here, apart}

-- the first e entries are below `size`, no two are the same, and all are marked
record Distinct (size : ℕ) (table : List ℕ) (seen : List Bool) (e : ℕ) : Type 0 where
  full : length seen ≡ 512
  inside : (i : ℕ) → i < e → get_or table i 0 < size
  once : (a b : ℕ) → a < b → b < e → get_or table a 0 ≡ get_or table b 0 → ⊥
  marked : (i : ℕ) → i < e → get_or seen (get_or table i 0) false ≡ true

-- what is marked is one of the first e entries
abbrev Sound : List ℕ → List Bool → ℕ → Type 0
Sound table seen e = (j : ℕ) → get_or seen j false ≡ true → (i : ℕ) × (i < e) × (get_or table i 0 ≡ j)

module _ (size : ℕ) (table : List ℕ) where
  distinct_more : {seen : List Bool} {e : ℕ} → size ≤ 512 → Distinct size table seen e → get_or table e 0 < size → get_or seen (get_or table e 0) false ≡ false → Distinct size table (set seen (get_or table e 0) true) (e + 1)
  distinct_more {seen} {e} fits s l unseen = record {
    full = length-set seen (get_or table e 0) true ∙ s.full;
    inside = below_more _ _ s.inside l;
    once = λ a b h k q. by_cases (ℕ_discrete b e)
        (λ x. clash (s.marked a (omega arith)) (ap (λ (j : ℕ). get_or seen j false) (q ∙ ap (entries table) x) ∙ unseen))
        (λ x. s.once a b h (omega arith) q);
    marked = λ i h. mark i h (stored seen (get_or table e 0) true (get_or table i 0) false (omega (arith, s.full)));
  }
    where
      mark : (i : ℕ) → i < e + 1 → Stored seen (get_or table e 0) true (get_or table i 0) false → get_or (set seen (get_or table e 0) true) (get_or table i 0) false ≡ true
      mark i h (here p q) = q
      mark i h (apart n q) = by_cases (ℕ_discrete i e) (λ x. absurd (n (ap (entries table) x))) (λ x. q ∙ s.marked i (omega arith))

  distinct_all : {seen : List Bool} {e : ℕ} → e ≡ size → Distinct size table seen e → Perm size (entries table)
  distinct_all {e = e} z s = record {
    below = λ d h. s.inside d (omega arith);
    one_one = λ a b h k q.
        by_cases (dec_lt a b) (λ l. absurd (s.once a b l (omega arith) q)) (λ l.
        by_cases (dec_lt b a) (λ m. absurd (s.once b a m (omega arith) (sym q))) (λ m. omega arith));
  }

  holds : size ≤ 512 → (n : ℕ) {e : ℕ} {seen : List Bool} → n + e ≡ size → Distinct size table seen e → permutes_from n size table e seen ≡ true → Perm size (entries table)
  unfolding permutes_from
  holds fits zero z s t = distinct_all (omega arith) s
  holds fits (suc n) {e} {seen} z s t =
      let (now, rest) = (and-eq-true_iff (ltb (get_or table e 0) size && not (get_or seen (get_or table e 0) false)) _).0 t in
      let (l, unseen) = (and-eq-true_iff (ltb (get_or table e 0) size) (not (get_or seen (get_or table e 0) false))).0 now in
      holds fits n (omega arith) (distinct_more fits s (ltb-true (get_or table e 0) size l) (not-true _ unseen)) rest

  sound_more : (seen : List Bool) (e : ℕ) → Sound table seen e → Sound table (set seen (get_or table e 0) true) (e + 1)
  sound_more seen e s j t = by_cases (ℕ_discrete j (get_or table e 0))
      (λ x. (e, omega arith, sym x))
      (λ x. let (i, h, q) = s j (sym (get_or-set_other seen (get_or table e 0) j true false x) ∙ t) in (i, omega arith, q))

  found : Perm size (entries table) → (n e : ℕ) (seen : List Bool) → n + e ≡ size → Sound table seen e → permutes_from n size table e seen ≡ true
  unfolding permutes_from
  found p zero e seen z s = refl
  found p (suc n) e seen z s =
      let l : get_or table e 0 < size = p.below e (omega arith) in
      let unseen : get_or seen (get_or table e 0) false ≡ false =
      by_bool (get_or seen (get_or table e 0) false) (λ m. let (i, h, q) = s (get_or table e 0) m in absurd (omega (arith, p.one_one i e (omega arith) (omega arith) q))) (λ m. m) in
      rw (lt-ltb (get_or table e 0) size l, unseen) (found p n (e + 1) (set seen (get_or table e 0) true) (omega arith) (sound_more seen e s))

  distinct_none : Distinct size table (replicate 512 false) 0
  distinct_none = record {
    full = length-replicate 512 false;
    inside = λ i h. absurd (omega arith);
    once = λ a b h k q. omega arith;
    marked = λ i h. absurd (omega arith);
  }

pub permutation_law : PermutationLaw
unfolding is_permutation
permutation_law size table = (
  λ t. let (small, all) = (and-eq-true_iff (leb size 512) (permutes_from size size table 0 (replicate 512 false))).0 t in
      let fits = leb-true size 512 small in
      (fits, holds size table fits size (omega arith) (distinct_none size table) all),
  λ k. (and-eq-true_iff (leb size 512) (permutes_from size size table 0 (replicate 512 false))).1
      (le-leb size 512 k.0, found size table k.1 size 0 (replicate 512 false) (omega arith) (λ j m. clash m (replicate_at false 512 j))),
)
