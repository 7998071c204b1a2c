-- What the test of a bar's wires says. Assumes nothing.
use Rattle.std.proofs.Common.{◌≡◌, refl, sym, ◌∙◌, ap, Bool, true, false, List, [], ◌∷◌, ℕ, zero, suc, ◌+◌, ◌≤◌, ◌<◌, arith, eq-eqb, ne_eqb, eqb, get_or, length}
use Rattle.std.proofs.Math.Logic.{by_cases}
use Rattle.std.proofs.Math.Decide.{ℕ_discrete, dec_lt}
use Rattle.counting.specs.Counts.{bit}
use Rattle.counting.proofs.Iterate.{by_bool, clash}
use Rattle.counting.proofs.Pigeonhole.{pigeonhole}
use Rattle.counting.proofs.Counts.{bit_most}
use Rattle.soundness.proofs.Tests.{Says, lt_says, eq_says, reworded, and_says, all_says}
use Rattle.clauses.specs.declared.Sheet.{Sheet}
use Rattle.sheet.specs.Darts.{touches}
use Rattle.load.specs.Rings.{occurrences, all_in, is_rotation}

-- no two entries are equal
pub record Distinct (ws : List ℕ) : Type 0 where
  pub same : (i j : ℕ) → i < length ws → j < length ws → get_or ws i 0 ≡ get_or ws j 0 → i ≡ j

pub distinct_tail : {w : ℕ} {ws : List ℕ} → Distinct (w ∷ ws) → Distinct ws
distinct_tail D = record { same = λ i j h k e. (let q = D.same (suc i) (suc j) (omega arith) (omega arith) e in omega arith) }

-- an entry occurs, and what occurs is an entry
occurs : (ws : List ℕ) (i : ℕ) → i < length ws → 0 < occurrences (get_or ws i 0) ws
unfolding occurrences
occurs [] i h = absurd (omega arith)
occurs (w ∷ ws) zero h = omega (arith, ap bit (eq-eqb w w refl))
occurs (w ∷ ws) (suc i) h = omega (arith, occurs ws i (omega arith))

entry : (k : ℕ) (ws : List ℕ) → 0 < occurrences k ws → (i : ℕ) × (i < length ws) × (get_or ws i 0 ≡ k)
unfolding occurrences
entry k [] h = absurd (omega arith)
entry k (w ∷ ws) h = by_cases (ℕ_discrete w k) (λ e. (zero, omega arith, e))
    (λ n. let (i, l, e) = entry k ws (omega (arith, ap bit (ne_eqb w k n))) in (suc i, omega arith, e))

-- distinct entries occur at most once
once_distinct : (ws : List ℕ) → ((i : ℕ) → i < length ws → occurrences (get_or ws i 0) ws ≤ 1) → Distinct ws
unfolding occurrences
once_distinct [] f = record { same = λ i j h k e. absurd (omega arith) }
once_distinct (w ∷ ws) f = go (once_distinct ws (λ i h. omega (arith, f (suc i) (omega arith))))
  where
    apart : (j : ℕ) → j < length ws → w ≡ get_or ws j 0 → ⊥
    apart j h e = omega (arith, f (suc j) (omega arith), ap bit (eq-eqb w (get_or ws j 0) e), occurs ws j h)

    same' : Distinct ws → (i j : ℕ) → i < suc (length ws) → j < suc (length ws) → get_or (w ∷ ws) i 0 ≡ get_or (w ∷ ws) j 0 → i ≡ j
    same' D zero zero h k e = refl
    same' D zero (suc j) h k e = absurd (apart j (omega arith) e)
    same' D (suc i) zero h k e = absurd (apart i (omega arith) (sym e))
    same' D (suc i) (suc j) h k e = ap suc (D.same i j (omega arith) (omega arith) e)

    go : Distinct ws → Distinct (w ∷ ws)
    go D = record { same = same' D }

distinct_once : (k : ℕ) (ws : List ℕ) → Distinct ws → occurrences k ws ≤ 1
unfolding occurrences
distinct_once k [] D = omega arith
distinct_once k (w ∷ ws) D = by_cases (ℕ_discrete w k) here (λ n. omega (arith, ap bit (ne_eqb w k n), distinct_once k ws (distinct_tail D)))
  where
    here : w ≡ k → bit (eqb w k) + occurrences k ws ≤ 1
    here e = by_cases (dec_lt 0 (occurrences k ws))
        (λ l. let (i, h, q) = entry k ws l in absurd (omega (arith, D.same 0 (suc i) (omega arith) (omega arith) (e ∙ sym q))))
        (λ l. omega (arith, bit_most (eqb w k)))

in_says : {p : ℕ → Bool} {P : ℕ → Type 0} → ((w : ℕ) → Says (p w) (P w)) → (ws : List ℕ) → Says (all_in p ws) ((i : ℕ) → i < length ws → P (get_or ws i 0))
unfolding all_in
in_says x [] = (λ t i h. absurd (omega arith), λ f. refl)
in_says {P = P} x (w ∷ ws) = reworded (and_says (x w) (in_says x ws)) both (λ f. (f 0 (omega arith), λ i h. f (suc i) (omega arith)))
  where
    both : P w × ((i : ℕ) → i < length ws → P (get_or ws i 0)) → (i : ℕ) → i < suc (length ws) → P (get_or (w ∷ ws) i 0)
    both q zero h = q.0
    both q (suc i) h = q.1 i (omega arith)

-- the list is the bar's wires, each once
pub record Around (s : Sheet) (v : ℕ) (ws : List ℕ) : Type 0 where
  pub distinct : Distinct ws
  pub inside : (i : ℕ) → i < length ws → get_or ws i 0 < s.edges
  pub touching : (i : ℕ) → i < length ws → touches s (get_or ws i 0) v ≡ true
  pub all : (k : ℕ) → k < s.edges → touches s k v ≡ true → (i : ℕ) × (i < length ws) × (get_or ws i 0 ≡ k)

pub around_law : (s : Sheet) (v : ℕ) (ws : List ℕ) → Says (is_rotation s v ws) (Around s v ws)
unfolding is_rotation
around_law s v ws =
    reworded (and_says (in_says (λ w. lt_says w s.edges) ws) (all_says s.edges (λ k _. eq_says (occurrences k ws) (bit (touches s k v))))) to from
  where
    to : ((i : ℕ) → i < length ws → get_or ws i 0 < s.edges) × ((k : ℕ) → k < s.edges → occurrences k ws ≡ bit (touches s k v)) → Around s v ws
    to (f, g) = record {
      distinct = once_distinct ws (λ i h. omega (arith, g (get_or ws i 0) (f i h), bit_most (touches s (get_or ws i 0) v)));
      inside = f;
      touching = λ i h. by_bool (touches s (get_or ws i 0) v) (λ t. t) (λ t. absurd (omega (arith, g (get_or ws i 0) (f i h), occurs ws i h, ap bit t)));
      all = λ k h t. entry k ws (omega (arith, g k h, ap bit t));
    }

    from : Around s v ws → ((i : ℕ) → i < length ws → get_or ws i 0 < s.edges) × ((k : ℕ) → k < s.edges → occurrences k ws ≡ bit (touches s k v))
    from A = (A.inside, λ k h. by_bool (touches s k v) (present k h) (missing k))
      where
        present : (k : ℕ) → k < s.edges → touches s k v ≡ true → occurrences k ws ≡ bit (touches s k v)
        present k h t = let (i, l, e) = A.all k h t in
            let some : 0 < occurrences k ws = rw e at (occurs ws i l) in
            omega (arith, distinct_once k ws A.distinct, ap bit t)

        missing : (k : ℕ) → touches s k v ≡ false → occurrences k ws ≡ bit (touches s k v)
        missing k t = by_cases (dec_lt 0 (occurrences k ws))
            (λ l. let (i, h, e) = entry k ws l in clash (ap (λ w. touches s w v) (sym e) ∙ A.touching i h) t)
            (λ l. omega (arith, ap bit t))

-- two lists of them have one length
around_fits : {s : Sheet} {v : ℕ} {ws us : List ℕ} → Around s v ws → Around s v us → length ws ≤ length us
around_fits {ws = ws} {us} A B = pigeonhole (length ws) (length us) (λ i j. get_or us j 0 ≡ get_or ws i 0)
    (λ i h. B.all (get_or ws i 0) (A.inside i h) (A.touching i h)) (λ i j k h l p q. A.distinct.same i j h l (sym p ∙ q))

pub around_length : {s : Sheet} {v : ℕ} {ws us : List ℕ} → Around s v ws → Around s v us → length ws ≡ length us
around_length A B = omega (arith, around_fits A B, around_fits B A)
