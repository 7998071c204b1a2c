-- The table that is traced is as laid down, and the only one. Assumes nothing.
use Rattle.std.proofs.Common.{◌≡◌, sym, ◌∙◌, ap, subst, le_antisymm, List, ℕ, zero, suc, ◌≤◌, ◌<◌, arith, ext_get_or}
use Rattle.std.proofs.Math.Logic.{by_cases}
use Rattle.std.proofs.Math.Decide.{ℕ_discrete, dec_lt}
use Rattle.counting.specs.Orbits.{Perm}
use Rattle.counting.proofs.Reach.{reach_below}
use Rattle.clauses.specs.declared.Sheet.{Sheet}
use Rattle.sheet.specs.Darts.{darts, walk}
use Rattle.orbits.specs.Meaning.{entries, Lead, Numbering}
use Rattle.orbits.specs.declared.Traced.{Traced}
use Rattle.tracefaces.specs.Table.{InOneFace, Lowest, FaceTable}

module _ (s : Sheet) (P : Perm (darts s) (walk s)) {r : Traced} (N : Numbering (darts s) (walk s) r) where
  -- the table is as laid down
  pub traced_table : FaceTable s r.orbit
  traced_table = record {
    same = N.same;
    from_0 = λ d h c l. N.orbits.used c (omega (arith, N.orbits.inside d h));
    in_order = λ d e D E l.
        let L = N.lead (entries r.orbit e) (N.orbits.inside e E.inside) in
        L.least d (omega (arith, E.least L.first ((N.same e L.first E.inside L.inside).0 (sym L.has))));
    past = N.past;
    full = N.full;
  }

  -- ends with one number are in one face, and the other way round
  joined : (d e : ℕ) → d < darts s → e < darts s → entries r.orbit d ≡ entries r.orbit e → InOneFace s d e
  joined d e h k = (N.same d e h k).0

  alike : (d e : ℕ) → d < darts s → e < darts s → InOneFace s d e → entries r.orbit d ≡ entries r.orbit e
  alike d e h k = (N.same d e h k).1

  -- each face has a lowest end
  lowest_end : (d : ℕ) → d < darts s → (e : ℕ) × Lowest s e × InOneFace s e d
  lowest_end d h =
      let L = N.lead (entries r.orbit d) (N.orbits.inside d h) in
      (L.first, record { inside = L.inside; least = least L }, joined L.first d L.inside h L.has)
    where
      least : (L : Lead (darts s) (entries r.orbit) (entries r.orbit d)) → (e : ℕ) → InOneFace s L.first e → L.first ≤ e
      least L e o =
          by_cases (dec_lt e L.first)
          (λ l. absurd (omega (arith, L.least e l, L.has, alike L.first e L.inside (reach_below P L.inside o) o)))
          (λ l. omega arith)

  module _ {table : List ℕ} (T : FaceTable s table) where
    -- where all ends below d have their numbers in the table, d has its number, and none lower
    not_lower : (d : ℕ) → d < darts s → ((e : ℕ) → e < d → entries table e ≡ entries r.orbit e) → entries r.orbit d ≤ entries table d
    not_lower d h below =
        by_cases (dec_lt (entries table d) (entries r.orbit d))
        (λ l. absurd (clash l (N.lead (entries table d) (omega (arith, N.orbits.inside d h)))))
        (λ l. omega arith)
      where
        clash : entries table d < entries r.orbit d → Lead (darts s) (entries r.orbit) (entries table d) → ⊥
        clash l L = by_cases (dec_lt L.first d)
            (λ m. absurd (omega (arith, alike L.first d L.inside h ((T.same L.first d L.inside h).0 (below L.first m ∙ L.has)), L.has)))
            (λ m. by_cases (ℕ_discrete L.first d)
            (λ q. absurd (let z : entries r.orbit d ≡ entries table d = ap (entries r.orbit) (sym q) ∙ L.has in omega arith))
            (λ q. absurd (omega (arith, L.least d (omega arith)))))

    -- and none higher
    not_higher : (d : ℕ) → d < darts s → ((e : ℕ) → e < d → entries table e ≡ entries r.orbit e) → entries table d ≤ entries r.orbit d
    not_higher d h below =
        by_cases (dec_lt (entries r.orbit d) (entries table d))
        (λ l. absurd (clash l (T.from_0 d h (entries r.orbit d) l)))
        (λ l. omega arith)
      where
        clash : entries r.orbit d < entries table d → (e : ℕ) × (e < darts s) × (entries table e ≡ entries r.orbit d) → ⊥
        clash l (e, k, q) =
            let (d0, D, od) = lowest_end d h in
            let (e0, E, oe) = lowest_end e k in
            let pd : entries table d0 ≡ entries table d = (T.same d0 d D.inside h).1 od in
            let pe : entries table e0 ≡ entries r.orbit d = (T.same e0 e E.inside k).1 oe ∙ q in
            by_cases (dec_lt e0 d0)
            (λ m. absurd (let z = (T.same e0 d E.inside h).1 (joined e0 d E.inside h (sym (below e0 (omega (arith, D.least d od))) ∙ pe)) in omega arith))
            (λ m. by_cases (ℕ_discrete d0 e0)
            (λ p. absurd (let z : entries table d0 ≡ entries table e0 = ap (entries table) p in omega arith))
            (λ p. absurd (omega (arith, T.in_order d0 e0 D E (omega arith)))))

    same_below : (n : ℕ) → n ≤ darts s → (d : ℕ) → d < n → entries table d ≡ entries r.orbit d
    same_below zero l d h = absurd (omega arith)
    same_below (suc n) l d h =
        by_cases (ℕ_discrete d n)
        (λ p. subst (λ x. entries table x ≡ entries r.orbit x) (sym p) (le_antisymm (not_higher n (omega arith) (same_below n (omega arith))) (not_lower n (omega arith) (same_below n (omega arith)))))
        (λ p. same_below n (omega arith) d (omega arith))

    -- it is the table that is traced
    pub one_table : table ≡ r.orbit
    one_table = ext_get_or 0 table r.orbit (T.full ∙ sym N.full) (λ d l. by_cases (dec_lt d (darts s)) (λ h. same_below (darts s) (omega arith) d h) (λ h. T.past d (omega arith) ∙ sym (N.past d (omega arith))))
