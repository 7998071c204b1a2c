-- A ring is in clockwise order exactly where at most one of its darts is a descent, in any drawing of a sound sheet.
use Rattle.std.proofs.Common.{◌≡◌, refl, sym, ◌∙◌, ap, subst, ◌⊎◌, inl, inr, true, false, List, [], ◌∷◌, ◌++◌, ℕ, zero, suc, ◌<◌, arith, get_or}
use Rattle.std.proofs.Math.Logic.{by_cases}
use Rattle.std.proofs.Math.Decide.{ℕ_discrete, dec_lt}
use mathlib.Core.List.Memᴰ
use mathlib.Core.List.{Memᴰ}
use Rattle.counting.specs.Orbits.{iter}
use Rattle.counting.proofs.Iterate.{by_bool, clash, iter_keeps, around}
use Rattle.counting.proofs.Pigeonhole.{Found, find}
use Rattle.counting.proofs.Pigeonhole.Found.{at, nowhere}
use Rattle.counting.proofs.Reach.{returns}
use Rattle.clauses.specs.declared.Sheet.{Sheet}
use Rattle.clauses.specs.Darts.{is_tail}
use Rattle.sheet.specs.Darts.{darts, vertex, next}
use Rattle.sheet.specs.Sound.{Sound}
use Rattle.soundness.proofs.Law.{rotation_of}
use Rattle.drawing.specs.declared.Drawing.{Drawing}
use Rattle.drawing.specs.Clear.{Rising, Falling, Cycle, dart_column, Clockwise}
use Rattle.drawing.specs.Clear.Rising.{none as rising_none, more as rising_more}
use Rattle.drawing.specs.Clear.Falling.{more as falling_more}
use Rattle.drawing.specs.Clear.Cycle.{then}
use Rattle.drawing.proofs.Segments.{some_dart}
use Rattle.drawing.proofs.Rings.{Step, Parts, parts, list_from, list_ordered, list_cycle, list_has, list_all}
use Rattle.drawing.proofs.Rings.Step.{rising, turning, falling}

-- ---- the order of the darts at a vertex is strict

module _ {value : ℕ → ℕ} where
  pub step_trans : {a b c : ℕ} → Step value a b → Step value b c → Step value a c
  step_trans (rising a b l) (rising c d m) = rising a d (omega arith)
  step_trans (rising a b l) (turning c d) = turning a d
  step_trans (rising a b l) (falling c d m) = clash b c
  step_trans (turning a b) (rising c d m) = clash c b
  step_trans (turning a b) (turning c d) = clash c b
  step_trans (turning a b) (falling c d m) = turning a d
  step_trans (falling a b l) (rising c d m) = clash c b
  step_trans (falling a b l) (turning c d) = clash c b
  step_trans (falling a b l) (falling c d m) = falling a d (omega arith)

  pub not_step : {a : ℕ} → ¬ Step value a a
  not_step (rising a b l) = omega arith
  not_step (turning a b) = clash a b
  not_step (falling a b l) = omega arith

  -- a step by the kinds of its darts
  pub step_up : {d e : ℕ} → is_tail d ≡ true → is_tail e ≡ true → Step value d e → value d < value e
  step_up p q (rising a b l) = l
  step_up p q (turning a b) = clash q b
  step_up p q (falling a b l) = clash p a

  pub step_down : {d e : ℕ} → is_tail d ≡ false → is_tail e ≡ false → Step value d e → value e < value d
  step_down p q (rising a b l) = clash a p
  step_down p q (turning a b) = clash a p
  step_down p q (falling a b l) = l

  pub step_never : {d e : ℕ} → is_tail d ≡ false → is_tail e ≡ true → ¬ Step value d e
  step_never p q (rising a b l) = clash a p
  step_never p q (turning a b) = clash a p
  step_never p q (falling a b l) = clash q b

  step_or_not : (d e : ℕ) → Step value d e ⊎ (¬ Step value d e)
  step_or_not d e = by_bool (is_tail d)
      (λ p. by_bool (is_tail e)
      (λ q. by_cases (dec_lt (value d) (value e)) (λ l. inl (rising p q l)) (λ n. inr (λ k. n (step_up p q k))))
      (λ q. inl (turning p q)))
      (λ p. by_bool (is_tail e)
      (λ q. inr (step_never p q))
      (λ q. by_cases (dec_lt (value e) (value d)) (λ l. inl (falling p q l)) (λ n. inr (λ k. n (step_down p q k)))))

module _ (s : Sheet) (D : Drawing) where
  -- dart d stands before its next one; a dart that does not is a descent
  abbrev pub Forward : ℕ → Type 0
  Forward d = Step (dart_column D) d (next s d)

  -- two descents of the ring of vertex v are one
  abbrev pub Once : ℕ → Type 0
  Once v = (d e : ℕ) → d < darts s → e < darts s → vertex s d ≡ v → vertex s e ≡ v → ¬ Forward d → ¬ Forward e → d ≡ e

-- ---- a ring of one descent, from the dart after it on

module _ {s : Sheet} (S : Sound s) (D : Drawing) (v : ℕ) where
  abbrev At : ℕ → Type 0
  At d = (d < darts s) × (vertex s d ≡ v)

  at_next : (d : ℕ) → At d → At (next s d)
  at_next d (h, e) = ((rotation_of S).perm.below d h, (rotation_of S).keeps d h ∙ e)

  at_iter : (i d : ℕ) → At d → At (iter (next s) i d)
  at_iter = iter_keeps (next s) At at_next

  -- going round from any dart one comes to a descent
  find_descent : (d : ℕ) → At d → (p : ℕ) × At p × (¬ Forward s D p)
  find_descent d a = let (i, _, e) = returns (rotation_of S).perm d a.0 in elim (go i) [ inl l ↦ l | inr b ↦ absurd (not_step (rw e at b)) ]
    where
      go : (i : ℕ) → ((p : ℕ) × At p × (¬ Forward s D p)) ⊎ Step (dart_column D) d (iter (next s) (suc i) d)
      go zero = elim (step_or_not d (next s d)) [ inl k ↦ inr k | inr n ↦ inl (d, a, n) ]
      go (suc i) = let p = iter (next s) (suc i) d in elim (go i) [
        | inl l ↦ inl l
        | inr b ↦ elim (step_or_not p (next s p)) [ inl k ↦ inr (step_trans b k) | inr n ↦ inl (p, at_iter (suc i) d a, n) ]
      ]

  -- the darts of the vertex, from the first to the last
  record Round : Type 0 where
    first : ℕ
    more : ℕ
    there : At first
    steps : (i : ℕ) → i < more → Forward s D (iter (next s) i first)
    closes : iter (next s) (suc more) first ≡ first

  round : Once s D v → v < s.vertices → Round
  round once h =
      let (d, l, e) = some_dart S v h in
      let (p, a, n) = find_descent d (l, e) in
      let f = at_next p a in
      let (i, q) = (rotation_of S).ring (next s p) p f.0 a.0 (f.1 ∙ sym a.1) in
      go p a n f i q (find (λ i. iter (next s) i (next s p) ≡ p) (λ i. ℕ_discrete (iter (next s) i (next s p)) p) (suc i))
    where
      go : (p : ℕ) → At p → ¬ Forward s D p → At (next s p) → (i : ℕ) → iter (next s) i (next s p) ≡ p → Found (λ i. iter (next s) i (next s p) ≡ p) (suc i) → Round
      go p a n f i q (nowhere none) = absurd (none i (omega arith) q)
      go p a n f i q (at more _ e sooner) = record {
        first = next s p;
        more = more;
        there = f;
        steps = λ j l. let d = iter (next s) j (next s p) in elim (step_or_not d (next s d)) [
          | inl k ↦ k
          | inr m ↦ let (h, z) = at_iter j (next s p) f in absurd (sooner j l (once d p h a.0 z a.1 m n))
        ];
        closes = ap (next s) e;
      }

  module _ (R : Round) where
    abbrev ring_list : List ℕ
    ring_list = list_from s (suc R.more) R.first

    -- every dart of the vertex is on the list
    on_list : (d : ℕ) → At d → Memᴰ d ring_list
    on_list d (h, e) =
        let (j, q) = (rotation_of S).ring R.first d R.there.0 h (R.there.1 ∙ sym e) in
        let (i, l, r) = around (next s) R.first (suc R.more) (omega arith) R.closes j in
        Memᴰ.cast (sym (r ∙ q)) (list_has s (suc R.more) R.first i l)

    apart : Parts (dart_column D) ring_list
    unfolding list_from
    apart = parts (list_ordered s (dart_column D) R.more R.first R.steps)

    -- exactly the darts of the vertex are in the two parts
    in_parts : (d : ℕ) → At d → Memᴰ d apart.up ⊎ Memᴰ d apart.down
    in_parts d a = Memᴰ.append_cases apart.up (subst (Memᴰ d) apart.whole (on_list d a))

    at_parts : (d : ℕ) → Memᴰ d (apart.up ++ apart.down) → At d
    at_parts d m = list_all s At at_next (suc R.more) R.first R.there d (subst (Memᴰ d) (sym apart.whole) m)

    in_order : Clockwise s D v
    unfolding list_from
    in_order = record {
      up = apart.up;
      down = apart.down;
      all_up = λ d. (
        λ m. let (h, e) = at_parts d (Memᴰ.append_left apart.down m) in (h, e, apart.all_up d m),
        λ (h, e, t). elim (in_parts d (h, e)) [ inl m ↦ m | inr m ↦ clash t (apart.all_down d m) ],
      );
      all_down = λ d. (
        λ m. let (h, e) = at_parts d (Memᴰ.append_right apart.up m) in (h, e, apart.all_down d m),
        λ (h, e, t). elim (in_parts d (h, e)) [ inl m ↦ clash (apart.all_up d m) t | inr m ↦ m ],
      );
      rising = apart.ups;
      falling = apart.downs;
      ring = subst (λ l. Cycle s (get_or l 0 0) l) apart.whole (list_cycle s R.more R.first R.first R.closes);
    }

  pub clockwise : Once s D v → v < s.vertices → Clockwise s D v
  clockwise once h = in_order (round once h)

-- ---- and back

-- the last of a list
final : List ℕ → ℕ
final [] = 0
final (d ∷ []) = d
final (d ∷ e ∷ ds) = final (e ∷ ds)

module _ (s : Sheet) (D : Drawing) where
  -- all but the last of a ring in order stand before their next ones
  forward_or_final : {first : ℕ} (us ds : List ℕ) → ((x : ℕ) → Memᴰ x us → is_tail x ≡ true) → ((x : ℕ) → Memᴰ x ds → is_tail x ≡ false)
      → Rising (dart_column D) us → Falling (dart_column D) ds → Cycle s first (us ++ ds) → (x : ℕ) → Memᴰ x (us ++ ds) → Forward s D x ⊎ (x ≡ final (us ++ ds))
  unfolding final
  forward_or_final [] [] a b r f c x m = absurd (Memᴰ.not-nil m)
  forward_or_final [] (d ∷ []) a b r f c x m = elim (Memᴰ.cases_cons m) [ inl q ↦ inr q | inr n ↦ absurd (Memᴰ.not-nil n) ]
  forward_or_final [] (d ∷ e ∷ ds) a b r (falling_more l f) (then q c) x m = elim (Memᴰ.cases_cons m) [
    | inl p ↦ inl (rw (p, q) (falling (b d (Memᴰ.head refl)) (b e (Memᴰ.tail (Memᴰ.head refl))) l))
    | inr n ↦ forward_or_final [] (e ∷ ds) a (λ y k. b y (Memᴰ.tail k)) r f c x n
  ]
  forward_or_final (d ∷ []) [] a b r f c x m = elim (Memᴰ.cases_cons m) [ inl q ↦ inr q | inr n ↦ absurd (Memᴰ.not-nil n) ]
  forward_or_final (d ∷ []) (e ∷ ds) a b r f (then q c) x m = elim (Memᴰ.cases_cons m) [
    | inl p ↦ inl (rw (p, q) (turning (a d (Memᴰ.head refl)) (b e (Memᴰ.head refl))))
    | inr n ↦ forward_or_final [] (e ∷ ds) (λ y k. a y (Memᴰ.tail k)) b rising_none f c x n
  ]
  forward_or_final (d ∷ u ∷ us) ds a b (rising_more l r) f (then q c) x m = elim (Memᴰ.cases_cons m) [
    | inl p ↦ inl (rw (p, q) (rising (a d (Memᴰ.head refl)) (a u (Memᴰ.tail (Memᴰ.head refl))) l))
    | inr n ↦ forward_or_final (u ∷ us) ds (λ y k. a y (Memᴰ.tail k)) b r f c x n
  ]

  -- a descent of a ring in order is its last dart
  descent_final : (v : ℕ) (C : Clockwise s D v) (d : ℕ) → d < darts s → vertex s d ≡ v → ¬ Forward s D d → d ≡ final (C.up ++ C.down)
  descent_final v C d h q n =
      let there : Memᴰ d (C.up ++ C.down) = by_bool (is_tail d)
      (λ t. Memᴰ.append_left C.down ((C.all_up d).1 (h, q, t)))
      (λ t. Memᴰ.append_right C.up ((C.all_down d).1 (h, q, t))) in
      elim (forward_or_final C.up C.down (λ x m. ((C.all_up x).0 m).2) (λ x m. ((C.all_down x).0 m).2) C.rising C.falling C.ring d there) [
        | inl k ↦ absurd (n k)
        | inr e ↦ e
      ]

  pub clockwise_once : (v : ℕ) → Clockwise s D v → Once s D v
  clockwise_once v C d e h k p q x y = descent_final v C d h p x ∙ sym (descent_final v C e k q y)
