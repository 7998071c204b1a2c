-- Entries of an array that are read line by line: what was written reads back, and nothing else is read. Assumes nothing.
use Rattle.std.proofs.Common.{ℕ, zero, suc, ◌+◌, ◌≤◌, ◌<◌, ◌≡◌, refl, sym, ap, ap₂, ◌∙◌, subst, List, [], ◌∷◌, Some, arith, get_or, length, set, replicate, length-set, get_or-set_same, get_or-set_other, ext_get_or}
use Rattle.std.proofs.Math.Logic.{by_cases}
use Rattle.std.proofs.Math.Decide.{ℕ_discrete, dec_lt}
use Rattle.std.proofs.Math.ListN.{length-replicate}
use Rattle.std.proofs.lemmas.Option.{option_and_then_some}
use Rattle.counting.specs.Below.{join_below, table}
use Rattle.counting.proofs.Stores.{replicate_at}
use Rattle.counting.proofs.Joined.{join_more, join_size, join_agree}
use Rattle.counting.proofs.Tables.{table_more, table_none, table_at, table_past, table_sized}
use Rattle.text.specs.Reading.Listed.{listed}
use Rattle.text.specs.Shapes.{with_three, three_of}
use Rattle.text.specs.Written.{line}
use Rattle.layout.specs.Layout.{Stands, Numerals, Same}
use Rattle.layout.proofs.Standing.{stands_nil, stands_append, stands_joined}
use Rattle.readdrawing.specs.Lines.{plain_line_at}
use Rattle.readdrawing.specs.Reading.{entries_from}
use Rattle.readdrawing.proofs.Plain.{plain_back, plain_only}
use Rattle.readdrawing.proofs.Turns.{three_read, three_is}

-- entries of one kind: the key of their lines, the entry that is unused, and what three numbers a line shows of an entry
pub record Kind (A : Type 0) : Type 0 where
  pub key : List ℕ
  pub unused : A
  pub entry : ℕ → ℕ → ℕ → A
  pub numbers : A → List ℕ
  pub numbers_of : (a b c : ℕ) → numbers (entry a b c) ≡ a ∷ b ∷ c ∷ []
  pub back : (x : A) → entry (get_or (numbers x) 0 0) (get_or (numbers x) 1 0) (get_or (numbers x) 2 0) ≡ x

-- the line of entry k
abbrev pub line_of : {A : Type 0} → Kind A → List A → ℕ → List ℕ
line_of K es k = line K.key (K.numbers (get_or es k K.unused))

three : {A : Type 0} (K : Kind A) (x : A) → K.numbers x ≡ get_or (K.numbers x) 0 0 ∷ get_or (K.numbers x) 1 0 ∷ get_or (K.numbers x) 2 0 ∷ []
three K x = ap K.numbers (sym (K.back x)) ∙ K.numbers_of _ _ _

module _ {A : Type 0} (K : Kind A) (text : List ℕ) (base size : ℕ) where
  -- the lines of the first n entries stand in the text from `base` to `next`, and the others are unused
  pub record Entries (es : List A) (n next : ℕ) : Type 0 where
    pub sized : length es ≡ size
    pub unused : (k : ℕ) → n ≤ k → get_or es k K.unused ≡ K.unused
    pub small : (k : ℕ) → k < n → Numerals (K.numbers (get_or es k K.unused))
    pub stands : Stands text base (join_below (line_of K es) n)
    pub place : next ≡ base + length (join_below (line_of K es) n)

  -- ---- nothing else is read

  none_read : base ≤ length text → Entries (replicate size K.unused) 0 base
  unfolding join_below
  none_read h = record {
    sized = length-replicate size K.unused;
    unused = λ k _. replicate_at K.unused size k;
    small = λ k l. absurd (omega arith);
    stands = stands_nil text base h;
    place = omega arith;
  }

  one_more : (es : List A) (k at to : ℕ) (x : A) → k < size → Entries es k at → Same text at (K.numbers x) (line K.key (K.numbers x)) to → Entries (set es k x) (k + 1) to
  one_more es k at to x h E L =
      let new = set es k x in
      let here : get_or new k K.unused ≡ x = get_or-set_same es k x K.unused (omega (arith, E.sized)) in
      let other = λ (i : ℕ) (n : i ≡ k → ⊥). get_or-set_other es k i x K.unused n in
      let front : join_below (line_of K es) k ≡ join_below (line_of K new) k = join_agree (line_of K es) (line_of K new) k (λ i l. ap (λ (y : A). line K.key (K.numbers y)) (sym (other i (λ e. omega arith)))) in
      let last : line_of K new k ≡ line K.key (K.numbers x) = ap (λ (y : A). line K.key (K.numbers y)) here in
      let long : at ≡ base + length (join_below (line_of K new) k) = omega (arith, E.place, ap length front) in
      record {
        sized = length-set es k x ∙ E.sized;
        unused = λ i l. other i (λ e. omega arith) ∙ E.unused i (omega arith);
        small = λ i l. by_cases (ℕ_discrete i k) (λ e. rw (e, here) L.numerals) (λ n. rw (other i n) (E.small i (omega arith)));
        stands = rw (join_more (line_of K new) k) (stands_append (join_below (line_of K new) k) (line_of K new k) (rw front at E.stands) (rw (last, ← long) L.holds));
        place = omega (arith, L.place, join_size (line_of K new) k, ap length last);
      }

  only_from : (r : ℕ) (es : List A) (k at : ℕ) (all : List A) (next : ℕ) → k + r ≤ size → Entries es k at → entries_from K.key K.entry r text es k at ≡ Some (all, next) → Entries all (k + r) next
  unfolding entries_from
  only_from zero es k at all next h E e =
      let sum : k + 0 ≡ k = omega arith in
      let same : (es, at) ≡ (all, next) = cc in
      rw sum (subst (λ (p : List A × ℕ). Entries p.0 k p.1) same E)
  only_from (suc r) es k at all next h E e =
      option_and_then_some _ (three_of (plain_line_at K.key text at)) (all, next) (sym (three_read _ (plain_line_at K.key text at)) ∙ e)
      (λ v l f.
      let x = K.entry v.0 v.1 v.2 in
      let L = plain_only K.key text at (v.0 ∷ v.1 ∷ v.2 ∷ []) v.3 (three_is (plain_line_at K.key text at) l) in
      let E' = one_more es k at v.3 x (omega arith) E (rw (K.numbers_of v.0 v.1 v.2) L) in
      let sum : k + suc r ≡ k + 1 + r = omega arith in
      rw sum (only_from r (set es k x) (k + 1) v.3 all next (omega arith) E' f))

  pub entries_only : (n : ℕ) (es : List A) (next : ℕ) → n ≤ size → base ≤ length text → entries_from K.key K.entry n text (replicate size K.unused) 0 base ≡ Some (es, next) → Entries es n next
  entries_only n es next h room e = let z : 0 + n ≡ n = omega arith in rw z at (only_from n (replicate size K.unused) 0 base es next (omega arith) (none_read room) e)

  -- ---- what was written reads back

  module _ (es : List A) (n next : ℕ) (few : n ≤ size) (E : Entries es n next) where
    -- the entries below k
    part : ℕ → List A
    part k = table (λ i. get_or es i K.unused) k size K.unused

    -- all of them
    part_all : part n ≡ es
    unfolding part
    part_all =
        ext_get_or K.unused (part n) es (table_sized (λ i. get_or es i K.unused) size K.unused n few ∙ sym E.sized)
        (λ i _. by_cases (dec_lt i n)
        (λ l. table_at (λ j. get_or es j K.unused) size K.unused K.unused n i l)
        (λ l. table_past (λ j. get_or es j K.unused) size K.unused n i (omega arith) ∙ sym (E.unused i (omega arith))))

    back_from : (r k at : ℕ) → k + r ≡ n → at ≡ base + length (join_below (line_of K es) k) → entries_from K.key K.entry r text (part k) k at ≡ Some (es, next)
    unfolding entries_from part with_three
    back_from zero k at e p =
        let q : k ≡ n = omega arith in
        rw q (ap₂ (λ (l : List A) (i : ℕ). Some (l, i)) part_all (omega (arith, E.place, ap (λ i. length (join_below (line_of K es) i)) q)))
    back_from (suc r) k at e p =
        let x = get_or es k K.unused in
        let there : Stands text at (line_of K es k) = rw p (stands_joined (line_of K es) n k (omega arith) E.stands) in
        let L : Same text at (K.numbers x) (line K.key (K.numbers x)) (at + length (line_of K es k)) = record { numerals = E.small k (omega arith); holds = there; place = refl } in
        let read = plain_back K.key text at (K.numbers x) (at + length (line_of K es k)) L ∙ ap (λ (vs : List ℕ). listed vs (at + length (line_of K es k))) (three K x) in
        rw (read, K.back x, table_more (λ i. get_or es i K.unused) size K.unused k (omega arith) (part k) refl x refl)
        (back_from r (k + 1) (at + length (line_of K es k)) (omega arith) (omega (arith, join_size (line_of K es) k)))

    pub entries_back : entries_from K.key K.entry n text (replicate size K.unused) 0 base ≡ Some (es, next)
    unfolding join_below part
    entries_back = rw (table_none (λ i. get_or es i K.unused) size K.unused) (back_from n 0 base (omega arith) (omega arith))
