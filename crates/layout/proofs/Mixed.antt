-- Texts with line ends of both kinds, part by part. Assumes nothing.
use Rattle.std.proofs.Common.{ℕ, ◌+◌, ◌/◌, ◌%◌, ◌<◌, ◌≡◌, refl, ap, ◌∙◌, subst, Bool, true, false, not, ◌&&◌, List, [], ◌∷◌, ◌++◌, arith, ne_eqb, eqb, length}
use Rattle.std.proofs.lemmas.Bool.{false≢true}
use Rattle.std.proofs.Math.Decide.{dec_lt}
use Rattle.text.specs.Reading.{listed, line_at}
use Rattle.text.specs.Written.{decimal, separated, line_end, line}
use Rattle.layout.specs.Layout.{Stands, Numerals, LineEnd}
use Rattle.layout.specs.Layout.LineEnd.{alone, after_13}
use Rattle.layout.specs.Mixed.{MixedEnds}
use Rattle.layout.specs.Mixed.MixedEnds.{over, kept, turned}
use Rattle.buffer.proofs.Writing.{one, two, three}
use Rattle.layout.proofs.Back.{line_back}

pub mixed_same : (xs : List ℕ) → MixedEnds xs xs
mixed_same [] = over
mixed_same (x ∷ xs) = kept (mixed_same xs)

-- two texts one after the other
pub mixed_append : {xs us ys vs : List ℕ} → MixedEnds xs us → MixedEnds ys vs → MixedEnds (xs ++ ys) (us ++ vs)
mixed_append over n = n
mixed_append (kept m) n = kept (mixed_append m n)
mixed_append (turned m) n = turned (mixed_append m n)

pub record Parts (xs ys us : List ℕ) : Type 0 where
  pub front : List ℕ
  pub back : List ℕ
  pub whole : us ≡ front ++ back
  pub front_mixed : MixedEnds xs front
  pub back_mixed : MixedEnds ys back

pub mixed_parts : (xs ys us : List ℕ) → MixedEnds (xs ++ ys) us → Parts xs ys us
mixed_parts [] ys us m = record { front = []; back = us; whole = refl; front_mixed = over; back_mixed = m }
mixed_parts (x ∷ xs) ys [] m = elim m [ ]
mixed_parts (x ∷ xs) ys (_ ∷ us) (kept m) =
    let p = mixed_parts xs ys us m in
    record { front = x ∷ p.front; back = p.back; whole = ap (λ l. x ∷ l) p.whole; front_mixed = kept p.front_mixed; back_mixed = p.back_mixed }
mixed_parts (_ ∷ xs) ys (_ ∷ _ ∷ us) (turned m) =
    let p = mixed_parts xs ys us m in
    record { front = 13 ∷ 10 ∷ p.front; back = p.back; whole = ap (λ l. 13 ∷ 10 ∷ l) p.whole; front_mixed = turned p.front_mixed; back_mixed = p.back_mixed }

-- ---- lines

-- no byte is 10
unfoldable pub endless : List ℕ → Bool
endless [] = true
endless (x ∷ xs) = not (eqb x 10) && endless xs

endless_more : (x : ℕ) (xs : List ℕ) → 10 < x → endless xs ≡ true → endless (x ∷ xs) ≡ true
unfolding endless
endless_more x xs h e = rw (ne_eqb x 10 (λ z. omega arith), e) refl

pub endless_append : (xs ys : List ℕ) → endless xs ≡ true → endless ys ≡ true → endless (xs ++ ys) ≡ true
unfolding endless
endless_append [] ys e f = f
endless_append (x ∷ xs) ys e f = go (eqb x 10) e (endless_append xs ys)
  where
    go : (b : Bool) → (not b && endless xs) ≡ true → (endless xs ≡ true → endless ys ≡ true → endless (xs ++ ys) ≡ true) → (not b && endless (xs ++ ys)) ≡ true
    go true q ih = absurd (false≢true q)
    go false q ih = ih q f

endless_decimal : (v : ℕ) → endless (decimal v) ≡ true
unfolding endless
endless_decimal v = go (dec_lt v 10) (dec_lt v 100)
  where
    units : endless ((v % 10 + 48) ∷ []) ≡ true
    units = endless_more (v % 10 + 48) [] (omega arith) refl

    tens : endless ((v / 10 % 10 + 48) ∷ (v % 10 + 48) ∷ []) ≡ true
    tens = endless_more (v / 10 % 10 + 48) ((v % 10 + 48) ∷ []) (omega arith) units

    go : Dec (v < 10) → Dec (v < 100) → endless (decimal v) ≡ true
    go (yes l) d = rw (one v l) units
    go (no n) (yes l) = rw (two v (omega arith) l) tens
    go (no n) (no m) = rw (three v (omega arith)) (endless_more (v / 100 % 10 + 48) ((v / 10 % 10 + 48) ∷ (v % 10 + 48) ∷ []) (omega arith) tens)

pub endless_separated : (vs : List ℕ) → endless (separated vs) ≡ true
unfolding separated endless
endless_separated [] = refl
endless_separated (v ∷ []) = endless_decimal v
endless_separated (v ∷ w ∷ vs) = endless_append (decimal v) (44 ∷ separated (w ∷ vs)) (endless_decimal v) (endless_more 44 (separated (w ∷ vs)) (omega arith) (endless_separated (w ∷ vs)))

-- a text without line ends stays as it is
pub mixed_endless : (xs us : List ℕ) → endless xs ≡ true → MixedEnds xs us → us ≡ xs
unfolding endless
mixed_endless [] us e over = refl
mixed_endless (x ∷ xs) [] e m = elim m [ ]
mixed_endless (x ∷ xs) (_ ∷ us) e (kept m) = go (eqb x 10) e (λ q. mixed_endless xs us q m)
  where
    go : (b : Bool) → (not b && endless xs) ≡ true → (endless xs ≡ true → us ≡ xs) → (x ∷ us) ≡ (x ∷ xs)
    go true q ih = absurd (false≢true q)
    go false q ih = ap (λ l. x ∷ l) (ih q)
mixed_endless (_ ∷ xs) (_ ∷ _ ∷ us) e (turned m) = absurd (false≢true e)

mixed_end : (us : List ℕ) → MixedEnds line_end us → LineEnd us
mixed_end us (kept over) = alone
mixed_end us (turned over) = after_13

-- a written line keeps its key and numbers, and has a line end
pub mixed_line : (key vs us : List ℕ) → endless key ≡ true → MixedEnds (line key vs) us → (end : List ℕ) × LineEnd end × (us ≡ key ++ separated vs ++ end)
unfolding line
mixed_line key vs us e m =
    let p = mixed_parts (key ++ separated vs) line_end us m in
    let f = mixed_endless (key ++ separated vs) p.front (endless_append key (separated vs) e (endless_separated vs)) p.front_mixed in
    (p.back, mixed_end p.back p.back_mixed, p.whole ∙ ap (λ l. l ++ p.back) f)

pub line_mixed : (key vs end : List ℕ) → LineEnd end → MixedEnds (line key vs) (key ++ separated vs ++ end)
unfolding line
line_mixed key vs end alone = mixed_same (key ++ separated vs ++ line_end)
line_mixed key vs end after_13 = mixed_append (mixed_same (key ++ separated vs)) (turned over)

-- so it is read where it stands
pub mixed_read : (key text vs us : List ℕ) (at : ℕ) → endless key ≡ true → Numerals vs → MixedEnds (line key vs) us → Stands text at us → line_at key text at ≡ listed vs (at + length us)
mixed_read key text vs us at e n m h =
    let (end, E, q) = mixed_line key vs us e m in
    line_back key text vs at (at + length us) (record { end = end; ends = E; same = record { numerals = n; holds = subst (Stands text at) q h; place = ap (λ l. at + length l) q } })
