-- What was written reads back. Assumes nothing.
use Rattle.std.proofs.Common.{ℕ, zero, suc, ◌+◌, ◌/◌, ◌%◌, ◌≤◌, ◌<◌, ◌≡◌, refl, sym, ap, ◌∙◌, subst, Bool, true, false, List, [], ◌∷◌, ◌++◌, add-one, arith, eq-eqb, get_or, length, drop, length-append, drop-cons}
use Rattle.std.proofs.Math.Decide.{dec_lt}
use Rattle.std.proofs.Math.ListN.{get_or-eq_default}
use Rattle.text.specs.Written.{decimal, separated, line_end, line}
use Rattle.text.specs.Reading.{digit_at, starts_with, listed, before, line_end_at, numbers_at, line_at, last_line_at}
use Rattle.layout.specs.Layout.{Stands, Digits, Numerals, LineEnd, LineAt, LastLineAt}
use Rattle.layout.specs.Layout.LineEnd.{alone, after_13}
use Rattle.layout.specs.Layout.LastLineAt.{whole, bare}
use Rattle.text.proofs.DigitLaws.{low_digit}
use Rattle.text.proofs.LineEnds.{end_alone, end_after_13}
use Rattle.layout.proofs.Standing.{stands_head, stands_tail, stands_left, stands_right}
use Rattle.buffer.proofs.Writing.{one, two, three}
use Rattle.layout.proofs.Decimals.{number_back}
use Rattle.text.proofs.Listing.{numbers_last, numbers_more}
use Rattle.text.proofs.Closing.{line_of, closing, keyed, closing_ended, closing_over}

-- every byte of a list is a digit
abbrev AllDigits : List ℕ → Type 0
AllDigits ds = (i : ℕ) → i < length ds → (48 ≤ get_or ds i 0) × (get_or ds i 0 ≤ 57)

all_none : AllDigits []
all_none i h = absurd (omega arith)

all_more : (d : ℕ) (ds : List ℕ) → 48 ≤ d → d ≤ 57 → AllDigits ds → AllDigits (d ∷ ds)
all_more d ds l u e zero h = (l, u)
all_more d ds l u e (suc i) h = e i (omega arith)

pub decimal_digits : (v : ℕ) → v < 1000 → Digits (decimal v)
decimal_digits v small = go (dec_lt v 10) (dec_lt v 100)
  where
    units : AllDigits ((v % 10 + 48) ∷ [])
    units = all_more (v % 10 + 48) [] (omega arith) (omega arith) all_none

    tens : AllDigits ((v / 10 % 10 + 48) ∷ (v % 10 + 48) ∷ [])
    tens = all_more (v / 10 % 10 + 48) ((v % 10 + 48) ∷ []) (omega arith) (omega arith) units

    go : Dec (v < 10) → Dec (v < 100) → Digits (decimal v)
    go (yes l) d = rw (one v l) (record { some = omega arith; few = omega arith; each = units; leading = λ h z. omega arith })
    go (no n) (yes l) = rw (two v (omega arith) l) (record { some = omega arith; few = omega arith; each = tens; leading = λ h z. omega arith })
    go (no n) (no m) =
        rw (three v (omega arith))
        (record {
          some = omega arith;
          few = omega arith;
          each = all_more (v / 100 % 10 + 48) ((v / 10 % 10 + 48) ∷ (v % 10 + 48) ∷ []) (omega arith) (omega arith) tens;
          leading = λ h z. omega arith;
        })

-- the numbers of a longer list
tail_numerals : (v w : ℕ) (vs : List ℕ) → Numerals (v ∷ w ∷ vs) → Numerals (w ∷ vs)
tail_numerals v w vs n = record { some = omega arith; small = λ i h. n.small (suc i) (omega arith) }

pub numbers_back : (s vs : List ℕ) (at : ℕ) → Numerals vs → Stands s at (separated vs) → 10 ≤ digit_at s (at + length (separated vs)) → (get_or s (at + length (separated vs)) 0 ≡ 44 → ⊥) → numbers_at s at ≡ listed vs (at + length (separated vs))
unfolding separated before
numbers_back s [] at n h stop comma = absurd (omega (arith, n.some))
numbers_back s (v ∷ []) at n h stop comma = numbers_last s at v _ (number_back s at v (n.small 0 (omega arith)) h stop) comma
numbers_back s (v ∷ w ∷ vs) at n h stop comma =
    let there = stands_right (decimal v) (44 ∷ separated (w ∷ vs)) h in
    let byte = stands_head there in
    let e : at + length (decimal v ++ 44 ∷ separated (w ∷ vs)) ≡ at + length (decimal v) + 1 + length (separated (w ∷ vs)) = omega (arith, length-append (decimal v) (44 ∷ separated (w ∷ vs))) in
    numbers_more s at v (at + length (decimal v)) (number_back s at v (n.small 0 (omega arith)) (stands_left (decimal v) (44 ∷ separated (w ∷ vs)) h) (omega (arith, low_digit (get_or s (at + length (decimal v)) 0) (omega arith)))) byte
    ∙ ap (before v) (numbers_back s (w ∷ vs) (at + length (decimal v) + 1) (tail_numerals v w vs n) (stands_tail there) (rw e at stop) (rw e at comma))
    ∙ rw e refl

-- a key that stands at a place
pub starts_there : (key s : List ℕ) (at : ℕ) → Stands s at key → starts_with key (drop at s) ≡ true
unfolding starts_with
starts_there [] s at h = refl
starts_there (k ∷ key) s at h =
    let i : at < length s = omega (arith, h.room) in
    rw (drop-cons s at 0 i, eq-eqb (get_or s at 0) k (stands_head h), ← add-one at) (starts_there key s (at + 1) (stands_tail h))

-- a line end that stands at a place
pub line_end_back : (s end : List ℕ) (at : ℕ) → LineEnd end → Stands s at end → line_end_at s at ≡ length end
line_end_back s end at alone h = end_alone s at (stands_head h)
line_end_back s end at after_13 h = end_after_13 s at (stands_head h) (stands_head (stands_tail h))

-- its first byte is no digit and no comma
line_end_first : (s end : List ℕ) (at : ℕ) → LineEnd end → Stands s at end → (0 < length end) × (get_or s at 0 < 14)
line_end_first s end at alone h = (omega arith, omega (arith, stands_head h))
line_end_first s end at after_13 h = (omega arith, omega (arith, stands_head h))

pub line_written : (key s vs : List ℕ) (at : ℕ) → Numerals vs → Stands s at (line key vs) → LineAt key s at vs (at + length (line key vs))
unfolding line
line_written key s vs at n h = record { end = line_end; ends = alone; same = record { numerals = n; holds = h; place = refl } }

module _ (key s vs : List ℕ) (at : ℕ) (n : Numerals vs) where
  -- the key and the numbers, which a byte follows that is no digit and no comma
  numbers_there : (last : Bool) → Stands s at (key ++ separated vs) → 10 ≤ digit_at s (at + length key + length (separated vs)) → (get_or s (at + length key + length (separated vs)) 0 ≡ 44 → ⊥) → line_of last key s at ≡ closing last s (listed vs (at + length key + length (separated vs)))
  numbers_there last h stop comma =
      keyed s last key at (starts_there key s at (stands_left key (separated vs) h))
      ∙ ap (closing last s) (numbers_back s vs (at + length key) n (stands_right key (separated vs) h) stop comma)

  -- and a line end after them
  back : (last : Bool) (end : List ℕ) → LineEnd end → Stands s at (key ++ separated vs ++ end) → line_of last key s at ≡ listed vs (at + length (key ++ separated vs ++ end))
  back last end E h =
      let next : ℕ = at + length key + length (separated vs) in
      let e : at + length (key ++ separated vs) ≡ next = omega (arith, length-append key (separated vs)) in
      let there : Stands s next end = subst (λ i. Stands s i end) e (stands_right (key ++ separated vs) end h) in
      let size : line_end_at s next ≡ length end = line_end_back s end next E there in
      let (some, low) = line_end_first s end next E there in
      numbers_there last (stands_left (key ++ separated vs) end h) (omega (arith, low_digit (get_or s next 0) (omega arith))) (λ c. omega arith)
      ∙ closing_ended s vs next last (λ z. omega arith)
      ∙ ap (listed vs) (omega (arith, length-append (key ++ separated vs) end))

  bare_back : Stands s at (key ++ separated vs) → at + length (key ++ separated vs) ≡ length s → last_line_at key s at ≡ listed vs (length s)
  bare_back h over =
      let next : ℕ = at + length key + length (separated vs) in
      let e : next ≡ length s = omega (arith, length-append key (separated vs)) in
      let b : get_or s next 0 ≡ 0 = get_or-eq_default s 0 (omega arith) in
      numbers_there true h (omega (arith, low_digit (get_or s next 0) (omega arith))) (λ c. omega arith)
      ∙ closing_over s vs next (omega arith)
      ∙ ap (listed vs) e

module _ (key s vs : List ℕ) (at next : ℕ) where
  whole_back : (last : Bool) → LineAt key s at vs next → line_of last key s at ≡ listed vs next
  whole_back last L = back key s vs at L.same.numerals last L.end L.ends L.same.holds ∙ ap (listed vs) (sym L.same.place)

  pub line_back : LineAt key s at vs next → line_at key s at ≡ listed vs next
  line_back = whole_back false

  pub last_back : LastLineAt key s at vs next → last_line_at key s at ≡ listed vs next
  last_back (whole L) = whole_back true L
  last_back (bare t over) = bare_back key s vs at t.numerals t.holds (sym t.place ∙ over) ∙ ap (listed vs) (sym over)
