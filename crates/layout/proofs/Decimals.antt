-- A number's decimal digits, and the number that is read where they stand. Assumes nothing.
use Rattle.std.proofs.Common.{ℕ, ◌+◌, ◌*◌, ◌/◌, ◌%◌, ◌≤◌, ◌<◌, ◌≡◌, refl, sym, ap, ◌∙◌, List, add-zero, arith, get_or, length, Some}
use Rattle.std.proofs.Math.Decide.{dec_lt}
use Rattle.text.specs.Reading.{digit_at, number_at}
use Rattle.text.specs.Written.{decimal}
use Rattle.layout.specs.Layout.{Stands}
use Rattle.layout.proofs.Standing.{stands_nil, stands_cons}
use Rattle.text.proofs.DigitLaws.{mid_digit, digit_byte, digit_small, digit_inside, one_digit, two_digits, three_digits, by_digits}
use Rattle.buffer.proofs.Writing.{one, two, three}

-- a number stands at a place: its decimal digits, and no digit after them
pub record NumberAt (s : List ℕ) (at v next : ℕ) : Type 0 where
  pub small : v < 1000
  pub holds : Stands s at (decimal v)
  pub place : next ≡ at + length (decimal v)
  pub some : at < next
  pub stop : digit_at s next ≡ 10

-- a decimal that stands at a place, and that no digit follows, is read as its number
module _ (s : List ℕ) (at : ℕ) where
  digit_at_law : (x i : ℕ) → x < 10 → get_or s i 0 ≡ x + 48 → x ≡ digit_at s i
  digit_at_law x i h e = rw e (sym (mid_digit (x + 48) (omega arith) (omega arith) ∙ omega arith))

  module _ (v : ℕ) (small : v < 1000) (h : Stands s at (decimal v)) (stop : 10 ≤ digit_at s (at + length (decimal v))) where
    case_one : v < 10 → number_at s at ≡ Some (v, at + length (decimal v))
    case_one l =
        let e = one v l in
        let n : length (decimal v) ≡ 1 = ap length e in
        sym (one_digit s at v (digit_at_law v at l (rw (add-zero, e) at (h.each 0 (omega arith)) ∙ omega arith)) l _ refl (rw n at stop)) ∙ rw n refl

    case_two : 10 ≤ v → v < 100 → number_at s at ≡ Some (v, at + length (decimal v))
    case_two m l =
        let e = two v m l in
        let n : length (decimal v) ≡ 2 = ap length e in
        let a : v / 10 % 10 ≡ digit_at s at = digit_at_law (v / 10 % 10) at (omega arith) (rw (add-zero, e) at (h.each 0 (omega arith))) in
        let b : v % 10 ≡ digit_at s (at + 1) = digit_at_law (v % 10) (at + 1) (omega arith) (rw e at (h.each 1 (omega arith))) in
        sym (two_digits s at _ a (omega arith) _ b (omega arith) (λ z. omega arith) _ refl (rw n at stop))
        ∙ rw n (ap (λ (x : ℕ). Some (x, at + 2)) (omega arith))

    case_three : 100 ≤ v → number_at s at ≡ Some (v, at + length (decimal v))
    case_three m =
        let e = three v m in
        let n : length (decimal v) ≡ 3 = ap length e in
        let a : v / 100 % 10 ≡ digit_at s at = digit_at_law (v / 100 % 10) at (omega arith) (rw (add-zero, e) at (h.each 0 (omega arith))) in
        let b : v / 10 % 10 ≡ digit_at s (at + 1) = digit_at_law (v / 10 % 10) (at + 1) (omega arith) (rw e at (h.each 1 (omega arith))) in
        let c : v % 10 ≡ digit_at s (at + 2) = digit_at_law (v % 10) (at + 2) (omega arith) (rw e at (h.each 2 (omega arith))) in
        sym (three_digits s at _ a (omega arith) _ b (omega arith) (λ z. omega arith) _ c (omega arith) _ refl (rw n at stop))
        ∙ rw n (ap (λ (x : ℕ). Some (x, at + 3)) (omega arith))

    pub number_back : number_at s at ≡ Some (v, at + length (decimal v))
    number_back = go (dec_lt v 10) (dec_lt v 100)
      where
        go : Dec (v < 10) → Dec (v < 100) → number_at s at ≡ Some (v, at + length (decimal v))
        go (yes l) d = case_one l
        go (no n) (yes l) = case_two (omega arith) l
        go (no n) (no m) = case_three (omega arith)

-- a number that is read stands there
module _ (s : List ℕ) (at : ℕ) where
  -- the digit read at a place is its byte
  byte_at : (x i : ℕ) → x ≡ digit_at s i → x < 10 → (i < length s) × (get_or s i 0 ≡ x + 48)
  byte_at x i e h = (digit_inside s i e h, omega (arith, digit_byte (get_or s i 0) (omega arith)))

  stop_at : (i : ℕ) → 10 ≤ digit_at s i → digit_at s i ≡ 10
  stop_at i h = omega (arith, digit_small (get_or s i 0))

  module _ (a : ℕ) (ea : a ≡ digit_at s at) (la : a < 10) where
    stands_one : 10 ≤ digit_at s (at + 1) → NumberAt s at a (at + 1)
    stands_one h =
        let (l, e) = byte_at a at ea la in
        let n : length (decimal a) ≡ 1 = ap length (one a la) in
        record {
          small = omega arith;
          holds = rw (one a la) (stands_cons l (e ∙ omega arith) (stands_nil s (at + 1) (omega arith)));
          place = omega arith;
          some = omega arith;
          stop = stop_at (at + 1) h;
        }

    module _ (b : ℕ) (eb : b ≡ digit_at s (at + 1)) (lb : b < 10) (na : a ≡ 0 → ⊥) where
      stands_two : 10 ≤ digit_at s (at + 2) → NumberAt s at (a * 10 + b) (at + 2)
      stands_two h =
          let (l, e) = byte_at a at ea la in
          let (m, f) = byte_at b (at + 1) eb lb in
          let d = two (a * 10 + b) (omega arith) (omega arith) in
          let n : length (decimal (a * 10 + b)) ≡ 2 = ap length d in
          record {
            small = omega arith;
            holds = rw d (stands_cons l (e ∙ omega arith) (stands_cons m (f ∙ omega arith) (stands_nil s (at + 1 + 1) (omega arith))));
            place = omega arith;
            some = omega arith;
            stop = stop_at (at + 2) h;
          }

      module _ (c : ℕ) (ec : c ≡ digit_at s (at + 2)) (lc : c < 10) where
        stands_three : 10 ≤ digit_at s (at + 3) → NumberAt s at (a * 100 + b * 10 + c) (at + 3)
        stands_three h =
            let (l, e) = byte_at a at ea la in
            let (m, f) = byte_at b (at + 1) eb lb in
            let (o, g) = byte_at c (at + 2) ec lc in
            let d = three (a * 100 + b * 10 + c) (omega arith) in
            let n : length (decimal (a * 100 + b * 10 + c)) ≡ 3 = ap length d in
            let z : at + 1 + 1 ≡ at + 2 = omega arith in
            record {
              small = omega arith;
              holds = rw d (stands_cons l (e ∙ omega arith) (stands_cons m (f ∙ omega arith) (rw z (stands_cons o (g ∙ omega arith) (stands_nil s (at + 2 + 1) (omega arith))))));
              place = omega arith;
              some = omega arith;
              stop = stop_at (at + 3) h;
            }

  pub number_stands : (v next : ℕ) → number_at s at ≡ Some (v, next) → NumberAt s at v next
  number_stands v next e = by_digits s at (NumberAt s at) v next e stands_one stands_two stands_three
