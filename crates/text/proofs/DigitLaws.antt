-- The digit at a place, and the number by the digits that are read. Assumes nothing.
use Rattle.std.proofs.Common.{◌≡◌, ℕ, ◌+◌, ◌-◌, ◌*◌, ◌<◌, ◌≤◌, List, length, get_or, Some, None, refl, ◌∙◌, subst₂, arith, eq-eqb, ne_eqb, le-leb}
use Rattle.std.proofs.lemmas.Option.{none-some, some_pair_parts}
use Rattle.std.proofs.Math.Decide.{dec_lt, ℕ_discrete}
use Rattle.std.proofs.lemmas.Bool.{lt-leb}
use Rattle.std.proofs.Math.ListN.{get_or-eq_default}
use Rattle.text.specs.Reading.{digit_of, digit_at, number_of, number_at}

pub low_digit : (b : ℕ) → b < 48 → digit_of b ≡ 10
unfolding digit_of
low_digit b h = rw (lt-leb 48 b h)

pub high_digit : (b : ℕ) → 57 < b → digit_of b ≡ 10
unfolding digit_of
high_digit b h = rw (le-leb 48 b (omega arith), lt-leb b 57 h)

pub mid_digit : (b : ℕ) → 48 ≤ b → b ≤ 57 → digit_of b ≡ b - 48
unfolding digit_of
mid_digit b l h = rw (le-leb 48 b l, le-leb b 57 h)

-- a byte that is no 0 stands in the text
pub inside : (s : List ℕ) (at : ℕ) → 0 < get_or s at 0 → at < length s
inside s at h = go (dec_lt at (length s))
  where
    go : Dec (at < length s) → at < length s
    go (yes l) = l
    go (no n) = let e : length s ≤ at = omega arith in absurd (omega (arith, get_or-eq_default s 0 e))

-- a digit's byte
pub digit_byte : (b : ℕ) → digit_of b < 10 → b ≡ digit_of b + 48
digit_byte b h = go (dec_lt b 48) (dec_lt 57 b)
  where
    go : Dec (b < 48) → Dec (57 < b) → b ≡ digit_of b + 48
    go (yes l) d = absurd (omega (arith, low_digit b l))
    go (no n) (yes l) = absurd (omega (arith, high_digit b l))
    go (no n) (no m) = omega (arith, mid_digit b (omega arith) (omega arith))

pub digit_small : (b : ℕ) → digit_of b ≤ 10
digit_small b = go (dec_lt b 48) (dec_lt 57 b)
  where
    go : Dec (b < 48) → Dec (57 < b) → digit_of b ≤ 10
    go (yes l) d = omega (arith, low_digit b l)
    go (no n) (yes l) = omega (arith, high_digit b l)
    go (no n) (no m) = omega (arith, mid_digit b (omega arith) (omega arith))

-- where a digit was read the text goes on past its place
module _ {a : ℕ} (s : List ℕ) (at : ℕ) (e : a ≡ digit_at s at) where
  pub digit_inside : a < 10 → at < length s
  digit_inside h = inside s at (omega (arith, digit_byte (get_or s at 0) (omega arith)))

-- the number, by one digit after the other
module _ (s : List ℕ) (at a : ℕ) (ea : a ≡ digit_at s at) where
  pub no_digit : 10 ≤ a → None ≡ number_at s at
  unfolding number_of
  no_digit h = rw (← ea, le-leb 10 a h)

  module _ (la : a < 10) (b : ℕ) (eb : b ≡ digit_at s (at + 1)) where
    pub one_digit : 10 ≤ b → Some (a, at + 1) ≡ number_at s at
    unfolding number_of
    one_digit h = rw (← ea, ← eb, lt-leb 10 a la, le-leb 10 b h)

    pub zero_first : b < 10 → a ≡ 0 → None ≡ number_at s at
    unfolding number_of
    zero_first h z = rw (← ea, ← eb, lt-leb 10 a la, lt-leb 10 b h, eq-eqb a 0 z)

    module _ (lb : b < 10) (na : a ≡ 0 → ⊥) (c : ℕ) (ec : c ≡ digit_at s (at + 2)) where
      pub two_digits : 10 ≤ c → Some (a * 10 + b, at + 2) ≡ number_at s at
      unfolding number_of
      two_digits h = rw (← ea, ← eb, ← ec, lt-leb 10 a la, lt-leb 10 b lb, ne_eqb a 0 na, le-leb 10 c h)

      module _ (lc : c < 10) (d : ℕ) (ed : d ≡ digit_at s (at + 3)) where
        pub three_digits : 10 ≤ d → Some (a * 100 + b * 10 + c, at + 3) ≡ number_at s at
        unfolding number_of
        three_digits h = rw (← ea, ← eb, ← ec, ← ed, lt-leb 10 a la, lt-leb 10 b lb, ne_eqb a 0 na, lt-leb 10 c lc, le-leb 10 d h)

        pub four_digits : d < 10 → None ≡ number_at s at
        unfolding number_of
        four_digits h = rw (← ea, ← eb, ← ec, ← ed, lt-leb 10 a la, lt-leb 10 b lb, ne_eqb a 0 na, lt-leb 10 c lc, lt-leb 10 d h)

-- what holds of a number of one digit, of two and of three holds of every number that is read
module _ (s : List ℕ) (at : ℕ) (P : ℕ → ℕ → Type 0) where
  abbrev One : Type 0
  One = (a : ℕ) → a ≡ digit_at s at → a < 10 → 10 ≤ digit_at s (at + 1) → P a (at + 1)

  abbrev Two : Type 0
  Two = (a : ℕ) → a ≡ digit_at s at → a < 10 → (b : ℕ) → b ≡ digit_at s (at + 1) → b < 10 → (a ≡ 0 → ⊥) → 10 ≤ digit_at s (at + 2) → P (a * 10 + b) (at + 2)

  abbrev Three : Type 0
  Three = (a : ℕ) → a ≡ digit_at s at → a < 10 → (b : ℕ) → b ≡ digit_at s (at + 1) → b < 10 → (a ≡ 0 → ⊥) → (c : ℕ) → c ≡ digit_at s (at + 2) → c < 10 → 10 ≤ digit_at s (at + 3) → P (a * 100 + b * 10 + c) (at + 3)

  module _ (v next : ℕ) (e : number_at s at ≡ Some (v, next)) (one : One) (two : Two) (three : Three) where
    never : None ≡ number_at s at → P v next
    never m = absurd (none-some (v, next) (m ∙ e))

    same : {w to : ℕ} → Some (w, to) ≡ number_at s at → P w to → P v next
    same {w} {to} m h = let (ev, en) = some_pair_parts w v to next (m ∙ e) in subst₂ P ev en h

    pub by_digits : P v next
    by_digits = go (dec_lt a 10) (dec_lt b 10) (ℕ_discrete a 0) (dec_lt c 10) (dec_lt d 10)
      where
        a : ℕ
        a = digit_at s at

        b : ℕ
        b = digit_at s (at + 1)

        c : ℕ
        c = digit_at s (at + 2)

        d : ℕ
        d = digit_at s (at + 3)

        go : Dec (a < 10) → Dec (b < 10) → Dec (a ≡ 0) → Dec (c < 10) → Dec (d < 10) → P v next
        go (no la) gb gz gc gd = never (no_digit s at a refl (omega arith))
        go (yes la) (no lb) gz gc gd = same (one_digit s at a refl la b refl (omega arith)) (one a refl la (omega arith))
        go (yes la) (yes lb) (yes z) gc gd = never (zero_first s at a refl la b refl lb z)
        go (yes la) (yes lb) (no z) (no lc) gd =
            same (two_digits s at a refl la b refl lb z c refl (omega arith)) (two a refl la b refl lb z (omega arith))
        go (yes la) (yes lb) (no z) (yes lc) (no ld) =
            same (three_digits s at a refl la b refl lb z c refl lc d refl (omega arith)) (three a refl la b refl lb z c refl lc (omega arith))
        go (yes la) (yes lb) (no z) (yes lc) (yes ld) = never (four_digits s at a refl la b refl lb z c refl lc d refl ld)

-- a number that is read has a digit, and ends in the text
pub number_ahead : (s : List ℕ) (at v next : ℕ) → number_at s at ≡ Some (v, next) → (at < next) × (next ≤ length s)
number_ahead s at v next e =
    by_digits s at (λ _ to. (at < to) × (to ≤ length s)) v next e
    (λ a ea la h. (omega arith, omega (arith, digit_inside s at ea la)))
    (λ a ea la b eb lb n h. (omega arith, omega (arith, digit_inside s (at + 1) eb lb)))
    (λ a ea la b eb lb n c ec lc h. (omega arith, omega (arith, digit_inside s (at + 2) ec lc)))

-- a law for each answer of number_at
pub ruleset answers = (no_digit, one_digit, zero_first, two_digits, three_digits, four_digits)

-- a law for each answer of digit
pub ruleset digits = (low_digit, high_digit, mid_digit, inside)
