-- A line that byte 10 alone ends: what was written reads back, and nothing else is read. Assumes nothing.
use Rattle.std.proofs.Common.{ℕ, ◌+◌, ◌≡◌, refl, sym, ap, ◌∙◌, subst, List, ◌++◌, true, arith, eq-eqb, eqb-true, eqb, get_or, length, drop, length-append}
use Rattle.counting.proofs.Iterate.{by_bool}
use Rattle.text.specs.Reading.{Listed, starts_with, listed, unlisted, numbers_at}
use Rattle.text.specs.Written.{separated, line_end, line}
use Rattle.text.proofs.DigitLaws.{low_digit, inside}
use Rattle.layout.specs.Layout.{Stands, Same}
use Rattle.layout.proofs.Standing.{stands_nil, stands_cons, stands_head, stands_left, stands_right, stands_append}
use Rattle.layout.proofs.Back.{starts_there, numbers_back}
use Rattle.layout.proofs.Only.{keyed_only}
use Rattle.readdrawing.specs.Lines.{plain_closed, plain_line_at}

module _ (key s : List ℕ) (at : ℕ) where
  pub plain_back : (vs : List ℕ) (next : ℕ) → Same s at vs (line key vs) next → plain_line_at key s at ≡ listed vs next
  unfolding plain_line_at plain_closed line
  plain_back vs next L =
      let after : ℕ = at + length key + length (separated vs) in
      let e : at + length (key ++ separated vs) ≡ after = omega (arith, length-append key (separated vs)) in
      let there = stands_left (key ++ separated vs) line_end L.holds in
      let b : get_or s after 0 ≡ 10 = ap (λ (i : ℕ). get_or s i 0) (sym e) ∙ stands_head (stands_right (key ++ separated vs) line_end L.holds) in
      let back = numbers_back s vs (at + length key) L.numerals (stands_right key (separated vs) there) (omega (arith, low_digit (get_or s after 0) (omega arith))) (λ c. omega arith) in
      rw (starts_there key s at (stands_left key (separated vs) there), back, eq-eqb (get_or s after 0) 10 b)
      (ap (listed vs) (omega (arith, L.place, length-append (key ++ separated vs) line_end)))

  -- the key, the numbers ws and byte 10 after them
  ended : (ws : List ℕ) (n : ℕ) → starts_with key (drop at s) ≡ true → numbers_at s (at + length key) ≡ listed ws n → get_or s n 0 ≡ 10 → Same s at ws (line key ws) (n + 1)
  unfolding line
  ended ws n k e b =
      let t = keyed_only key s at ws n k e in
      let i = inside s n (omega arith) in
      let end : Stands s n line_end = stands_cons i b (stands_nil s (n + 1) (omega arith)) in
      record {
        numerals = t.numerals;
        holds = stands_append (key ++ separated ws) line_end t.holds (subst (λ i. Stands s i line_end) t.place end);
        place = omega (arith, t.place, length-append (key ++ separated ws) line_end);
      }

  pub plain_only : (vs : List ℕ) (next : ℕ) → plain_line_at key s at ≡ listed vs next → Same s at vs (line key vs) next
  unfolding plain_line_at plain_closed
  plain_only vs next e = by_bool (starts_with key (drop at s)) (λ k. numbers k (numbers_at s (at + length key)) refl) (λ k. let f : unlisted ≡ listed vs next = rw k at e in cc)
    where
      numbers : starts_with key (drop at s) ≡ true → (l : Listed) → numbers_at s (at + length key) ≡ l → Same s at vs (line key vs) next
      numbers k (listed ws n) m = by_bool (eqb (get_or s n 0) 10)
          (λ b.
          let f : listed ws (n + 1) ≡ listed vs next = rw (k, m, b) at e in
          let w : ws ≡ vs = cc in
          let z : n + 1 ≡ next = cc in
          rw (w, z) at (ended ws n k m (eqb-true (get_or s n 0) 10 b)))
          (λ b. let f : unlisted ≡ listed vs next = rw (k, m, b) at e in cc)
      numbers k unlisted m = let f : unlisted ≡ listed vs next = rw (k, m) at e in cc
