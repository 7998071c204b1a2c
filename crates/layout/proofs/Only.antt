-- Nothing but what is written is read. Assumes nothing.
use Rattle.std.proofs.Common.{ℕ, ◌+◌, ◌≤◌, ◌<◌, ◌≡◌, refl, sym, ap, ◌∙◌, subst, subst₂, ◌≢◌, Bool, true, false, ◌&&◌, List, [], ◌∷◌, ◌++◌, add-one, arith, eqb-true, eqb, get_or, length, drop, length-append, drop_of_length-le, drop-cons, Some, None}
use Rattle.std.proofs.lemmas.Bool.{false≢true}
use Rattle.std.proofs.Math.Decide.{dec_lt, ℕ_discrete}
use Rattle.text.specs.Written.{decimal, separated}
use Rattle.text.specs.Reading.{Number, number_at, starts_with, Listed, listed, unlisted, before, line_end_at, numbers_at, line_at, last_line_at}
use Rattle.layout.specs.Layout.{Stands, Walk, single, more, Same, LineEnd, LineAt, LastLineAt}
use Rattle.layout.specs.Layout.LineEnd.{alone, after_13}
use Rattle.layout.specs.Layout.LastLineAt.{whole, bare}
use Rattle.layout.proofs.Standing.{stands_nil, stands_cons, stands_append, numerals_more, one_number}
use Rattle.layout.proofs.Decimals.{number_stands}
use Rattle.text.proofs.Listing.{numbers_none, numbers_last, numbers_more}
use Rattle.text.proofs.DigitLaws.{inside}
use Rattle.text.proofs.LineEnds.{Ended, ended_by}
use Rattle.text.proofs.LineEnds.Ended.{by_10, by_13_10}
use Rattle.text.proofs.Closing.{line_of, closing, keyed, keyless, closing_none, closing_over, closing_ended, closing_open}

never_listed : {A : Type 0} {vs : List ℕ} {next : ℕ} → unlisted ≡ listed vs next → A
never_listed e = let z : ◌≡◌ {A = ℕ} 0 1 = cc in absurd (omega arith)

-- lists of numbers are the same where what is read is
same_listed : (P : List ℕ → ℕ → Type 0) {ws vs : List ℕ} {to next : ℕ} → listed ws to ≡ listed vs next → P ws to → P vs next
same_listed P {ws} {vs} {to} {next} e p =
    let ev : ws ≡ vs = cc in
    let en : to ≡ next = cc in
    subst₂ P ev en p

pub numbers_walk : (s vs : List ℕ) (at next : ℕ) → numbers_at s at ≡ listed vs next → Walk s at vs next
unfolding before
numbers_walk s vs at next e = go (number_at s at) refl
  where
    further : (v to : ℕ) → number_at s at ≡ Some (v, to) → get_or s to 0 ≡ 44 → (l : Listed) → numbers_at s (to + 1) ≡ l → Walk s at vs next
    further v to r c (listed ws n) m = same_listed (λ us i. Walk s at us i) (sym (numbers_more s at v to r c ∙ ap (before v) m) ∙ e) (more r c m)
    further v to r c unlisted m = never_listed (sym (numbers_more s at v to r c ∙ ap (before v) m) ∙ e)

    after : (v to : ℕ) → number_at s at ≡ Some (v, to) → Dec (get_or s to 0 ≡ 44) → Walk s at vs next
    after v to r (yes c) = further v to r c (numbers_at s (to + 1)) refl
    after v to r (no c) = same_listed (λ us i. Walk s at us i) (sym (numbers_last s at v to r c) ∙ e) (single r c)

    go : (r : Number) → number_at s at ≡ r → Walk s at vs next
    go None r = never_listed (sym (numbers_none s at r) ∙ e)
    go (Some (v, to)) r = after v to r (ℕ_discrete (get_or s to 0) 44)

-- one number, and what follows it
module _ (s : List ℕ) (at next v : ℕ) where
  none_listed : {A : Type 0} → Walk s at [] next → A
  none_listed = elim [ ]

  number_only : (vs : List ℕ) → Walk s at (v ∷ vs) next → ((to : ℕ) → numbers_at s to ≡ listed vs next → Same s to vs (separated vs) next) → Same s at (v ∷ vs) (separated (v ∷ vs)) next
  unfolding separated
  number_only [] (single r c) ih =
      let h = number_stands s at v next r in
      record { numerals = one_number v h.small; holds = h.holds; place = h.place }
  number_only [] (more {to = to} r c m) ih = absurd (omega (arith, (ih (to + 1) m).numerals.some))
  number_only (w ∷ vs) (more {to = to} r c m) ih =
      let h = number_stands s at v to r in
      let t = ih (to + 1) m in
      let p = h.place in
      let there : Stands s to (44 ∷ separated (w ∷ vs)) = stands_cons (inside s to (omega arith)) c t.holds in
      record {
        numerals = numerals_more v (w ∷ vs) h.small t.numerals.small;
        holds = stands_append (decimal v) (44 ∷ separated (w ∷ vs)) h.holds (rw p at there);
        place = omega (arith, t.place, length-append (decimal v) (44 ∷ separated (w ∷ vs)));
      }

pub numbers_only : (s vs : List ℕ) (at next : ℕ) → numbers_at s at ≡ listed vs next → Same s at vs (separated vs) next
numbers_only s [] at next e = none_listed s at next 0 (numbers_walk s [] at next e)
numbers_only s (v ∷ vs) at next e = number_only s at next v vs (numbers_walk s (v ∷ vs) at next e) (λ to m. numbers_only s vs to next m)

-- a key that a text begins with stands there
pub starts_only : (key s : List ℕ) (at : ℕ) → at ≤ length s → starts_with key (drop at s) ≡ true → Stands s at key
unfolding starts_with
starts_only [] s at l e = stands_nil s at l
starts_only (k ∷ key) s at l e = go (dec_lt at (length s)) (λ i f. starts_only key s (at + 1) i f)
  where
    both : (b : Bool) → eqb (get_or s at 0) k ≡ b → (b && starts_with key (drop (at + 1) s)) ≡ true → at < length s → (at + 1 ≤ length s → starts_with key (drop (at + 1) s) ≡ true → Stands s (at + 1) key) → Stands s at (k ∷ key)
    both true q f i ih = stands_cons i (eqb-true (get_or s at 0) k q) (ih (omega arith) f)
    both false q f i ih = absurd (false≢true f)

    go : Dec (at < length s) → (at + 1 ≤ length s → starts_with key (drop (at + 1) s) ≡ true → Stands s (at + 1) key) → Stands s at (k ∷ key)
    go (yes i) ih = both (eqb (get_or s at 0) k) refl (rw (drop-cons s at 0 i, ← add-one at) at e) i ih
    go (no n) ih = let d : drop at s ≡ [] = drop_of_length-le s {i = at} (omega arith) in absurd (false≢true (rw d at e))

-- a line end that is read stands there
pub line_end_only : (s : List ℕ) (at : ℕ) → line_end_at s at ≢ 0 → (end : List ℕ) × LineEnd end × Stands s at end × (line_end_at s at ≡ length end)
line_end_only s at n = go (ended_by s at n)
  where
    last_byte : (i : ℕ) → get_or s i 0 ≡ 10 → Stands s i (10 ∷ [])
    last_byte i e = let l = inside s i (omega arith) in stands_cons l e (stands_nil s (i + 1) (omega arith))

    go : Ended s at → (end : List ℕ) × LineEnd end × Stands s at end × (line_end_at s at ≡ length end)
    go (by_10 e l) = (10 ∷ [], alone, last_byte at e, l)
    go (by_13_10 e f l) = (13 ∷ 10 ∷ [], after_13, stands_cons (inside s at (omega arith)) e (last_byte (at + 1) f), l)

-- a line that was read: whole, or the last without its end
data Line (last : Bool) (key s : List ℕ) (at : ℕ) (vs : List ℕ) (next : ℕ) : Type 0 where
  ended : LineAt key s at vs next → Line last key s at vs next
  open' : last ≡ true → Same s at vs (key ++ separated vs) next → next ≡ length s → Line last key s at vs next

module _ (key s : List ℕ) (at : ℕ) where
  -- the key, and after it the numbers
  pub keyed_only : (vs : List ℕ) (next : ℕ) → starts_with key (drop at s) ≡ true → numbers_at s (at + length key) ≡ listed vs next → Same s at vs (key ++ separated vs) next
  keyed_only vs next k e =
      let t = numbers_only s vs (at + length key) next e in
      record {
        numerals = t.numerals;
        holds = stands_append key (separated vs) (starts_only key s at (omega (arith, t.holds.room)) k) t.holds;
        place = omega (arith, t.place, length-append key (separated vs));
      }

  ended_only : (vs : List ℕ) (next : ℕ) → Same s at vs (key ++ separated vs) next → line_end_at s next ≢ 0 → LineAt key s at vs (next + line_end_at s next)
  ended_only vs next t n =
      let (end, E, there, size) = line_end_only s next n in
      record {
        end = end;
        ends = E;
        same = record {
          numerals = t.numerals;
          holds = stands_append (key ++ separated vs) end t.holds (subst (λ i. Stands s i end) t.place there);
          place = omega (arith, t.place, length-append (key ++ separated vs) end);
        };
      }

  only : (last : Bool) (vs : List ℕ) (next : ℕ) → line_of last key s at ≡ listed vs next → Line last key s at vs next
  only last vs next e = go (starts_with key (drop at s)) refl
    where
      -- no line end after the numbers
      unended : (b : Bool) (ws : List ℕ) (n : ℕ) → Same s at ws (key ++ separated ws) n → line_end_at s n ≡ 0 → closing b s (listed ws n) ≡ listed vs next → Dec (n < length s) → Line b key s at vs next
      unended false ws n t z f d = never_listed (sym (closing_open s ws n false (λ q. absurd (false≢true q)) z) ∙ f)
      unended true ws n t z f (yes l) = never_listed (sym (closing_open s ws n true (λ q. l) z) ∙ f)
      unended true ws n t z f (no l) =
          same_listed (λ us i. Line true key s at us i) (sym (closing_over s ws n (omega arith)) ∙ f) (open' refl t (omega (arith, t.holds.room, t.place)))

      ends : (ws : List ℕ) (n : ℕ) → Same s at ws (key ++ separated ws) n → closing last s (listed ws n) ≡ listed vs next → Dec (line_end_at s n ≡ 0) → Line last key s at vs next
      ends ws n t f (yes z) = unended last ws n t z f (dec_lt n (length s))
      ends ws n t f (no z) = same_listed (λ us i. Line last key s at us i) (sym (closing_ended s ws n last z) ∙ f) (ended (ended_only ws n t z))

      numbers : starts_with key (drop at s) ≡ true → (l : Listed) → numbers_at s (at + length key) ≡ l → Line last key s at vs next
      numbers k (listed ws n) m = ends ws n (keyed_only ws n k m) (sym (keyed s last key at k ∙ ap (closing last s) m) ∙ e) (ℕ_discrete (line_end_at s n) 0)
      numbers k unlisted m = never_listed (sym (keyed s last key at k ∙ ap (closing last s) m ∙ closing_none s last) ∙ e)

      go : (b : Bool) → starts_with key (drop at s) ≡ b → Line last key s at vs next
      go true k = numbers k (numbers_at s (at + length key)) refl
      go false k = never_listed (sym (keyless s last key at k) ∙ e)

pub line_only : (key s vs : List ℕ) (at next : ℕ) → line_at key s at ≡ listed vs next → LineAt key s at vs next
line_only key s vs at next e = go (only key s at false vs next e)
  where
    go : Line false key s at vs next → LineAt key s at vs next
    go (ended t) = t
    go (open' q t p) = absurd (false≢true q)

pub last_only : (key s vs : List ℕ) (at next : ℕ) → last_line_at key s at ≡ listed vs next → LastLineAt key s at vs next
last_only key s vs at next e = go (only key s at true vs next e)
  where
    go : Line true key s at vs next → LastLineAt key s at vs next
    go (ended t) = whole t
    go (open' q t p) = bare t p
