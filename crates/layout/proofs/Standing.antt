-- Bytes that stand at a place of a text, and the numbers of a line. Assumes nothing.
use Rattle.std.proofs.Common.{ℕ, zero, suc, ◌+◌, ◌≤◌, ◌<◌, ◌≡◌, refl, sym, ap, ◌∙◌, subst, ◌⊎◌, inl, inr, List, [], ◌∷◌, ◌++◌, add-zero, zero-add, arith, get_or, length, take, set, length-append, length-take-le, get_or-append-add, get_or-set_other}
use Rattle.std.proofs.Math.Logic.{by_cases}
use Rattle.std.proofs.Math.Decide.{ℕ_discrete}
use Rattle.std.proofs.Math.ListN.{get_or-append}
use Rattle.std.proofs.Math.Seq.{sets, sets-eq, length-sets}
use Rattle.counting.specs.Below.{join_below}
use Rattle.layout.specs.Layout.{Stands, Numerals}

pub stands_nil : (s : List ℕ) (at : ℕ) → at ≤ length s → Stands s at []
stands_nil s at h = record { room = omega arith; each = λ i l. absurd (omega arith) }

module _ {s : List ℕ} {at : ℕ} {d : ℕ} {ds : List ℕ} where
  pub stands_cons : at < length s → get_or s at 0 ≡ d → Stands s (at + 1) ds → Stands s at (d ∷ ds)
  stands_cons l e h = record { room = omega (arith, h.room); each = each' }
    where
      each' : (i : ℕ) → i < suc (length ds) → get_or s (at + i) 0 ≡ get_or (d ∷ ds) i 0
      each' zero j = rw add-zero e
      each' (suc i) j = ap (λ (n : ℕ). get_or s n 0) (omega arith) ∙ h.each i (omega arith)

  pub stands_head : Stands s at (d ∷ ds) → get_or s at 0 ≡ d
  stands_head h = rw add-zero at (h.each 0 (omega arith))

  pub stands_tail : Stands s at (d ∷ ds) → Stands s (at + 1) ds
  stands_tail h = record { room = omega (arith, h.room); each = λ i j. ap (λ (n : ℕ). get_or s n 0) (omega arith) ∙ h.each (suc i) (omega arith) }

pub stands_left : {s : List ℕ} {at : ℕ} (xs ys : List ℕ) → Stands s at (xs ++ ys) → Stands s at xs
stands_left xs ys h = record { room = omega (arith, h.room, length-append xs ys); each = λ i j. h.each i (omega (arith, length-append xs ys)) ∙ get_or-append xs ys 0 i j }

pub stands_right : {s : List ℕ} {at : ℕ} (xs ys : List ℕ) → Stands s at (xs ++ ys) → Stands s (at + length xs) ys
stands_right {s} xs ys h =
    record {
      room = omega (arith, h.room, length-append xs ys);
      each = λ i j. ap (λ (n : ℕ). get_or s n 0) (omega arith) ∙ h.each (length xs + i) (omega (arith, length-append xs ys)) ∙ get_or-append-add xs ys i 0;
    }

pub stands_append : {s : List ℕ} {at : ℕ} (xs ys : List ℕ) → Stands s at xs → Stands s (at + length xs) ys → Stands s at (xs ++ ys)
stands_append {s = s} {at = at} [] ys h k = rw add-zero at k
stands_append {s = s} {at = at} (x ∷ xs) ys h k = stands_cons (omega (arith, h.room)) (stands_head h) (stands_append {s = s} {at = at + 1} xs ys (stands_tail h) (subst (λ (n : ℕ). Stands s n ys) (omega arith) k))

-- at the front, whatever follows
pub stands_front : (ds rest : List ℕ) → Stands (ds ++ rest) 0 ds
stands_front ds rest = record { room = omega (arith, length-append ds rest); each = λ i h. rw zero-add (get_or-append ds rest 0 i h) }

-- of the texts f 0, f 1, … one after the other, each
pub stands_joined : (f : ℕ → List ℕ) {text : List ℕ} {at : ℕ} (n k : ℕ) → k < n → Stands text at (join_below f n) → Stands text (at + length (join_below f k)) (f k)
unfolding join_below
stands_joined f zero k h H = absurd (omega arith)
stands_joined f (suc n) k h H = by_cases (ℕ_discrete k n)
    (λ e. rw e (stands_right (join_below f n) (f n) H))
    (λ e. stands_joined f n k (omega arith) (stands_left (join_below f n) (f n) H))

-- what a writer leaves holds what it wrote
pub sets_holds : (d : List ℕ) (at : ℕ) (ds : List ℕ) → at + length ds ≤ length d → Stands (sets d at ds) at ds
sets_holds d at ds h = record { room = omega (arith, length-sets d at ds); each = each' }
  where
    front : length (take at d) ≡ at
    front = length-take-le at d (omega arith)

    each' : (i : ℕ) → i < length ds → get_or (sets d at ds) (at + i) 0 ≡ get_or ds i 0
    each' i l =
        ap (λ (x : List ℕ). get_or x (at + i) 0) (sets-eq ds d at h)
        ∙ get_or-append (take at d ++ ds) _ 0 (at + i) (omega (arith, length-append (take at d) ds, front))
        ∙ ap (λ (k : ℕ). get_or (take at d ++ ds) (k + i) 0) (sym front)
        ∙ get_or-append-add (take at d) ds i 0

-- and every other byte is as it was
pub sets_other : (d : List ℕ) (at : ℕ) (ds : List ℕ) (i : ℕ) → (i < at) ⊎ (at + length ds ≤ i) → get_or (sets d at ds) i 0 ≡ get_or d i 0
sets_other d at [] i o = refl
sets_other d at (x ∷ ds) i (inl l) = sets_other (set d at x) (suc at) ds i (inl (omega arith)) ∙ get_or-set_other d at i x 0 (λ e. omega arith)
sets_other d at (x ∷ ds) i (inr l) = sets_other (set d at x) (suc at) ds i (inr (omega arith)) ∙ get_or-set_other d at i x 0 (λ e. omega arith)

-- ---- the numbers of a line

pub numerals_more : (v : ℕ) (vs : List ℕ) → v < 1000 → ((i : ℕ) → i < length vs → get_or vs i 0 < 1000) → Numerals (v ∷ vs)
numerals_more v vs h t = record { some = omega arith; small = small' }
  where
    small' : (i : ℕ) → i < suc (length vs) → get_or (v ∷ vs) i 0 < 1000
    small' zero l = h
    small' (suc i) l = t i (omega arith)

pub one_number : (a : ℕ) → a < 1000 → Numerals (a ∷ [])
one_number a h = numerals_more a [] h (λ i l. absurd (omega arith))

pub two_numbers : (a b : ℕ) → a < 1000 → b < 1000 → Numerals (a ∷ b ∷ [])
two_numbers a b h k = numerals_more a (b ∷ []) h (one_number b k).small

pub three_numbers : (a b c : ℕ) → a < 1000 → b < 1000 → c < 1000 → Numerals (a ∷ b ∷ c ∷ [])
three_numbers a b c h k l = numerals_more a (b ∷ c ∷ []) h (two_numbers b c k l).small
