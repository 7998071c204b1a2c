-- A ring of darts as a list, and an ordered list of darts taken apart into its upward and its downward part. Assumes nothing.
use Rattle.std.proofs.Common.{◌≡◌, refl, sym, ◌∙◌, ap, subst, inl, inr, Bool, true, false, List, [], ◌∷◌, ◌++◌, ℕ, zero, suc, ◌<◌, arith}
use mathlib.Core.List.Memᴰ
use mathlib.Core.List.{Memᴰ}
use Rattle.counting.specs.Orbits.{iter}
use Rattle.counting.proofs.Iterate.{by_bool, clash, iter_shift}
use Rattle.clauses.specs.declared.Sheet.{Sheet}
use Rattle.clauses.specs.Darts.{is_tail}
use Rattle.sheet.specs.Darts.{next}
use Rattle.drawing.specs.Clear.{Rising, Falling, Cycle}
use Rattle.drawing.specs.Clear.Rising.{none as rising_none, one as rising_one, more as rising_more}
use Rattle.drawing.specs.Clear.Falling.{none as falling_none, one as falling_one, more as falling_more}
use Rattle.drawing.specs.Clear.Cycle.{last, then}

-- ---- order

-- d stands before e
pub data Step (value : ℕ → ℕ) (d e : ℕ) : Type 0 where
  rising : is_tail d ≡ true → is_tail e ≡ true → value d < value e → Step value d e
  turning : is_tail d ≡ true → is_tail e ≡ false → Step value d e
  falling : is_tail d ≡ false → is_tail e ≡ false → value e < value d → Step value d e

-- each stands before the next one
pub data Ordered (value : ℕ → ℕ) : List ℕ → Type 0 where
  single : {d : ℕ} → Ordered value (d ∷ [])
  before : {d e : ℕ} {ds : List ℕ} → Step value d e → Ordered value (e ∷ ds) → Ordered value (d ∷ e ∷ ds)

-- all in the list are of one kind
abbrev All : Bool → List ℕ → Type 0
All b l = (x : ℕ) → Memᴰ x l → is_tail x ≡ b

none_of : (b : Bool) → All b []
none_of b x m = absurd (Memᴰ.not-nil m)

with_one_law : {b : Bool} {d : ℕ} {l : List ℕ} → is_tail d ≡ b → All b l → All b (d ∷ l)
with_one_law t a x m = elim (Memᴰ.cases_cons m) [ inl e ↦ ap is_tail e ∙ t | inr r ↦ a x r ]

-- a list taken apart
pub record Parts (value : ℕ → ℕ) (l : List ℕ) : Type 0 where
  pub up : List ℕ
  pub down : List ℕ
  pub whole : l ≡ up ++ down
  pub ups : Rising value up
  pub downs : Falling value down
  pub all_up : (x : ℕ) → Memᴰ x up → is_tail x ≡ true
  pub all_down : (x : ℕ) → Memᴰ x down → is_tail x ≡ false

module _ {value : ℕ → ℕ} where
  -- from a downward dart on, all are downward
  falls : {d : ℕ} {ds : List ℕ} → Ordered value (d ∷ ds) → is_tail d ≡ false → Falling value (d ∷ ds) × All false (d ∷ ds)
  falls single t = (falling_one, with_one_law t (none_of false))
  falls (before (rising a b l) o) t = clash a t
  falls (before (turning a b) o) t = clash a t
  falls (before (falling a b l) o) t = let (f, g) = falls o b in (falling_more l f, with_one_law t g)

  -- before an upward dart, nothing is downward
  rises : {d : ℕ} {ds : List ℕ} → Ordered value (d ∷ ds) → is_tail d ≡ true → (us : List ℕ) × (P : Parts value (d ∷ ds)) × (P.up ≡ d ∷ us)
  rises {d} {ds} single t = (
    [],
    record {
      up = d ∷ [];
      down = [];
      whole = refl;
      ups = rising_one;
      downs = falling_none;
      all_up = with_one_law t (none_of true);
      all_down = none_of false;
    },
    refl,
  )
  rises {d} {ds} (before (rising a b l) o) t =
      let (us, P, q) = rises o b in (
        P.up,
        record {
          up = d ∷ P.up;
          down = P.down;
          whole = ap (λ z. d ∷ z) P.whole;
          ups = rw q (rising_more l (rw q at P.ups));
          downs = P.downs;
          all_up = with_one_law t P.all_up;
          all_down = P.all_down;
        },
        refl,
      )
  rises {d} {ds} (before (turning a b) o) t =
      let (f, g) = falls o b in (
        [],
        record {
          up = d ∷ [];
          down = ds;
          whole = refl;
          ups = rising_one;
          downs = f;
          all_up = with_one_law t (none_of true);
          all_down = g;
        },
        refl,
      )
  rises (before (falling a b l) o) t = clash t a

  pub parts : {d : ℕ} {ds : List ℕ} → Ordered value (d ∷ ds) → Parts value (d ∷ ds)
  parts {d} {ds} o = by_bool (is_tail d) (λ t. (rises o t).1)
      (λ t.
      let (f, g) = falls o t in
      record { up = []; down = d ∷ ds; whole = refl; ups = rising_none; downs = f; all_up = none_of true; all_down = g })

-- ---- rings

module _ (s : Sheet) where
  -- n darts from d on
  unfoldable pub list_from : ℕ → ℕ → List ℕ
  list_from zero d = []
  list_from (suc n) d = d ∷ list_from n (next s d)

  pub list_ordered : (value : ℕ → ℕ) (n d : ℕ) → ((i : ℕ) → i < n → Step value (iter (next s) i d) (iter (next s) (suc i) d)) → Ordered value (list_from (suc n) d)
  unfolding list_from
  list_ordered value zero d f = single
  list_ordered value (suc n) d f =
      before (f 0 (omega arith)) (list_ordered value n (next s d) (λ i h. rw (iter_shift (next s) i d) (f (suc i) (omega arith))))

  pub list_cycle : (n d first : ℕ) → iter (next s) (suc n) d ≡ first → Cycle s first (list_from (suc n) d)
  unfolding list_from
  list_cycle zero d first e = last e
  list_cycle (suc n) d first e = then refl (list_cycle n (next s d) first (ap (next s) (iter_shift (next s) n d) ∙ e))

  pub list_has : (n d i : ℕ) → i < n → Memᴰ (iter (next s) i d) (list_from n d)
  unfolding list_from
  list_has zero d i h = absurd (omega arith)
  list_has (suc n) d zero h = Memᴰ.head refl
  list_has (suc n) d (suc i) h = Memᴰ.tail (Memᴰ.cast (sym (iter_shift (next s) i d)) (list_has n (next s d) i (omega arith)))

  pub list_all : (Good : ℕ → Type 0) → ((x : ℕ) → Good x → Good (next s x)) → (n d : ℕ) → Good d → (x : ℕ) → Memᴰ x (list_from n d) → Good x
  unfolding list_from
  list_all Good keep zero d g x m = absurd (Memᴰ.not-nil m)
  list_all Good keep (suc n) d g x m = elim (Memᴰ.cases_cons m) [
    | inl e ↦ subst Good (sym e) g
    | inr r ↦ list_all Good keep n (next s d) (keep d g) x r
  ]
