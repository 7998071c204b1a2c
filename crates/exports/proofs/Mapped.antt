-- A list that is filled, element by element, with what a map makes of another. Assumes nothing.
use Rattle.std.proofs.Common.{◌≡◌, ℕ, ◌+◌, ◌≤◌, ◌<◌, sym, ap, ◌∙◌, length, length-set, List, ext_get_or, get_or, get_or-set_same, get_or-set_other, set, map, arith}
use Rattle.std.proofs.Math.Decide.{ℕ_discrete}
use Rattle.std.proofs.lemmas.List.{get_or-map, length-map, get_or_default}

module _ {A B : Type 0} (h : A → B) (d : A) (xs : List A) where
  -- ys is as long as xs, and its first n elements are the map's
  pub record Mapped (n : ℕ) (ys : List B) : Type 0 where
    pub long : length ys ≡ length xs
    pub at : (i : ℕ) → i < n → get_or ys i (h d) ≡ h (get_or xs i d)

  pub mapped_none : (ys : List B) → length ys ≡ length xs → Mapped 0 ys
  mapped_none ys e = record { long = e; at = λ i k. absurd (omega arith) }

  -- one more
  pub mapped_more : (n : ℕ) (ys : List B) → n < length xs → Mapped n ys → (y : B) (c : A) → y ≡ h (get_or xs n c) → Mapped (n + 1) (set ys n y)
  mapped_more n ys k M y c e = record {
    long = length-set ys n y ∙ M.long;
    at = λ i l. elim (ℕ_discrete i n) [
      | yes q ↦ rw q (get_or-set_same ys n y (h d) (omega (arith, M.long)) ∙ e ∙ ap h (get_or_default xs n c d k))
      | no q ↦ get_or-set_other ys n i y (h d) q ∙ M.at i (omega arith)
    ];
  }

  -- all
  pub mapped_all : (n : ℕ) (ys : List B) → length xs ≤ n → Mapped n ys → ys ≡ map h xs
  mapped_all n ys k M =
      ext_get_or (h d) ys (map h xs) (M.long ∙ sym (length-map xs h))
      (λ i l. let j : i < length xs = omega (arith, M.long) in M.at i (omega arith) ∙ sym (get_or-map h xs i d (h d) j))
