-- Tests of the first entries of a list, as tests of numbers. Assumes nothing.
use Rattle.std.proofs.Common.{ℕ, zero, suc, ◌≡◌, refl, sym, ap, ◌∙◌, zero-add, Bool, List, [], ◌∷◌, arith, get_or, length, take}
use Rattle.std.specs.List.{list_all, range_with_len}
use Rattle.std.proofs.lemmas.List.FromFn.{length-range_with_len, get_or-range_with_len}
use Rattle.counting.specs.Below.{all_below}
use Rattle.counting.proofs.Below.{all_agree, all_front, list_all_below}

pub all_entries : {A : Type 0} (z : A) (p : A → Bool) (n : ℕ) (l : List A) → length (take n l) ≡ n → list_all p (take n l) ≡ all_below (λ k. p (get_or l k z)) n
unfolding all_below
all_entries z p zero l h = refl
all_entries z p (suc n) [] h = absurd (omega arith)
all_entries z p (suc n) (x ∷ l) h = rw (all_entries z p n l (omega arith)) (sym (all_front (λ k. p (get_or (x ∷ l) k z)) n))

-- a test of the numbers of a range
pub all_range : (p : ℕ → Bool) (n : ℕ) → list_all p (range_with_len 0 n) ≡ all_below p n
all_range p n =
    list_all_below p (range_with_len 0 n)
    ∙ rw (length-range_with_len 0 n) (all_agree (λ k. p (get_or (range_with_len 0 n) k 0)) p n (λ k h. ap p (get_or-range_with_len 0 n k 0 h ∙ zero-add k)))
