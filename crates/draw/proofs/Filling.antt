-- An array of which each entry is the same. Assumes nothing.
use Rattle.std.proofs.Common.{ℕ, ◌≡◌, sym, ◌∙◌, List, arith, get_or, replicate, ext_get_or}
use Rattle.std.proofs.lemmas.List.{length-replicate, get_or-replicate}
use Rattle.std.specs.Array.{AllOfLen}

-- an array of which each entry is z
pub all_same : {A : Type 0} {P : A → Type 0} (z : A) → ((x : A) → P x → x ≡ z) → (xs : List A) (n : ℕ) → AllOfLen P xs n → xs ≡ replicate n z
all_same z same xs n a =
    ext_get_or z xs (replicate n z) (a.long ∙ sym (length-replicate n z))
    (λ i h. same (get_or xs i z) (a.at i z (omega (arith, a.long))) ∙ sym (get_or-replicate n i z z (omega (arith, a.long))))
