-- The output of an input of which no more was read than is looked at. Assumes nothing.
use Rattle.std.proofs.Common.{arith, ℕ, ◌+◌, ◌<◌, ◌≡◌, sym, ap, subst, ◌∙◌, List, [], ◌++◌, length, Option, None, Some, IfSome, append-nil, length-append, ltb-true, ltb-false, ltb}
use Rattle.std.specs.Io.KnownBytes.{Consumes, IsAtEnd}
use Rattle.counting.proofs.Iterate.{by_bool}

module _ (output : List ℕ → List ℕ) (too_long : (input other : List ℕ) → 16384 < length input → 16384 < length other → output input ≡ output other) where
  -- of an input that fills the buffer only so many bytes matter, and every other input was read to its end
  pub same_output : (known rest : Option (List ℕ)) (input : List ℕ) → Consumes known rest input → (length input < 16385 → IsAtEnd rest)
      → IfSome known (λ whole. output input ≡ output whole)
  same_output None rest input p e = tt
  same_output (Some xs) None input p e = absurd p
  same_output (Some xs) (Some ys) input p e = by_bool (ltb (length input) 16385)
      (λ t. let end : ys ≡ [] = e (ltb-true _ _ t) in ap output (sym (p ∙ ap (λ l. input ++ l) end ∙ append-nil input)))
      (λ t.
      let full : 16384 < length input = omega (arith, ltb-false (length input) 16385 t) in
      let longer : length xs ≡ length input + length ys = ap length p ∙ length-append input ys in
      too_long input xs full (omega arith))

-- what holds of that output holds of the whole input's
pub of_whole : (output : List ℕ → List ℕ) (known : Option (List ℕ)) (input : List ℕ) → IfSome known (λ whole. output input ≡ output whole)
    → (P : List ℕ → Type 0) → P (output input) → IfSome known (λ whole. P (output whole))
of_whole output None input e P p = tt
of_whole output (Some xs) input e P p = subst P e p
