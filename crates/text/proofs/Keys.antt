-- A key at a place, as the library compares it. Assumes nothing.
use Rattle.std.proofs.Common.{◌≡◌, ℕ, ◌&&◌, eqb, List, [], ◌∷◌, length, take, nat_eq, sym, refl, ne_eqb}
use lib.Pointwise.{pointwise}
use Rattle.std.proofs.Math.Decide.{ℕ_discrete}
use Rattle.std.proofs.lemmas.List.{take_rest, drop_min}
use Rattle.text.specs.Reading.{starts_with}

pub begins : (ks t : List ℕ) → pointwise nat_eq ks (take (length ks) t) ≡ starts_with ks t
unfolding starts_with
begins [] t = refl
begins (k ∷ ks) [] = refl
begins (k ∷ ks) (b ∷ t) = go (ℕ_discrete b k) (begins ks t)
  where
    go : Dec (b ≡ k) → pointwise nat_eq ks (take (length ks) t) ≡ starts_with ks t → (nat_eq k b && pointwise nat_eq ks (take (length ks) t)) ≡ (eqb b k && starts_with ks t)
    go (yes e) h = rw (e, h) refl
    go (no n) h = rw (ne_eqb b k n, ne_eqb k b (λ e. n (sym e))) refl

pub ruleset keys = (begins, take_rest, drop_min)
