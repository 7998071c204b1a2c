-- The first entry of a list that passes a test, by its number. Assumes nothing.
use Rattle.std.proofs.Common.{ℕ, zero, suc, ◌≤◌, ◌<◌, ◌≡◌, refl, ap, Bool, cond, eqb, ltb, List, length, get_or, take, get_or-take, length-take-le, Option, Some, None, MatchOption, IsSome, lt-ltb, le-ltb, arith}
use Rattle.std.specs.List.{position_or_len}
use Rattle.std.proofs.lemmas.List.Sums.{position_or_len_is}
use Rattle.counting.specs.Below.{lowest_below}
use Rattle.counting.proofs.Below.{Lowest, lowest}
use Rattle.counting.proofs.Below.Lowest.{found, none}

-- what a search for the lowest number below m that passes finds
abbrev pub Found : (ℕ → Bool) → ℕ → Option ℕ → Type 0
Found p m r = MatchOption r (lowest_below p m ≡ m) (λ k. (k < m) × (k ≡ lowest_below p m))

module _ (p : ℕ → Bool) (l : List ℕ) where
  abbrev passes : ℕ → Bool
  passes k = p (get_or l k 0)

  place : Lowest passes (length l) → position_or_len p l ≡ lowest_below passes (length l)
  place (found b t f) = position_or_len_is p l _ 0 (omega arith) f (λ _. t)
  place (none q f) = position_or_len_is p l _ 0 (omega arith) (λ k g. f k (omega arith)) (λ g. absurd (omega arith))

  pub placed : (r : Option ℕ) → r ≡ cond (ltb (position_or_len p l) (length l)) (Some (position_or_len p l)) None → Found passes (length l) r
  placed r e = go (lowest passes (length l))
    where
      go : Lowest passes (length l) → Found passes (length l) r
      go (found b t f) = rw (e, place (found b t f), lt-ltb _ (length l) b) (b, refl)
      go (none q f) = rw (e, place (none q f), le-ltb (lowest_below passes (length l)) (length l) (omega arith)) q

-- tests that agree below m have one lowest number
lowest_agree : (p q : ℕ → Bool) (m : ℕ) → ((k : ℕ) → k < m → p k ≡ q k) → lowest_below p m ≡ lowest_below q m
unfolding lowest_below
lowest_agree p q zero h = refl
lowest_agree p q (suc m) h = rw (lowest_agree p q m (λ k l. h k (omega arith)), h m (omega arith)) refl

-- a search among the first m ends for one that is there finds it
module _ (v m : ℕ) (ends : List ℕ) (h : m ≤ length ends) (r : Option ℕ) (e : Found (λ k. eqb (get_or (take m ends) k 0) v) (length (take m ends)) r) where
  abbrev at_vertex : ℕ → Bool
  at_vertex k = eqb (get_or ends k 0) v

  among : Found at_vertex m r
  among = rw (length-take-le m ends h, lowest_agree _ at_vertex m (λ k l. ap (λ (x : ℕ). eqb x v) (get_or-take m ends k 0 l))) at e

  pub is_found : lowest_below at_vertex m < m → IsSome r
  is_found b = go r among
    where
      go : (r : Option ℕ) → Found at_vertex m r → IsSome r
      go None q = absurd (omega arith)
      go (Some k) q = refl

  pub found_at : (k : ℕ) → r ≡ Some k → k ≡ lowest_below at_vertex m
  found_at k q = (rw q at among).1
