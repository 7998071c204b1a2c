-- What stands at a place after a dart left its ring, and after the last entry of an array got another's place. Assumes nothing.
use Rattle.std.proofs.Common.{ℕ, ◌≤◌, ◌<◌, ◌≡◌, sym, ◌∙◌, ap, ◌≢◌, List, arith, get_or, set, length, length-set, get_or-set_same, get_or-set_other}
use Rattle.std.proofs.Math.Logic.{by_cases}
use Rattle.std.proofs.Math.Decide.{ℕ_discrete}
use Rattle.std.proofs.Math.ListN.{length-map}
use Rattle.std.proofs.lemmas.List.{get_or-map}
use Rattle.surgery.specs.Renumber.{exchange}
use Rattle.surgery.proofs.Renumber.{exchange_first, exchange_other}
use Rattle.edit.specs.Changes.{renamed, replace_dart, remove_dart}
use Rattle.preservation.proofs.Places.{named_zero, replace_new, replace_at}

-- a dart that left its ring
module _ (d : ℕ) (xs : List ℕ) where
  pub remove_size : length (remove_dart d xs) ≡ length xs
  unfolding remove_dart
  remove_size = length-map xs (renamed d (get_or xs d 0))

  pub remove_at : (e : ℕ) → e < length xs → get_or (remove_dart d xs) e 0 ≡ renamed d (get_or xs d 0) (get_or xs e 0)
  unfolding remove_dart
  remove_at e h = get_or-map (renamed d (get_or xs d 0)) xs e 0 0 h

  pub remove_zero : (e : ℕ) → d ≢ 0 → get_or xs e 0 ≡ 0 → get_or (remove_dart d xs) e 0 ≡ 0
  unfolding remove_dart
  remove_zero e n q = named_zero d (get_or xs d 0) xs e n q

-- a dart in the place of another: every entry but the other's
pub replaced_at : (old new : ℕ) (xs : List ℕ) → old < length xs → new < length xs → (d : ℕ) → d ≢ old → d < length xs
    → get_or (replace_dart old new xs) d 0 ≡ renamed old new (get_or xs (exchange new old d) 0)
replaced_at old new xs h k d n l = by_cases (ℕ_discrete d new)
    (λ e. cc (replace_new old new xs h k, exchange_first new old))
    (λ e. replace_at old new xs d e l ∙ ap (λ x. renamed old new (get_or xs x 0)) (sym (exchange_other new old e n)))

-- the entry at l, the last, comes to k, and leaves a 0
module _ (xs : List ℕ) (k l : ℕ) (low : k ≤ l) (inside : l < length xs) where
  abbrev moved : List ℕ
  moved = set (set xs k (get_or xs l 0)) l 0

  pub moved_size : length moved ≡ length xs
  moved_size = length-set (set xs k (get_or xs l 0)) l 0 ∙ length-set xs k (get_or xs l 0)

  pub moved_at : (j : ℕ) → j < l → get_or moved j 0 ≡ get_or xs (exchange k l j) 0
  moved_at j h = get_or-set_other (set xs k (get_or xs l 0)) l j 0 0 (λ e. omega arith) ∙ by_cases (ℕ_discrete j k)
      (λ e. cc (get_or-set_same xs k (get_or xs l 0) 0 (omega arith), exchange_first k l))
      (λ e. get_or-set_other xs k j (get_or xs l 0) 0 e ∙ ap (λ x. get_or xs x 0) (sym (exchange_other k l e (λ q. omega arith))))

  pub moved_zero : (j : ℕ) → l ≤ j → (l < j → get_or xs j 0 ≡ 0) → get_or moved j 0 ≡ 0
  moved_zero j h z = by_cases (ℕ_discrete j l)
      (λ e. ap (λ x. get_or moved x 0) e ∙ get_or-set_same (set xs k (get_or xs l 0)) l 0 0 (omega (arith, length-set xs k (get_or xs l 0))))
      (λ e. get_or-set_other (set xs k (get_or xs l 0)) l j 0 0 e ∙ get_or-set_other xs k j (get_or xs l 0) 0 (λ q. omega arith) ∙ z (omega arith))
