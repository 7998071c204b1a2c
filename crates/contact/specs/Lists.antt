-- Lists of items by a key: for each key the first item of it, and after each item the next.
use Rattle.std.specs.Prelude.{ℕ, ◌≤◌, ◌<◌, ◌≡◌, List, get_or, length}

-- the items from `low` on stand on the lists of their keys, which run upwards; a number past the items ends a list
pub record Linked (low items : ℕ) (key : ℕ → ℕ) (first after : List ℕ) : Type 0 where
  pub size_first : length first ≡ 1024
  pub size_after : length after ≡ 256
  pub first_from : (r : ℕ) → r < 1024 → low ≤ get_or first r 0
  pub first_least : (j : ℕ) → low ≤ j → j < items → get_or first (key j) 0 ≤ j
  pub first_key : (r : ℕ) → r < 1024 → get_or first r 0 < items → key (get_or first r 0) ≡ r
  pub rising : (k : ℕ) → low ≤ k → k < items → k < get_or after k 0
  pub next_least : (k j : ℕ) → low ≤ k → k < j → j < items → key j ≡ key k → get_or after k 0 ≤ j
  pub next_key : (k : ℕ) → low ≤ k → k < items → get_or after k 0 < items → key (get_or after k 0) ≡ key k

-- item j has a key below r, or the key r and a number below k
pub record Before (items : ℕ) (key : ℕ → ℕ) (r k j : ℕ) : Type 0 where
  pub inside : j < items
  pub key_most : key j ≤ r
  pub earlier : key j ≡ r → j < k
