-- Tests of a table from an entry on and of the ends of the edges, as tests of lists; and tables over the darts, entry by entry. Assumes nothing.
use Rattle.std.proofs.Common.{ℕ, suc, ◌+◌, ◌-◌, ◌<◌, ◌≡◌, refl, sym, ◌∙◌, List, arith, get_or, set, length, replicate, zero, [], ◌∷◌, ◌≤◌, take, drop, zip, take_all, length-drop, eqb, ltb, ◌&&◌, ◌||◌, not, ap, le-ltb, lt-ltb}
use Rattle.std.proofs.Math.Logic.{by_cases}
use Rattle.std.proofs.Math.Decide.{dec_lt}
use Rattle.std.specs.List.{list_all}
use Rattle.counting.specs.Below.{all_below, tabulate, table}
use Rattle.counting.proofs.Below.{all_front, all_agree, list_all_below}
use Rattle.counting.proofs.Tables.{table_at, table_more}
use Rattle.clauses.specs.Inner.{zero_at, joins_at, dart_table}

below_next : (k n : ℕ) → ltb (suc k) (suc n) ≡ ltb k n
below_next k n = by_cases (dec_lt k n) (λ h. rw (lt-ltb k n h, lt-ltb (suc k) (suc n) (omega arith)) refl) (λ h. rw (le-ltb k n (omega arith), le-ltb (suc k) (suc n) (omega arith)) refl)

-- the entries from `from` on, as a list
rest : (from : ℕ) (table : List ℕ) → list_all (λ e. eqb e 0) (drop from table) ≡ all_below (zero_at from table) (length table)
unfolding zero_at all_below
rest zero table = list_all_below (λ e. eqb e 0) table ∙ all_agree _ _ (length table) (λ k _. rw (le-ltb k 0 (omega arith)) refl)
rest (suc from) [] = refl
rest (suc from) (x ∷ l) =
    rest from l ∙ sym (all_front (zero_at (suc from) (x ∷ l)) (length l) ∙ rw (lt-ltb 0 (suc from) (omega arith)) (all_agree (λ k. zero_at (suc from) (x ∷ l) (suc k)) (zero_at from l) (length l) (λ k _. ap (λ b. b || eqb (get_or l k 0) 0) (below_next k from))))

-- the entries from `from` on, as a slice
pub zero_rest : (from : ℕ) (table : List ℕ) (n : ℕ) → length table ≡ n → list_all (λ e. eqb e 0) (take (n - from) (drop from table)) ≡ all_below (zero_at from table) n
zero_rest from table n l = rw (← l, take_all (length table - from) (drop from table) (omega (arith, length-drop from table))) (rest from table)

-- the ends of the first m edges, as pairs
pub joins_pairs : (n m : ℕ) (tails heads : List ℕ) → m ≤ length tails → m ≤ length heads
    → list_all (λ p. ltb p.0 n && ltb p.1 n && not (eqb p.0 p.1)) (zip (take m tails) (take m heads)) ≡ all_below (joins_at n tails heads) m
unfolding joins_at all_below
joins_pairs n zero tails heads t h = refl
joins_pairs n (suc m) [] heads t h = absurd (omega arith)
joins_pairs n (suc m) (a ∷ tails) [] t h = absurd (omega arith)
joins_pairs n (suc m) (a ∷ tails) (b ∷ heads) t h =
    rw (joins_pairs n m tails heads (omega arith) (omega arith)) (sym (all_front (joins_at n (a ∷ tails) (b ∷ heads)) m))

module _ (f : ℕ → ℕ) where
  pub dart_none : dart_table f 0 ≡ replicate 512 0
  unfolding dart_table tabulate
  dart_none = refl

  pub dart_more : (d : ℕ) → d < 512 → set (dart_table f d) d (f d) ≡ dart_table f (d + 1)
  unfolding dart_table table
  dart_more d h = table_more f 512 0 d h (dart_table f d) refl (f d) refl

  pub dart_at_law : (n d : ℕ) → d < n → get_or (dart_table f n) d 0 ≡ f d
  unfolding dart_table table
  dart_at_law n d h = table_at f 512 0 0 n d h
