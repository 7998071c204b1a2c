-- The clauses of soundness over the record's arrays, as the functions behind the check compute them.
use Rattle.std.specs.Prelude.{ℕ, ◌-◌, ◌*◌, ◌/◌, Bool, cond, not, ◌&&◌, ◌||◌, List, ◌++◌, eqb, ltb, leb, get_or, replicate}
use Rattle.std.specs.Bool.{beq}
use Rattle.counting.specs.Below.{all_below, some_below, tabulate}
use Rattle.clauses.specs.Darts.{is_tail, opposite}

unfoldable pub limits_of : ℕ → ℕ → Bool
limits_of n m = leb 2 n && leb n 128 && leb 2 m && leb m 256

unfoldable pub joins_at : ℕ → List ℕ → List ℕ → ℕ → Bool
joins_at n tails heads k = ltb (get_or tails k 0) n && ltb (get_or heads k 0) n && not (eqb (get_or tails k 0) (get_or heads k 0))

unfoldable pub zero_at : ℕ → List ℕ → ℕ → Bool
zero_at from table k = ltb k from || eqb (get_or table k 0) 0

unfoldable pub unused_of : ℕ → List ℕ → List ℕ → List ℕ → Bool
unused_of m tails heads nexts = all_below (zero_at m tails) 256 && all_below (zero_at m heads) 256 && all_below (zero_at (2 * m) nexts) 512

-- a table over the darts below n, with 0 past them
unfoldable pub dart_table : (ℕ → ℕ) → ℕ → List ℕ
dart_table f n = tabulate f n ++ replicate (512 - n) 0

unfoldable pub vertex_of : List ℕ → List ℕ → ℕ → ℕ
vertex_of tails heads d = cond (is_tail d) (get_or tails (d / 2) 0) (get_or heads (d / 2) 0)

unfoldable pub walk_of : List ℕ → ℕ → ℕ
walk_of nexts d = get_or nexts (opposite d) 0

-- vertex v is one of the first m ends
unfoldable pub end_of : List ℕ → ℕ → ℕ → Bool
end_of ends m v = some_below (λ k. eqb (get_or ends k 0) v) m

unfoldable pub pole_at : ℕ → List ℕ → ℕ → ℕ → Bool
pole_at m ends pole v = beq (end_of ends m v) (not (eqb v pole))

unfoldable pub poles_of : ℕ → ℕ → List ℕ → List ℕ → Bool
poles_of n m tails heads = all_below (pole_at m heads 0) n && all_below (pole_at m tails 1) n

unfoldable pub rooted_of : List ℕ → List ℕ → Bool
rooted_of tails heads = eqb (get_or tails 0 0) 0 && eqb (get_or heads 0 0) 1
