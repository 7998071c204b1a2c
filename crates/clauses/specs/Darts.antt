-- The darts of an edge by number. (Document 01's wire is an edge, its end a dart.)
use Rattle.std.specs.Prelude.{ℕ, ◌+◌, ◌-◌, ◌*◌, ◌%◌, ◌≡◌, Bool, cond, ◌||◌, List, eqb, get_or}

-- wire k has two ends: end 2k at its tail, end 2k + 1 at its head
abbrev pub tail_dart : ℕ → ℕ
tail_dart k = 2 * k

abbrev pub head_dart : ℕ → ℕ
head_dart k = 2 * k + 1

-- whether an end is its wire's tail end
abbrev pub is_tail : ℕ → Bool
is_tail d = eqb (d % 2) 0

-- the other end of the same wire
unfoldable pub opposite : ℕ → ℕ
opposite d = cond (is_tail d) (d + 1) (d - 1)

-- over lists of tails and heads: d is an end of wire k at bar v
pub data End (tails heads : List ℕ) (k v d : ℕ) : Type 0 where
  at_tail : get_or tails k 0 ≡ v → d ≡ tail_dart k → End tails heads k v d
  at_head : get_or heads k 0 ≡ v → d ≡ head_dart k → End tails heads k v d

-- wire k has an end at bar v
abbrev pub HasEnd : List ℕ → List ℕ → ℕ → ℕ → Type 0
HasEnd tails heads k v = (d : ℕ) × End tails heads k v d

-- the test of it
unfoldable pub touches_of : List ℕ → List ℕ → ℕ → ℕ → Bool
touches_of tails heads k v = eqb (get_or tails k 0) v || eqb (get_or heads k 0) v

-- that end
unfoldable pub dart_of : List ℕ → ℕ → ℕ → ℕ
dart_of tails k v = cond (eqb (get_or tails k 0) v) (tail_dart k) (head_dart k)
