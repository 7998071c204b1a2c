-- Counts over the numbers below n.
use Rattle.std.specs.Prelude.{Bool, true, false, ℕ, zero, suc, ◌+◌}

-- one where the test passes
abbrev pub bit : Bool → ℕ
bit true = 1
bit false = 0

-- how many numbers below n pass the test p
unfoldable pub count : (ℕ → Bool) → ℕ → ℕ
count p zero = 0
count p (suc n) = bit (p n) + count p n
