-- Texts one after the other, and how long they are. Assumes nothing.
use Rattle.std.proofs.Common.{ℕ, zero, suc, ◌+◌, ◌*◌, ◌≤◌, ◌<◌, ◌≡◌, refl, sym, ap, ◌∙◌, List, [], ◌++◌, append_assoc, append-nil, suc-mul, add-one, arith, length, length-append}
use Rattle.std.proofs.Math.Logic.{by_cases}
use Rattle.std.proofs.Math.Decide.{dec_lt}
use Rattle.counting.specs.Below.{join_below}

module _ (f : ℕ → List ℕ) where
  pub join_more : (k : ℕ) → join_below f (k + 1) ≡ join_below f k ++ f k
  unfolding join_below
  join_more k = rw (add-one k) refl

  pub join_size : (k : ℕ) → length (join_below f (k + 1)) ≡ length (join_below f k) + length (f k)
  join_size k = ap length (join_more k) ∙ length-append (join_below f k) (f k)

  join_le : (n k : ℕ) → k ≤ n → length (join_below f k) ≤ length (join_below f n)
  unfolding join_below
  join_le zero k h = let z : k ≡ 0 = omega arith in rw z (omega arith)
  join_le (suc n) k h =
      by_cases (dec_lt n k) (λ g. let z : k ≡ suc n = omega arith in rw z (omega arith))
      (λ g. omega (arith, join_le n k (omega arith), length-append (join_below f n) (f n)))

  pub join_room : (n k : ℕ) → k < n → length (join_below f k) + length (f k) ≤ length (join_below f n)
  join_room n k h = omega (arith, join_size k, join_le n (k + 1) (omega arith))

  -- texts of at most b bytes
  pub join_short : (b n : ℕ) → ((k : ℕ) → k < n → length (f k) ≤ b) → length (join_below f n) ≤ n * b
  unfolding join_below
  join_short b zero h = omega arith
  join_short b (suc n) h = omega (arith, join_short b n (λ k l. h k (omega arith)), h n (omega arith), length-append (join_below f n) (f n), suc-mul n b)

-- texts one after the other begin with the first
pub join_first : (f : ℕ → List ℕ) (n : ℕ) → 0 < n → (rest : List ℕ) × (join_below f n ≡ f 0 ++ rest)
unfolding join_below
join_first f zero h = absurd (omega arith)
join_first f (suc zero) h = ([], sym (append-nil (f 0)))
join_first f (suc (suc n)) h = let (rest, e) = join_first f (suc n) (omega arith) in (rest ++ f (suc n), ap (λ l. l ++ f (suc n)) e ∙ append_assoc (f 0) rest (f (suc n)))

-- texts that agree
pub join_agree : (f g : ℕ → List ℕ) (n : ℕ) → ((k : ℕ) → k < n → f k ≡ g k) → join_below f n ≡ join_below g n
unfolding join_below
join_agree f g zero h = refl
join_agree f g (suc n) h = rw (join_agree f g n (λ k l. h k (omega arith)), h n (omega arith)) refl
