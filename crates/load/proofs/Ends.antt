-- How many edges have an end at each vertex, counted edge by edge. Assumes nothing.
use Rattle.std.proofs.Common.{◌≡◌, ℕ, ◌+◌, ◌<◌, ◌≤◌, ◌≢◌, List, length, get_or, set, sym, refl, ap, ◌∙◌, add-one, arith, length-set, get_or-set_other, get_or-set_same}
use Rattle.std.proofs.Math.Logic.{by_cases}
use Rattle.std.proofs.Math.Decide.{ℕ_discrete}
use Rattle.clauses.specs.Darts.{touches_of}
use Rattle.clauses.proofs.Touching.{touches_tail, touches_head, touches_not}
use Rattle.counting.specs.Counts.{bit, count}
use Rattle.counting.proofs.Counts.{count_agree, count_le}
use Rattle.load.specs.Inner.{Counted, one_more}

pub counted_none : (tails heads degrees : List ℕ) → ((v : ℕ) → get_or degrees v 0 ≡ 0) → Counted 0 tails heads degrees
unfolding count
counted_none tails heads degrees z v h = z v

pub counted_most : (k : ℕ) (tails heads degrees : List ℕ) → Counted k tails heads degrees → (v : ℕ) → v < 128 → get_or degrees v 0 ≤ k
counted_most k tails heads degrees c v h = omega (arith, c v h, count_le (λ i. touches_of tails heads i v) k)

pub more_length : (v : ℕ) (degrees : List ℕ) → length (one_more v degrees) ≡ length degrees
unfolding one_more
more_length v degrees = length-set degrees v (get_or degrees v 0 + 1)

more_same : (v : ℕ) (degrees : List ℕ) → v < length degrees → get_or (one_more v degrees) v 0 ≡ get_or degrees v 0 + 1
unfolding one_more
more_same v degrees h = get_or-set_same degrees v (get_or degrees v 0 + 1) 0 h

pub more_other : (v w : ℕ) (degrees : List ℕ) → w ≢ v → get_or (one_more v degrees) w 0 ≡ get_or degrees w 0
unfolding one_more
more_other v w degrees n = get_or-set_other degrees v w (get_or degrees v 0 + 1) 0 n

-- edge k, from a to b, is written behind the k that are counted
module _ (k a b : ℕ) (tails heads degrees : List ℕ) (ht : k < length tails) (hh : k < length heads) (ha : a < 128) (hb : b < 128) (apart : a ≢ b)
    (size : length degrees ≡ 128) (old : Counted k tails heads degrees) where
  kept : (v i : ℕ) → i < k → touches_of (set tails k a) (set heads k b) i v ≡ touches_of tails heads i v
  unfolding touches_of
  kept v i l = rw (get_or-set_other tails k i a 0 (λ e. omega arith), get_or-set_other heads k i b 0 (λ e. omega arith)) refl

  count_more : (v : ℕ) → v < 128 → count (λ i. touches_of (set tails k a) (set heads k b) i v) (k + 1) ≡ bit (touches_of (set tails k a) (set heads k b) k v) + get_or degrees v 0
  unfolding count
  count_more v h = rw (add-one k, old v h, count_agree (λ i. touches_of (set tails k a) (set heads k b) i v) (λ i. touches_of tails heads i v) k (kept v)) refl

  tail_is : get_or (set tails k a) k 0 ≡ a
  tail_is = get_or-set_same tails k a 0 ht

  head_is : get_or (set heads k b) k 0 ≡ b
  head_is = get_or-set_same heads k b 0 hh

  pub counted_more : Counted (k + 1) (set tails k a) (set heads k b) (one_more b (one_more a degrees))
  counted_more v h =
      by_cases (ℕ_discrete v b)
      (λ e. rw e (omega (arith, more_same b (one_more a degrees) (omega (arith, more_length a degrees)), more_other a b degrees (λ q. apart (sym q)), count_more b hb, ap bit (touches_head (set tails k a) (set heads k b) k b head_is))))
      (λ nb.
      by_cases (ℕ_discrete v a)
      (λ e. rw e (omega (arith, more_other b a (one_more a degrees) apart, more_same a degrees (omega arith), count_more a ha, ap bit (touches_tail (set tails k a) (set heads k b) k a tail_is))))
      (λ na. omega (arith, more_other b v (one_more a degrees) nb, more_other a v degrees na, count_more v h, ap bit (touches_not (set tails k a) (set heads k b) k v (λ q. na (sym q ∙ tail_is)) (λ q. nb (sym q ∙ head_is))))))
