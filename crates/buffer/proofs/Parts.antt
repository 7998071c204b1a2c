-- Texts put one after the other into a sink. Assumes nothing.
use Rattle.std.proofs.Common.{ℕ, ◌+◌, ◌≤◌, ◌<◌, ◌≡◌, List, ◌++◌, arith, length, length-append}
use Rattle.counting.specs.Below.{join_below}
use Rattle.counting.proofs.Joined.{join_more, join_room}

-- what a sink's law of joined texts gives
module _ {Self : Type 0} {puts : Self → List ℕ → Self → Type 0} (joined : (s t u : Self) (xs ys : List ℕ) → puts s xs t → puts t ys u → puts s (xs ++ ys) u) where
  -- of several texts one more
  pub joined_more : (f : ℕ → List ℕ) (k : ℕ) {s t u : Self} → puts s (join_below f k) t → puts t (f k) u → puts s (join_below f (k + 1)) u
  joined_more f k p q = rw (join_more f k) (joined _ _ _ _ _ p q)

  pub joined_four : {a b c d : List ℕ} {s t u v w : Self} → puts s a t → puts t b u → puts u c v → puts v d w → puts s (a ++ b ++ c ++ d) w
  joined_four p q r o = joined _ _ _ _ _ (joined _ _ _ _ _ (joined _ _ _ _ _ p q) r) o

pub four_size : (a b c d : List ℕ) → length (a ++ b ++ c ++ d) ≡ length a + length b + length c + length d
four_size a b c d = simp length-append

-- what its law of counted texts gives
module _ {Self : Type 0} {puts : Self → List ℕ → Self → Type 0} {used size : Self → ℕ}
    (counted : (s t : Self) (text : List ℕ) → puts s text t → (used t ≡ used s + length text) × (size t ≡ size s)) where
  -- of several texts the next fits
  pub room_more : (f : ℕ → List ℕ) (n k : ℕ) {s t : Self} → k < n → used s + length (join_below f n) ≤ size s → puts s (join_below f k) t → used t + length (f k) ≤ size t
  room_more f n k h room p = omega (arith, room, join_room f n k h, counted _ _ _ p)

  -- each of four fits
  module _ (a b c d : List ℕ) {s : Self} (room : used s + length (a ++ b ++ c ++ d) ≤ size s) where
    whole : used s + length a + length b + length c + length d ≤ size s
    whole = omega (arith, room, four_size a b c d)

    pub room_one : used s + length a ≤ size s
    room_one = omega (arith, whole)

    pub room_two : {t : Self} → puts s a t → used t + length b ≤ size t
    room_two p = omega (arith, whole, counted _ _ _ p)

    pub room_three : {t u : Self} → puts s a t → puts t b u → used u + length c ≤ size u
    room_three p q = omega (arith, whole, counted _ _ _ p, counted _ _ _ q)

    pub room_four : {t u v : Self} → puts s a t → puts t b u → puts u c v → used v + length d ≤ size v
    room_four p q r = omega (arith, whole, counted _ _ _ p, counted _ _ _ q, counted _ _ _ r)
