-- The counts of the edges that wait, and the queue of the nodes for which none waits. Assumes nothing.
use Rattle.std.proofs.Common.{◌≡◌, refl, sym, ap, ◌∙◌, ◌≢◌, Bool, true, false, not, ◌&&◌, List, ℕ, suc, ◌+◌, ◌-◌, ◌≤◌, ◌<◌, arith, add-one, eqb, get_or, set, length, length-set, replicate, get_or-set_same, get_or-set_other, eqb-true, eq-eqb, ne_eqb, below_more}
use Rattle.std.proofs.Math.Logic.{by_cases}
use Rattle.std.proofs.Math.Decide.{ℕ_discrete}
use mir.Val.{bool_byte}
use Rattle.counting.specs.Counts.{bit, count}
use Rattle.counting.proofs.Counts.{without, without_same, without_other, count_agree, count_without, count_le, count_less, count_absent, all, count_all, onto_injective, tally_more}
use Rattle.counting.proofs.Stores.{Stored, stored}
use Rattle.counting.proofs.Stores.Stored.{here as same, apart as other}
use Rattle.digraph.specs.Digraph.{flat}
use Rattle.digraph.specs.Inner.{into, Waiting, ready, Queued}
use Rattle.digraph.proofs.Relaxation.{flat_size, flat_at}

-- a test as a number
pub byte_bit : (b : Bool) → bool_byte b ≡ bit b
byte_bit true = refl
byte_bit false = refl

pub byte_small : (b : Bool) → bool_byte b ≤ 1
byte_small true = omega arith
byte_small false = omega arith

-- ---- the counts

-- an edge that waits, passed: one edge less waits for its end
module _ (edges : ℕ) (to : List ℕ) (waits : ℕ → Bool) (k : ℕ) where
  into_without : (x : ℕ) → count (into (without waits k) to x) edges ≡ count (without (into waits to x) k) edges
  unfolding without
  into_without x = count_agree _ _ edges (λ j _. assoc (not (eqb j k)) (waits j) (eqb (get_or to j 0) x))
    where
      assoc : (a b c : Bool) → ((a && b) && c) ≡ (a && (b && c))
      assoc true b c = refl
      assoc false b c = refl

  module _ (h : k < edges) (t : waits k ≡ true) where
    into_end : (x : ℕ) → x ≡ get_or to k 0 → count (into waits to x) edges ≡ suc (count (into (without waits k) to x) edges)
    into_end x e = rw (into_without x) (count_without (into waits to x) edges k h (rw t (eq-eqb _ _ (sym e))))

    into_other : (x : ℕ) → x ≢ get_or to k 0 → count (into (without waits k) to x) edges ≡ count (into waits to x) edges
    into_other x n = into_without x ∙ count_absent (into waits to x) edges k (rw t (ne_eqb _ _ (λ e. n (sym e))))

    module _ {waiting : List ℕ} (A : Waiting edges to waits waiting) (w : ℕ) (e : w ≡ get_or to k 0) (b : w < 256) where
      pub some : 0 < get_or waiting w 0
      some = omega (arith, A.counts w b, into_end w e)

      pub waiting_less : Waiting edges to (without waits k) (set waiting w (get_or waiting w 0 - 1))
      waiting_less = record { size = length-set waiting w _ ∙ A.size; counts = λ x l. go x l (stored waiting w _ x 0 (omega (arith, A.size))) }
        where
          go : (x : ℕ) → x < 256 → Stored waiting w (get_or waiting w 0 - 1) x 0 → get_or (set waiting w (get_or waiting w 0 - 1)) x 0 ≡ count (into (without waits k) to x) edges
          go x l (same p q) = rw p (omega (arith, rw p at q, A.counts w b, into_end w e))
          go x l (other n q) = q ∙ A.counts x l ∙ sym (into_other x (λ p. n (p ∙ sym e)))

-- the edges counted one by one
pub waiting_none : (to : List ℕ) → Waiting 0 to (λ j. true) (replicate 256 0)
unfolding flat count
waiting_none to = record { size = flat_size; counts = λ w _. flat_at w }

pub waiting_more : {k : ℕ} {to waiting : List ℕ} → Waiting k to (λ j. true) waiting → (w : ℕ) → w ≡ get_or to k 0 → w < 256 → Waiting (k + 1) to (λ j. true) (set waiting w (get_or waiting w 0 + 1))
waiting_more {k} {to} {waiting} A w e b = record { size = length-set waiting w _ ∙ A.size; counts = λ x l. tally_more k to waiting w e (omega (arith, A.size)) x (A.counts x l) }

-- ---- the queue

-- the nodes in front of one that is stored
pub earlier : (queue : List ℕ) (tail x i : ℕ) → i < tail → get_or (set queue tail x) i 0 ≡ get_or queue i 0
earlier queue tail x i l = get_or-set_other queue tail i x 0 (omega arith)

module _ {n : ℕ} {waiting queue : List ℕ} {tail : ℕ} (Q : Queued n waiting queue tail) where
  pub tail_in : tail ≤ n
  tail_in = omega (arith, count_le (ready waiting) n, Q.many)

  -- no node is in the queue twice
  pub once : (i j : ℕ) → i < tail → j < tail → get_or queue i 0 ≡ get_or queue j 0 → i ≡ j
  once i j h l e =
      onto_injective (λ x. get_or queue x 0) all tail (ready waiting) n
      (λ w b t. let (x, l, q) = Q.all w b (eqb-true _ _ t) in (x, l, refl, q))
      (omega (arith, count_all tail, Q.many)) i j h refl l refl e

  -- a node x more, for which none waits now
  module _ (n' : ℕ) (waiting' : List ℕ) (x : ℕ) (room : tail < 256) where
    last : get_or (set queue tail x) tail 0 ≡ x
    last = get_or-set_same queue tail x 0 (omega (arith, Q.size))

    grown : n ≤ n' → x < n' → get_or waiting' x 0 ≡ 0
        → ((i : ℕ) → i < tail → get_or waiting' (get_or queue i 0) 0 ≡ 0)
        → ((w : ℕ) → w < n' → get_or waiting' w 0 ≡ 0 → w ≢ x → (w < n) × (get_or waiting w 0 ≡ 0))
        → count (ready waiting') n' ≡ tail + 1
        → Queued n' waiting' (set queue tail x) (tail + 1)
    grown up in_x now kept old many = record {
      size = length-set queue tail x ∙ Q.size;
      node = below_more _ _ (λ i l. rw (earlier queue tail x i l) (omega (arith, Q.node i l))) (rw last in_x);
      none = below_more _ _ (λ i l. rw (earlier queue tail x i l) (kept i l)) (rw last now);
      all = λ w b z. by_cases (ℕ_discrete w x)
          (λ e. (tail, omega arith, last ∙ sym e))
          (λ e. let (b', z') = old w b z e in let (i, l, q) = Q.all w b' z' in (i, omega arith, earlier queue tail x i l ∙ q));
      many = many;
    }

-- what is stored past its end changes nothing
pub queue_past : {n : ℕ} {waiting queue : List ℕ} {tail : ℕ} → Queued n waiting queue tail → (x : ℕ) → Queued n waiting (set queue tail x) tail
queue_past {queue} {tail} Q x = record {
  size = length-set queue tail x ∙ Q.size;
  node = λ i l. rw (earlier queue tail x i l) (Q.node i l);
  none = λ i l. rw (earlier queue tail x i l) (Q.none i l);
  all = λ w b z. let (i, l, q) = Q.all w b z in (i, l, earlier queue tail x i l ∙ q);
  many = Q.many;
}

-- an end that moves on by a test
moved : {n : ℕ} {waiting queue : List ℕ} {tail : ℕ} (x y : ℕ) → (y ≢ 0 → Queued n waiting queue tail) → (y ≡ 0 → Queued n waiting (set queue tail x) (tail + 1))
    → (t : ℕ) → t ≡ bit (eqb y 0) → Queued n waiting (set queue tail x) (tail + t)
moved {tail} x y still push t e = by_cases (ℕ_discrete y 0)
    (λ z. let q : t ≡ 1 = e ∙ ap bit (eq-eqb y 0 z) in rw q (push z))
    (λ z. let q : tail + t ≡ tail = omega (arith, e ∙ ap bit (ne_eqb y 0 z)) in rw q (queue_past (still z) x))

pub queue_none : (waiting : List ℕ) {queue : List ℕ} → length queue ≡ 256 → Queued 0 waiting queue 0
unfolding count
queue_none waiting s = record { size = s; node = λ i l. absurd (omega arith); none = λ i l. absurd (omega arith); all = λ w l. absurd (omega arith); many = refl }

-- the nodes one by one
module _ {v : ℕ} {waiting queue : List ℕ} {tail : ℕ} (Q : Queued v waiting queue tail) where
  queue_skip : get_or waiting v 0 ≢ 0 → Queued (v + 1) waiting queue tail
  unfolding count
  queue_skip n = record {
    size = Q.size;
    node = λ i l. omega (arith, Q.node i l);
    none = Q.none;
    all = λ w b z. Q.all w (by_cases (ℕ_discrete w v) (λ e. absurd (n (ap (λ x. get_or waiting x 0) (sym e) ∙ z))) (λ e. omega arith)) z;
    many = rw (add-one v) (omega (arith, ap bit (ne_eqb (get_or waiting v 0) 0 n), Q.many));
  }

  queue_more : get_or waiting v 0 ≡ 0 → v < 256 → Queued (v + 1) waiting (set queue tail v) (tail + 1)
  unfolding count
  queue_more z h =
      grown Q (v + 1) waiting v (omega (arith, tail_in Q)) (omega arith) (omega arith) z Q.none (λ w b y n. (omega arith, y))
      (rw (add-one v) (omega (arith, ap bit (eq-eqb (get_or waiting v 0) 0 z), Q.many)))

  pub queue_next : v < 256 → (t : ℕ) → t ≡ bit (eqb (get_or waiting v 0) 0) → Queued (v + 1) waiting (set queue tail v) (tail + t)
  queue_next h = moved v (get_or waiting v 0) queue_skip (λ z. queue_more z h)

-- one edge less waits for w
module _ {n : ℕ} {waiting queue : List ℕ} {tail : ℕ} (Q : Queued n waiting queue tail) (few : n ≤ 256) (size : length waiting ≡ 256)
    (w : ℕ) (in_w : w < n) (some : 0 < get_or waiting w 0) where
  abbrev less : List ℕ
  less = set waiting w (get_or waiting w 0 - 1)

  now_w : get_or less w 0 ≡ get_or waiting w 0 - 1
  now_w = get_or-set_same waiting w _ 0 (omega arith)

  off_w : (x : ℕ) → x ≢ w → get_or less x 0 ≡ get_or waiting x 0
  off_w x e = get_or-set_other waiting w x _ 0 e

  -- the node for which an edge waits is not in the queue
  kept : (i : ℕ) → i < tail → get_or less (get_or queue i 0) 0 ≡ 0
  kept i l = off_w (get_or queue i 0) (λ e. omega (arith, Q.none i l, ap (λ x. get_or waiting x 0) e)) ∙ Q.none i l

  unready : ready waiting w ≡ false
  unready = ne_eqb (get_or waiting w 0) 0 (omega arith)

  pub room : tail < 256
  room = omega (arith, count_less (ready waiting) n w in_w unready, Q.many)

  -- others wait for it
  queue_still : get_or waiting w 0 - 1 ≢ 0 → Queued n less queue tail
  queue_still s = record {
    size = Q.size;
    node = Q.node;
    none = kept;
    all = λ x b z. Q.all x b (by_cases (ℕ_discrete x w) (λ e. absurd (omega (arith, now_w, ap (λ y. get_or less y 0) e))) (λ e. sym (off_w x e) ∙ z));
    many = count_agree (ready less) (ready waiting) n (λ x _. by_cases (ℕ_discrete x w) (λ e. rw e (ne_eqb (get_or less w 0) 0 (omega (arith, now_w)) ∙ sym unready)) (λ e. ap (λ y. eqb y 0) (off_w x e))) ∙ Q.many;
  }

  -- none waits for it now
  queue_push : get_or waiting w 0 - 1 ≡ 0 → Queued n less (set queue tail w) (tail + 1)
  queue_push z =
      let counted : count (without (ready less) w) n ≡ count (ready waiting) n = count_agree _ _ n (λ x _. by_cases (ℕ_discrete x w) (λ e. rw e (without_same (ready less) w ∙ sym unready)) (λ e. without_other (ready less) e ∙ ap (λ y. eqb y 0) (off_w x e))) in
      grown Q n less w room (omega arith) in_w (now_w ∙ z) kept (λ x b y e. (b, sym (off_w x e) ∙ y))
      (omega (arith, count_without (ready less) n w in_w (eq-eqb (get_or less w 0) 0 (now_w ∙ z)), counted, Q.many))

  pub queue_passed : (t : ℕ) → t ≡ bit (eqb (get_or waiting w 0 - 1) 0) → Queued n less (set queue tail w) (tail + t)
  queue_passed = moved w (get_or waiting w 0 - 1) queue_still queue_push

-- there are fewer nodes in the queue than were looked at
pub ruleset places = (tail_in, byte_small)
