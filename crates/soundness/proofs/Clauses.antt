-- What the tests of single wires, of unused entries and of the poles say. Assumes nothing.
use Rattle.std.proofs.Common.{◌≡◌, refl, subst, ◌≢◌, ◌↔◌, inl, inr, Bool, ◌||◌, List, ℕ, ◌≤◌, ◌<◌, arith, ltb, get_or, length, eqb, ◌&&◌, not}
use Rattle.std.proofs.Math.Logic.{by_cases}
use Rattle.std.proofs.Math.Decide.{dec_lt}
use Rattle.std.proofs.Math.ListN.{get_or-eq_default}
use Rattle.counting.specs.Below.{all_below}
use Rattle.clauses.specs.declared.Sheet.{Sheet}
use Rattle.sheet.specs.Darts.{Sized, tail, head, next, darts}
use Rattle.sheet.specs.Sound.{Limits, Joins, Unused, Incoming, Outgoing, Poles}
use Rattle.sheet.specs.Check.{within_limits, joined, unused_zero, rooted, incoming, outgoing, poles}
use Rattle.soundness.proofs.Tests.{Says, le_says, lt_says, eq_says, reworded, and_says, or_says, not_says, same_says, all_says, some_says}

-- each below n but p has it
record AllBut (n p : ℕ) (Has : ℕ → Type 0) : Type 0 where
  lacks : ¬ Has p
  others : (v : ℕ) → v < n → v ≢ p → Has v

all_but : {n p : ℕ} {Has : ℕ → Type 0} → p < n → ((v : ℕ) → v < n → Has v ↔ v ≢ p) → AllBut n p Has
all_but {p} h f = record { lacks = λ x. (f p h).0 x refl; others = λ v l. (f v l).1 }

but_all : {n p : ℕ} {Has : ℕ → Type 0} → AllBut n p Has → (v : ℕ) → v < n → Has v ↔ v ≢ p
but_all {Has} a v l = (λ x e. a.lacks (subst Has e x), a.others v l)

-- the entries past the used ones of a list of n have P: those in the list are tested, and those past it have P anyhow
past_says : {p : ℕ → Bool} {P : ℕ → Type 0} (n used : ℕ) → ((k : ℕ) → Says (p k) (P k)) → ((k : ℕ) → n ≤ k → P k)
    → Says (all_below (λ k. ltb k used || p k) n) ((k : ℕ) → used ≤ k → P k)
past_says n used x past =
    reworded (all_says n (λ k _. or_says (lt_says k used) (x k)))
    (λ f k h. by_cases (dec_lt k n) (λ l. elim (f k l) [ inl q ↦ absurd (omega arith) | inr q ↦ q ]) (λ l. past k (omega arith)))
    (λ f k h. by_cases (dec_lt k used) (λ l. inl l) (λ l. inr (f k (omega arith))))

module _ (s : Sheet) where
  pub limits_law : Says (within_limits s) (Limits s)
  unfolding within_limits
  limits_law =
      reworded (and_says (and_says (and_says (le_says 2 s.vertices) (le_says s.vertices 128)) (le_says 2 s.edges)) (le_says s.edges 256))
      (λ w. omega arith) (λ l. omega arith)

  pub edge_says : (a b : ℕ) → Says (ltb a s.vertices && ltb b s.vertices && not (eqb a b)) (((a < s.vertices) × (b < s.vertices)) × (a ≢ b))
  edge_says a b = and_says (and_says (lt_says a s.vertices) (lt_says b s.vertices)) (not_says (eq_says a b))

  pub joined_law : Says (joined s) ((k : ℕ) → k < s.edges → Joins s k)
  unfolding joined
  joined_law = all_says s.edges (λ k _.
      reworded (edge_says (tail s k) (head s k))
      (λ w. record { tail_in = w.0.0; head_in = w.0.1; different = w.1 })
      (λ j. ((j.tail_in, j.head_in), j.different)))

  pub rooted_law : Says (rooted s) ((tail s 0 ≡ 0) × (head s 0 ≡ 1))
  unfolding rooted
  rooted_law = and_says (eq_says (tail s 0) 0) (eq_says (head s 0) 1)

  pub unused_law : Sized s → Says (unused_zero s) (Unused s)
  unfolding unused_zero
  unused_law z =
      reworded
      (and_says
      (past_says 256 s.edges (λ k. and_says (eq_says (tail s k) 0) (eq_says (head s k) 0)) (λ k h. (past s.tails z.tails h, past s.heads z.heads h)))
      (past_says 512 (darts s) (λ d. eq_says (next s d) 0) (λ d h. past s.nexts z.nexts h)))
      (λ w. record { tails = λ k h. (w.0 k h).0; heads = λ k h. (w.0 k h).1; nexts = w.1 })
      (λ u. (λ k h. (u.tails k h, u.heads k h), u.nexts))
    where
      past : (l : List ℕ) {n k : ℕ} → length l ≡ n → n ≤ k → get_or l k 0 ≡ 0
      past l e h = get_or-eq_default l 0 (omega arith)

  incoming_says : (v : ℕ) → Says (incoming s v) (Incoming s v)
  unfolding incoming
  incoming_says v = some_says s.edges (λ k. eq_says (head s k) v)

  outgoing_says : (v : ℕ) → Says (outgoing s v) (Outgoing s v)
  unfolding outgoing
  outgoing_says v = some_says s.edges (λ k. eq_says (tail s k) v)

  pub poles_law : 2 ≤ s.vertices → Says (poles s) (Poles s)
  unfolding poles
  poles_law h =
      reworded
      (all_says s.vertices (λ v _. and_says (same_says (incoming_says v) (not_says (eq_says v 0))) (same_says (outgoing_says v) (not_says (eq_says v 1)))))
      (λ w.
      let i = all_but (omega arith) (λ v l. (w v l).0) in
      let o = all_but (omega arith) (λ v l. (w v l).1) in
      record { source = i.lacks; other_sources = i.others; sink = o.lacks; other_sinks = o.others })
      (λ P v l. (but_all (record { lacks = P.source; others = P.other_sources }) v l, but_all (record { lacks = P.sink; others = P.other_sinks }) v l))
