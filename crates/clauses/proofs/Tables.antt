-- Tables over the darts, filled two by two. Assumes nothing.
use Rattle.std.proofs.Common.{ℕ, ◌+◌, ◌-◌, ◌*◌, ◌/◌, ◌%◌, ◌<◌, ◌≡◌, refl, true, false, List, arith, eq-eqb, ne_eqb, get_or, set}
use Rattle.clauses.specs.Darts.{is_tail, opposite}
use Rattle.clauses.specs.Inner.{dart_table, vertex_of, walk_of}
use Rattle.clauses.proofs.Below.{dart_none, dart_more}

two_more : (f : ℕ → ℕ) (k a b : ℕ) → k < 256 → a ≡ f (2 * k) → b ≡ f (2 * k + 1) → set (set (dart_table f (2 * k)) (2 * k) a) (2 * k + 1) b ≡ dart_table f (2 * (k + 1))
two_more f k a b h ea eb =
    let z : 2 * k + 1 + 1 ≡ 2 * (k + 1) = omega arith in
    rw (ea, eb, dart_more f (2 * k) (omega arith), dart_more f (2 * k + 1) (omega arith), z) refl

module _ (k : ℕ) where
  tail_dart_law : is_tail (2 * k) ≡ true
  tail_dart_law = eq-eqb (2 * k % 2) 0 (omega arith)

  head_dart_law : is_tail (2 * k + 1) ≡ false
  head_dart_law = ne_eqb ((2 * k + 1) % 2) 0 (omega arith)

  pub tail_vertex : (tails heads : List ℕ) → get_or tails k 0 ≡ vertex_of tails heads (2 * k)
  unfolding vertex_of
  tail_vertex tails heads = let z : 2 * k / 2 ≡ k = omega arith in rw (tail_dart_law, z) refl

  pub head_vertex : (tails heads : List ℕ) → get_or heads k 0 ≡ vertex_of tails heads (2 * k + 1)
  unfolding vertex_of
  head_vertex tails heads = let z : (2 * k + 1) / 2 ≡ k = omega arith in rw (head_dart_law, z) refl

  tail_walk : (nexts : List ℕ) → get_or nexts (2 * k + 1) 0 ≡ walk_of nexts (2 * k)
  unfolding walk_of opposite
  tail_walk nexts = rw tail_dart_law refl

  head_walk : (nexts : List ℕ) → get_or nexts (2 * k) 0 ≡ walk_of nexts (2 * k + 1)
  unfolding walk_of opposite
  head_walk nexts = let z : 2 * k + 1 - 1 ≡ 2 * k = omega arith in rw (head_dart_law, z) refl

module _ (k : ℕ) (h : k < 256) where
  pub places_more : (at tails heads : List ℕ) → at ≡ dart_table (vertex_of tails heads) (2 * k)
      → set (set at (2 * k) (get_or tails k 0)) (2 * k + 1) (get_or heads k 0) ≡ dart_table (vertex_of tails heads) (2 * (k + 1))
  places_more at tails heads e = rw e (two_more _ k _ _ h (tail_vertex k tails heads) (head_vertex k tails heads))

  pub walks_more : (walk nexts : List ℕ) → walk ≡ dart_table (walk_of nexts) (2 * k)
      → set (set walk (2 * k) (get_or nexts (2 * k + 1) 0)) (2 * k + 1) (get_or nexts (2 * k) 0) ≡ dart_table (walk_of nexts) (2 * (k + 1))
  walks_more walk nexts e = rw e (two_more _ k _ _ h (tail_walk k nexts) (head_walk k nexts))

-- a turn of each loop, and its start
pub ruleset table_steps = (dart_none, places_more, walks_more)
