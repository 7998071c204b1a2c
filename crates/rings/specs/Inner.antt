-- The rings and the levels in one pass: what the functions behind it promise each other.
use Rattle.std.specs.Prelude.{ℕ, ◌+◌, ◌*◌, ◌/◌, ◌%◌, ◌≤◌, ◌<◌, ◌≡◌, ◌≢◌, Bool, false, cond, not, ◌&&◌, ◌||◌, List, eqb, get_or, length}
use Rattle.counting.specs.Below.{all_below}
use Rattle.counting.specs.Counts.{count}
use Rattle.counting.specs.Orbits.{Perm, iter, Reach}
use Rattle.orbits.specs.Tables.{traced, is_permutation}
use Rattle.orbits.specs.Meaning.{entries}
use Rattle.digraph.specs.Digraph.{Layering, flat}
use Rattle.digraph.specs.declared.Sorting.{Sorting}
use Rattle.rings.specs.declared.Darts.{Darts}
use Rattle.digraph.specs.Relaxed.{levels_of}
use Rattle.digraph.specs.Inner.{Graph, Settled}
use Rattle.clauses.specs.Inner.{dart_table, vertex_of, poles_of}

-- ---- one ring at each vertex

-- dart d, of n: its next dart is at its vertex, and the darts at its vertex are in its ring
unfoldable pub ring_at : ℕ → List ℕ → List ℕ → List ℕ → ℕ → Bool
ring_at n at nexts ring d =
    eqb (get_or at (get_or nexts d 0) 0) (get_or at d 0) && all_below (λ e. not (eqb (get_or at d 0) (get_or at e 0)) || eqb (get_or ring d 0) (get_or ring e 0)) n

-- the next darts permute the n darts and keep to the vertex, and the darts of a vertex are in one ring, as a test
unfoldable pub rings_in : ℕ → List ℕ → List ℕ → Bool
rings_in n at nexts = is_permutation n nexts && all_below (ring_at n at nexts (traced n (entries nexts)).orbit) n

unfoldable pub rings_of : ℕ → List ℕ → List ℕ → List ℕ → Bool
rings_of n tails heads nexts = rings_in n (dart_table (vertex_of tails heads) n) nexts

-- the levels, where vertex 0 is the only one that is no head and vertex 1 the only one that is no tail, and the rings are right
unfoldable pub ring_levels : ℕ → ℕ → List ℕ → List ℕ → List ℕ → Layering
ring_levels n m tails heads nexts =
    cond (poles_of n m tails heads && rings_of (2 * m) tails heads nexts) (levels_of n m tails heads) (record { acyclic = false; level = flat })

-- n darts, with their vertices, are within their arrays
pub record Readable (n : ℕ) (at : List ℕ) : Type 0 where
  pub few : n ≤ 512
  pub at_in : (d : ℕ) → d < n → get_or at d 0 < 128

-- `held` has one of the first k darts at each vertex that has one of them
pub record Held (k : ℕ) (at held : List ℕ) : Type 0 where
  pub full : length held ≡ 128
  pub some : (d : ℕ) → d < k → (get_or held (get_or at d 0) 0 < k) × (get_or at (get_or held (get_or at d 0) 0) 0 ≡ get_or at d 0)

-- the next darts permute the n darts and keep to the vertex, and the darts of a vertex are in one ring
pub record OneRingEach (n : ℕ) (at nexts : List ℕ) : Type 0 where
  pub permuted : Perm n (entries nexts)
  pub stays : (d : ℕ) → d < n → get_or at (get_or nexts d 0) 0 ≡ get_or at d 0
  pub joined : (d e : ℕ) → d < n → e < n → get_or at d 0 ≡ get_or at e 0 → Reach (entries nexts) d e

-- for each vertex the number of its darts, among the first k
pub record Degrees (k : ℕ) (at degree : List ℕ) : Type 0 where
  pub size : length degree ≡ 128
  pub counts : (v : ℕ) → v < 128 → get_or degree v 0 ≡ count (λ d. eqb (get_or at d 0) v) k

-- from dart s the next darts lead round r darts of vertex v, and then back to s for the first time
pub record Round (n : ℕ) (at nexts : List ℕ) (s v r : ℕ) : Type 0 where
  pub back : iter (entries nexts) r s ≡ s
  pub first : (j : ℕ) → 0 < j → j < r → iter (entries nexts) j s ≢ s
  pub inside : (j : ℕ) → j < r → iter (entries nexts) j s < n
  pub there : (j : ℕ) → j < r → get_or at (iter (entries nexts) j s) 0 ≡ v

-- dart d is on the ring of the dart that is held for its vertex
pub record Covered (n : ℕ) (at nexts held : List ℕ) (d : ℕ) : Type 0 where
  pub below : get_or nexts d 0 < n
  pub stays : get_or at (get_or nexts d 0) 0 ≡ get_or at d 0
  pub before : (e : ℕ) × (e < n) × (get_or nexts e 0 ≡ d)
  pub home : get_or held (get_or at d 0) 0 < n
  pub from : Reach (entries nexts) (get_or held (get_or at d 0) 0) d

-- ---- the vertices in topological order, each ring walked once

-- a digraph with the vertices of its darts
pub record Placed (darts : ℕ) (at : List ℕ) : Type 0 where
  pub edges : ℕ
  pub to : List ℕ
  pub graph : Graph edges to
  pub twice : darts ≡ 2 * edges
  pub few : graph.nodes ≤ 128
  pub tails_at : (k : ℕ) → k < edges → get_or at (2 * k) 0 ≡ get_or graph.from k 0
  pub heads_at : (k : ℕ) → k < edges → get_or at (2 * k + 1) 0 ≡ get_or to k 0

-- the vertex at the head of a dart's edge; 1 for a dart at the edge's tail, else 0
abbrev pub head_of : List ℕ → ℕ → ℕ
head_of at d = get_or at (d / 2 * 2 + 1) 0

abbrev pub out_of : ℕ → ℕ
out_of d = (d + 1) % 2

-- some digraph has these darts, the edges out of the queue's first `head` vertices are passed, and a dart of each vertex is held
pub record Underway (r : Darts) (head : ℕ) (s : Sorting) : Type 0 where
  pub placed : Placed r.count r.at.now
  pub settled : Settled placed.graph head s.waiting s.level s.queue s.end
  pub held_in : Held r.count r.at.now r.held
  pub degrees : Degrees r.count r.at.now r.degree

-- The darts of the queue's vertices from `head` up to `head'` are on their rings, and the edges out of them are passed: in every digraph with these darts,
-- if before the edges out of the queue's first `head` vertices were passed, after it those out of its first `head'` are.
pub record PassedOn (r : Darts) (head : ℕ) (s : Sorting) (head' : ℕ) (s' : Sorting) : Type 0 where
  pub onward : (P : Placed r.count r.at.now) → Settled P.graph head s.waiting s.level s.queue s.end → Settled P.graph head' s'.waiting s'.level s'.queue s'.end
  pub kept : (i : ℕ) → i < s.end → get_or s'.queue i 0 ≡ get_or s.queue i 0
  pub longer : s.end ≤ s'.end
  pub covers : (i d : ℕ) → head ≤ i → i < head' → d < r.count → get_or r.at.now d 0 ≡ get_or s'.queue i 0 → Covered r.count r.at.now r.nexts.now r.held d
