-- What the functions promise each other while the nodes are put in topological order and each edge is passed once.
use Rattle.std.specs.Prelude.{◌≡◌, Bool, false, ◌&&◌, List, ℕ, ◌+◌, ◌-◌, ◌%◌, ◌≤◌, ◌<◌, max, eqb, ltb, get_or, set, length}
use Rattle.counting.specs.Counts.{bit, count}
use Rattle.counting.specs.Paths.{Path}
use Rattle.digraph.specs.declared.Sorting.{Sorting}
use Rattle.digraph.specs.declared.Lists.{Lists}
use Rattle.digraph.specs.Digraph.{Leads, Within}

-- the first m ends are nodes below n
pub record Ends (n m : ℕ) (ends : List ℕ) : Type 0 where
  pub few : m ≤ 256
  pub inside : (k : ℕ) → k < m → get_or ends k 0 < n

-- ---- Lists of edges by one of their two ends: for each node the first edge at it, and after each edge the next.

-- edge j is on the list that starts at edge k
pub data Listed (edges : ℕ) (after : List ℕ) (j : ℕ) : ℕ → Type 0 where
  at_head : j < edges → Listed edges after j j
  later : {k i : ℕ} → k < edges → get_or after k 0 ≡ i → Listed edges after j i → Listed edges after j k

-- the edges from `low` on stand on the lists of their ends, which run upwards; 256 ends a list
pub record Chained (low edges : ℕ) (ends first after : List ℕ) : Type 0 where
  pub size_first : length first ≡ 256
  pub size_after : length after ≡ 256
  pub listed : (j : ℕ) → low ≤ j → j < edges → Listed edges after j (get_or first (get_or ends j 0) 0)
  pub at_end : (v j : ℕ) → v < 256 → Listed edges after j (get_or first v 0) → get_or ends j 0 ≡ v
  pub rising : (k : ℕ) → low ≤ k → k < edges → k < get_or after k 0
  pub high : (v : ℕ) → v < 256 → low ≤ get_or first v 0

-- ---- nodes in topological order, each edge passed once

-- edge j waits and leads to w
abbrev pub into : (ℕ → Bool) → List ℕ → ℕ → ℕ → Bool
into waits to w j = waits j && eqb (get_or to j 0) w

-- for each node the number of the edges into it that wait, among the first k edges
pub record Waiting (k : ℕ) (to : List ℕ) (waits : ℕ → Bool) (waiting : List ℕ) : Type 0 where
  pub size : length waiting ≡ 256
  pub counts : (w : ℕ) → w < 256 → get_or waiting w 0 ≡ count (into waits to w) k

-- no edge waits for w
abbrev pub ready : List ℕ → ℕ → Bool
ready waiting w = eqb (get_or waiting w 0) 0

-- the queue's first `tail` entries are the nodes below n for which no edge waits, each once
pub record Queued (n : ℕ) (waiting queue : List ℕ) (tail : ℕ) : Type 0 where
  pub size : length queue ≡ 256
  pub node : (i : ℕ) → i < tail → get_or queue i 0 < n
  pub none : (i : ℕ) → i < tail → get_or waiting (get_or queue i 0) 0 ≡ 0
  pub all : (w : ℕ) → w < n → get_or waiting w 0 ≡ 0 → (i : ℕ) × (i < tail) × (get_or queue i 0 ≡ w)
  pub many : count (ready waiting) n ≡ tail

-- each level is the length of a path, and 0 past the nodes
pub record Attained (nodes edges : ℕ) (from to level : List ℕ) : Type 0 where
  pub size : length level ≡ 256
  pub path : (v : ℕ) → (a : ℕ) × Path (Leads edges from to) a v (get_or level v 0)
  pub rest : (v : ℕ) → nodes ≤ v → get_or level v 0 ≡ 0

-- a digraph whose edges lead to `to`
pub record Graph (edges : ℕ) (to : List ℕ) : Type 0 where
  pub nodes : ℕ
  pub from : List ℕ
  pub within : Within nodes edges from to

-- a digraph with the lists of the edges out of each node
pub record Listing (edges : ℕ) (to first after : List ℕ) : Type 0 where
  pub graph : Graph edges to
  pub chained : Chained 0 edges graph.from first after

-- the edges that do not wait are passed: they climb, and no level is above their number
pub record Progress {edges : ℕ} {to : List ℕ} (G : Graph edges to) (waits : ℕ → Bool) (waiting level queue : List ℕ) (tail : ℕ) : Type 0 where
  pub waiting_in : Waiting edges to waits waiting
  pub queued : Queued G.nodes waiting queue tail
  pub attained : Attained G.nodes edges G.from to level
  pub climbs : (j : ℕ) → j < edges → waits j ≡ false → get_or level (get_or G.from j 0) 0 < get_or level (get_or to j 0) 0
  pub low : (v : ℕ) → get_or level v 0 + count waits edges ≤ edges

-- the edges out of the queue's first `head` nodes are passed, and no other
pub record Settled {edges : ℕ} {to : List ℕ} (G : Graph edges to) (head : ℕ) (waiting level queue : List ℕ) (tail : ℕ) : Type 0 where
  pub waits : ℕ → Bool
  pub progress : Progress G waits waiting level queue tail
  pub passed : (i j : ℕ) → i < head → j < edges → get_or G.from j 0 ≡ get_or queue i 0 → waits j ≡ false
  pub left : (j : ℕ) → j < edges → waits j ≡ false → (i : ℕ) × (i < head) × (get_or queue i 0 ≡ get_or G.from j 0)
  pub inside : head ≤ tail

-- one edge to w is passed from a node at the level `row`, where `out` is 1: w is raised above the row, an edge less waits for it, and it goes into the queue where none does.
-- Where `out` is 0 nothing changes but what is stored past the queue's end, if the row is not above the level of w.
pub record Stepped (w row out : ℕ) (s s' : Sorting) : Type 0 where
  pub waiting_is : s'.waiting ≡ set s.waiting w (get_or s.waiting w 0 - out)
  pub level_is : s'.level ≡ set s.level w (max (get_or s.level w 0) (row + out))
  pub queue_is : s'.queue ≡ set s.queue (s.end % 256) w
  pub end_is : s'.end ≡ s.end + bit (ltb (get_or s.waiting w 0 - out) out)

-- some digraph has these lists, and the edges out of the queue's first `head` nodes are passed
pub record Underway (l : Lists) (head : ℕ) (s : Sorting) : Type 0 where
  pub listing : Listing l.graph.edges l.graph.to.now l.first l.after
  pub settled : Settled listing.graph head s.waiting s.level s.queue s.end

-- in every digraph with these lists: if before the edges out of the queue's first `head` nodes were passed, after it those out of its first `head'` are
abbrev pub Onward : Lists → ℕ → Sorting → ℕ → Sorting → Type 0
Onward l head s head' s' =
    (L : Listing l.graph.edges l.graph.to.now l.first l.after) → Settled L.graph head s.waiting s.level s.queue s.end → Settled L.graph head' s'.waiting s'.level s'.queue s'.end
