-- Levels by relaxation: a definition that computes.
use Rattle.std.specs.Prelude.{Bool, true, false, ◌&&◌, Option, List, ℕ, zero, suc, max, ltb, leb, get_or, set}
use Rattle.std.specs.Bool.{then_some}
use Rattle.digraph.specs.Digraph.{Layering, Within, Leveled, flat}

-- the first k edges join nodes
unfoldable pub joins : ℕ → ℕ → List ℕ → List ℕ → Bool
joins nodes zero from to = true
joins nodes (suc k) from to = ltb (get_or from k 0) nodes && ltb (get_or to k 0) nodes && joins nodes k from to

-- the counts are within the arrays, and each edge joins two nodes
unfoldable pub within_of : ℕ → ℕ → List ℕ → List ℕ → Bool
within_of nodes edges from to = leb nodes 256 && leb edges 256 && joins nodes edges from to

-- x, or one above y where that is more
abbrev pub higher_of : ℕ → ℕ → ℕ
higher_of x y = max x (suc y)

-- v stands above u
unfoldable pub raised : List ℕ → ℕ → ℕ → List ℕ
raised level u v = set level v (higher_of (get_or level v 0) (get_or level u 0))

-- one round: each of the first k edges raises its target
unfoldable pub relaxed : ℕ → List ℕ → List ℕ → List ℕ → List ℕ
relaxed zero from to level = level
relaxed (suc k) from to level = raised (relaxed k from to level) (get_or from k 0) (get_or to k 0)

-- i rounds, from no level
unfoldable pub rounds : ℕ → ℕ → List ℕ → List ℕ → List ℕ
rounds zero edges from to = flat
rounds (suc i) edges from to = relaxed edges from to (rounds i edges from to)

-- each of the first k edges leads to a higher level
unfoldable pub climbs : ℕ → List ℕ → List ℕ → List ℕ → Bool
climbs zero from to level = true
climbs (suc k) from to level = ltb (get_or level (get_or from k 0) 0) (get_or level (get_or to k 0) 0) && climbs k from to level

unfoldable pub answer : Bool → List ℕ → Layering
answer true level = record { acyclic = true; level = level }
answer false level = record { acyclic = false; level = flat }

-- as many rounds as nodes; where every edge climbs then, there is no circle and the levels are right
unfoldable pub levels_of : ℕ → ℕ → List ℕ → List ℕ → Layering
levels_of nodes edges from to =
    let level = rounds nodes edges from to in
    answer (within_of nodes edges from to && climbs edges from to level) level

-- the levels, where there is no circle
abbrev pub found : Layering → Option (List ℕ)
found l = then_some l.acyclic l.level

-- what `levels_of` means
abbrev pub LevelsMean : Type 0
LevelsMean = (nodes edges : ℕ) (from to : List ℕ) → Within nodes edges from to
    → Leveled nodes edges from to (levels_of nodes edges from to).acyclic (levels_of nodes edges from to).level
