-- A bar's wires clockwise, as an `around=` line lists them.
use Rattle.std.specs.Prelude.{ℕ, ◌+◌, Bool, true, ◌&&◌, List, [], ◌∷◌, eqb, ltb, get_or, set}
use Rattle.counting.specs.Counts.{bit}
use Rattle.counting.specs.Below.{all_below}
use Rattle.clauses.specs.declared.Sheet.{Sheet}
use Rattle.sheet.specs.Darts.{touches, dart_at}

-- how often k stands in the list
unfoldable pub occurrences : ℕ → List ℕ → ℕ
occurrences k [] = 0
occurrences k (w ∷ ws) = bit (eqb w k) + occurrences k ws

unfoldable pub all_in : (ℕ → Bool) → List ℕ → Bool
all_in p [] = true
all_in p (w ∷ ws) = p w && all_in p ws

-- the list is the bar's wires, each once
unfoldable pub is_rotation : Sheet → ℕ → List ℕ → Bool
is_rotation s v ws = all_in (λ w. ltb w s.edges) ws && all_below (λ k. eqb (occurrences k ws) (bit (touches s k v))) s.edges

-- the next-ends of bar v: the end of each wire of the list is followed by that of the next one in it, the last by that of the first
unfoldable pub link_from : Sheet → ℕ → ℕ → List ℕ → List ℕ → List ℕ
link_from s v first [] nexts = nexts
link_from s v first (w ∷ []) nexts = set nexts (dart_at s w v) (dart_at s first v)
link_from s v first (w ∷ x ∷ ws) nexts = link_from s v first (x ∷ ws) (set nexts (dart_at s w v) (dart_at s x v))

abbrev pub link_ring : Sheet → ℕ → List ℕ → List ℕ → List ℕ
link_ring s v ws nexts = link_from s v (get_or ws 0 0) ws nexts
