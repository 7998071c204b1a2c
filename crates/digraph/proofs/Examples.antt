-- Levels of small digraphs, by computing. Assumes nothing.
use Rattle.std.proofs.Common.{◌≡◌, refl, true, false, [], ◌∷◌, ◌++◌, replicate}
use Rattle.digraph.specs.Digraph.{flat}
use Rattle.digraph.specs.Relaxed.{joins, within_of, raised, relaxed, rounds, climbs, answer, levels_of}

-- 0 leads to 1, 2 and 3, 2 to 1 and 3, and 3 to 1: the longest paths go by 2 and 3
six : levels_of 4 6 (0 ∷ 0 ∷ 2 ∷ 0 ∷ 3 ∷ 2 ∷ []) (1 ∷ 2 ∷ 1 ∷ 3 ∷ 1 ∷ 3 ∷ []) ≡ record { acyclic = true; level = (0 ∷ 3 ∷ 1 ∷ 2 ∷ []) ++ replicate 252 0 }
unfolding levels_of answer within_of joins climbs rounds relaxed raised flat
six = refl

-- 1, 2 and 3 lie on a circle
round : levels_of 4 4 (0 ∷ 1 ∷ 2 ∷ 3 ∷ []) (1 ∷ 2 ∷ 3 ∷ 1 ∷ []) ≡ record { acyclic = false; level = flat }
unfolding levels_of answer within_of joins climbs rounds relaxed raised flat
round = refl

-- an edge from a node to itself
loop : levels_of 1 1 (0 ∷ []) (0 ∷ []) ≡ record { acyclic = false; level = flat }
unfolding levels_of answer within_of joins climbs rounds relaxed raised flat
loop = refl

-- the end 2 is no node
outside : levels_of 2 1 (0 ∷ []) (2 ∷ []) ≡ record { acyclic = false; level = flat }
unfolding levels_of answer within_of joins climbs rounds relaxed raised flat
outside = refl
