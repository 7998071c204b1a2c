-- The directions that are chosen, as a definition that computes. Vertices are placed in an order that begins with vertices 0 and 1 and grows by ears: paths through
-- vertices that are not placed, between two placed ones. At the end each edge leads from its lower vertex in the order to its higher one.
use Rattle.std.specs.Prelude.{ℕ, zero, suc, Bool, cond, not, ◌&&◌, List, ◌∷◌, eqb, ltb, leb, get_or, set, replicate}
use Rattle.counting.specs.Below.{lowest_below}
use Rattle.counting.specs.Choice.{pick}
use Rattle.clauses.specs.Darts.{opposite}
use Rattle.clauses.specs.declared.Sheet.{Sheet}
use Rattle.sheet.specs.Darts.{tail, head, darts, vertex}
use Rattle.sheet.specs.Check.{edge_table}

-- a graph of so many vertices by its darts: dart d leads from vertex `from d` to vertex `to d`
pub record Graph : Type 0 where
  pub vertices : ℕ
  pub darts : ℕ
  pub from : ℕ → ℕ
  pub to : ℕ → ℕ

-- the links of a sheet, each by both its darts
abbrev pub graph_of : Sheet → Graph
graph_of s = record { vertices = s.vertices; darts = darts s; from = vertex s; to = λ d. vertex s (opposite d) }

-- ---- the order: a vertex's place in it, from 1; 0 where it is not placed

unfoldable pub is_placed : List ℕ → ℕ → Bool
is_placed order v = not (eqb (get_or order v 0) 0)

-- vertex 0, vertex 1
unfoldable pub first_order : List ℕ
first_order = 1 ∷ 2 ∷ replicate 126 0

-- vertex v moves up, where it has place p or a higher one
unfoldable pub raise : ℕ → List ℕ → ℕ → List ℕ
raise p order v = cond (leb p (get_or order v 0)) (set order v (suc (get_or order v 0))) order

-- the first k vertices
unfoldable pub raised : ℕ → ℕ → List ℕ → List ℕ
raised p zero order = order
raised p (suc k) order = raise p (raised p k order) k

-- vertex v gets place p, and those from p on move up
unfoldable pub insert_at : ℕ → ℕ → List ℕ → List ℕ
insert_at p v order = set (raised p 128 order) v p

-- ---- the search of an ear

-- a dart leads from a placed vertex to one that is not placed
unfoldable pub enters : List ℕ → (from to : ℕ) → Bool
enters order from to = is_placed order from && not (is_placed order to)

-- the lowest such dart; the number of darts, where there is none
unfoldable pub entry : Graph → List ℕ → ℕ
entry G order = lowest_below (λ d. enters order (G.from d) (G.to d)) G.darts

-- at first each of the first k vertices is its own parent
unfoldable pub own_parents : ℕ → List ℕ
own_parents zero = replicate 128 0
own_parents (suc k) = set (own_parents k) k k

-- a vertex that is reached has another vertex as its parent
unfoldable pub is_reached : List ℕ → ℕ → Bool
is_reached parents v = not (eqb (get_or parents v 0) v)

-- a dart: where it leads from a reached vertex to one that is neither reached nor placed, the one becomes the other's parent
unfoldable pub relaxed : List ℕ → List ℕ → (from to : ℕ) → List ℕ
relaxed order parents from to = cond (is_reached parents from && not (is_reached parents to) && not (is_placed order to)) (set parents to from) parents

unfoldable pub relax : Graph → List ℕ → List ℕ → ℕ → List ℕ
relax G order parents d = relaxed order parents (G.from d) (G.to d)

-- the first k darts in turn
unfoldable pub sweep : Graph → List ℕ → ℕ → List ℕ → List ℕ
sweep G order zero parents = parents
sweep G order (suc k) parents = relax G order (sweep G order k parents) k

-- a dart leads from a reached vertex to a placed one other than u
unfoldable pub exits : List ℕ → List ℕ → ℕ → (from to : ℕ) → Bool
exits order parents u from to = is_reached parents from && is_placed order to && not (eqb to u)

-- the lowest such dart; the number of darts, where there is none
unfoldable pub exit : Graph → List ℕ → ℕ → List ℕ → ℕ
exit G order u parents = lowest_below (λ d. exits order parents u (G.from d) (G.to d)) G.darts

-- all darts in turn, at most f times, until there is such a dart
unfoldable pub explored : Graph → List ℕ → ℕ → ℕ → List ℕ → List ℕ
explored G order u zero parents = parents
explored G order u (suc f) parents =
    pick (ltb (exit G order u parents) G.darts) (λ _. parents) (λ _. explored G order u f (sweep G order G.darts parents))

-- what is reached through vertices that are not placed from the far vertex of dart e, whose parent is its near vertex; a path has fewer darts than there are vertices
unfoldable pub parents_from : Graph → List ℕ → ℕ → List ℕ
parents_from G order e = explored G order (G.from e) G.vertices (set (own_parents 128) (G.to e) (G.from e))

-- ---- the placing of an ear

-- just above place p, or just below it
abbrev pub next_place : Bool → ℕ → ℕ
next_place up p = cond up (suc p) p

-- from vertex v to its parent and so on to a placed vertex, at most f vertices: each is put next to vertex u
unfoldable pub put_along : ℕ → List ℕ → ℕ → Bool → ℕ → List ℕ → List ℕ
put_along zero parents u up v order = order
put_along (suc f) parents u up v order =
    pick (is_placed order v) (λ _. order) (λ _. put_along f parents u up (get_or parents v 0) (insert_at (next_place up (get_or order u 0)) v order))

-- an ear from vertex u, which ends by dart o
unfoldable pub put_ear : Graph → List ℕ → ℕ → List ℕ → ℕ → List ℕ
put_ear G order u parents o = put_along 128 parents u (ltb (get_or order u 0) (get_or order (G.to o) 0)) (G.from o) order

-- an ear more, from the lowest entry; or the same order where there is none
unfoldable pub with_ear : Graph → List ℕ → List ℕ
with_ear G order =
    let e = entry G order in
    pick (ltb e G.darts)
    (λ _.
    let parents = parents_from G order e in
    let o = exit G order (G.from e) parents in
    pick (ltb o G.darts) (λ _. put_ear G order (G.from e) parents o) (λ _. order))
    (λ _. order)

unfoldable pub with_ears : Graph → ℕ → List ℕ
with_ears G zero = first_order
with_ears G (suc i) = with_ear G (with_ears G i)

-- as many ears as there are vertices: each places one more at least
unfoldable pub order_of : Sheet → List ℕ
order_of s = with_ears (graph_of s) s.vertices

-- ---- the answer

-- link k is turned round: its second vertex is lower in the order than its first; link 0 stays as it is
unfoldable pub is_reversed : Sheet → List ℕ → ℕ → Bool
is_reversed s order k = not (eqb k 0) && ltb (get_or order (head s k) 0) (get_or order (tail s k) 0)

unfoldable pub chosen_tail : Sheet → List ℕ → ℕ → ℕ
chosen_tail s order k = cond (is_reversed s order k) (head s k) (tail s k)

unfoldable pub chosen_head : Sheet → List ℕ → ℕ → ℕ
chosen_head s order k = cond (is_reversed s order k) (tail s k) (head s k)

-- the sheet of links with the directions that we choose
unfoldable pub oriented : Sheet → Sheet
oriented s = record {
  vertices = s.vertices;
  edges = s.edges;
  tails = edge_table (chosen_tail s (order_of s)) s;
  heads = edge_table (chosen_head s (order_of s)) s;
  nexts = s.nexts;
}
