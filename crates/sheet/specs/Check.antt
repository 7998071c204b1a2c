-- Soundness as a test that computes, clause by clause; and rows, faces and columns as functions.
use Rattle.std.specs.Prelude.{ℕ, ◌+◌, Bool, cond, not, ◌&&◌, ◌||◌, List, [], ◌∷◌, eqb, ltb, leb, get_or}
use Rattle.std.specs.Bool.{beq}
use Rattle.counting.specs.Below.{all_below, some_below, table}
use Rattle.orbits.specs.declared.Traced.{Traced}
use Rattle.orbits.specs.Tables.{traced, is_permutation}
use Rattle.digraph.specs.Digraph.{Layering}
use Rattle.digraph.specs.Relaxed.{levels_of}
use Rattle.clauses.specs.declared.Sheet.{Sheet}
use Rattle.answers.specs.Answers.{Answer}
use Rattle.answers.specs.declared.Refusal.{Refusal}
use Rattle.answers.specs.declared.Refusal.TheVariants.{BadRoot, Cyclic, BadPoles, NotPlanar, NotOrientable}
use Rattle.answers.specs.Refusals.{first, ◌if◌}
use Rattle.clauses.specs.Darts.{tail_dart, head_dart}
use Rattle.sheet.specs.Darts.{tail, head, darts, vertex, next, walk}

-- n and m are within limits
unfoldable pub within_limits : Sheet → Bool
within_limits s = leb 2 s.vertices && leb s.vertices 128 && leb 2 s.edges && leb s.edges 256

-- each wire joins two different bars of the sheet
unfoldable pub joined : Sheet → Bool
joined s = all_below (λ k. ltb (tail s k) s.vertices && ltb (head s k) s.vertices && not (eqb (tail s k) (head s k))) s.edges

-- the next-ends of each bar form one ring of exactly its ends: they permute the ends, keep to the bar, and two ends of one bar lie in one orbit
unfoldable pub in_rings : Sheet → Bool
in_rings s =
    let rings = traced (darts s) (next s) in
    is_permutation (darts s) s.nexts && all_below (λ d. eqb (vertex s (next s d)) (vertex s d)
    && all_below (λ e. not (eqb (vertex s d) (vertex s e)) || eqb (get_or rings.orbit d 0) (get_or rings.orbit e 0)) (darts s)) (darts s)

-- unused entries are 0
unfoldable pub unused_zero : Sheet → Bool
unused_zero s =
    all_below (λ k. ltb k s.edges || (eqb (tail s k) 0 && eqb (head s k) 0)) 256 && all_below (λ d. ltb d (darts s) || eqb (next s d) 0) 512

-- wire 0 goes from bar 0 to bar 1
unfoldable pub rooted : Sheet → Bool
rooted s = eqb (tail s 0) 0 && eqb (head s 0) 1

-- Row of a bar: the most wires on a directed path to it; of a sound sheet such a path starts at bar 0.
unfoldable pub row_levels : Sheet → Layering
row_levels s = levels_of s.vertices s.edges s.tails s.heads

abbrev pub row : Sheet → ℕ → ℕ
row s v = get_or (row_levels s).level v 0

-- no directed circle exists
unfoldable pub acyclic : Sheet → Bool
acyclic s = (row_levels s).acyclic

-- bar v has an incoming wire; an outgoing wire
unfoldable pub incoming : Sheet → ℕ → Bool
incoming s v = some_below (λ k. eqb (head s k) v) s.edges

unfoldable pub outgoing : Sheet → ℕ → Bool
outgoing s v = some_below (λ k. eqb (tail s k) v) s.edges

-- bar 0 is the only bar with no incoming wire, bar 1 the only one with no outgoing wire
unfoldable pub poles : Sheet → Bool
poles s = all_below (λ v. beq (incoming s v) (not (eqb v 0)) && beq (outgoing s v) (not (eqb v 1))) s.vertices

-- The faces, each traced once: the number of the face of the walk that leaves its bar by end d, and how many faces there are.
unfoldable pub face_table : Sheet → Traced
face_table s = traced (darts s) (walk s)

abbrev pub face : Sheet → ℕ → ℕ
face s d = get_or (face_table s).orbit d 0

abbrev pub face_count : Sheet → ℕ
face_count s = (face_table s).count

-- n − m + f = 2
unfoldable pub planar : Sheet → Bool
planar s = eqb (s.vertices + face_count s) (s.edges + 2)

-- all clauses
unfoldable pub sound : Sheet → Bool
sound s = within_limits s && joined s && in_rings s && unused_zero s && rooted s && acyclic s && poles s && planar s

-- What a load refuses after the last line, where it refuses a directed circle by `circle`, and by `bars` what breaks the rule on bars 0 and 1.
unfoldable pub judge_by : (circle bars : Refusal) → Sheet → Answer
judge_by circle bars s =
    first
    (BadRoot if not (rooted s)
    ∷ circle if not (acyclic s)
    ∷ bars if not (poles s)
    ∷ NotPlanar if not (planar s)
    ∷ [])

-- Load: 5 wire 0 isn't from 0 to 1. 6 a directed circle. 7 the rule on bars 0 and 1. 8 n − m + f isn't 2.
abbrev pub judge : Sheet → Answer
judge s = judge_by Cyclic BadPoles s

-- The load of links, with the directions that it chose: 19 in the place of 6 and 7.
abbrev pub judge_links : Sheet → Answer
judge_links s = judge_by NotOrientable NotOrientable s

-- Between faces each wire but wire 0 leads from its left face to its right face, wire 0 from its right face to its left.
unfoldable pub face_from : Sheet → ℕ → ℕ
face_from s k = cond (eqb k 0) (face s (head_dart k)) (face s (tail_dart k))

unfoldable pub face_to : Sheet → ℕ → ℕ
face_to s k = cond (eqb k 0) (face s (tail_dart k)) (face s (head_dart k))

-- a table over the wires, with 0 past them
unfoldable pub edge_table : (ℕ → ℕ) → Sheet → List ℕ
edge_table g s = table g s.edges 256 0

-- Column of a face: the most steps on such a path to it; of a sound sheet such a path starts at the right face of wire 0.
unfoldable pub column_levels : Sheet → Layering
column_levels s = levels_of (face_count s) s.edges (edge_table (face_from s) s) (edge_table (face_to s) s)

abbrev pub column : Sheet → ℕ → ℕ
column s c = get_or (column_levels s).level c 0
