-- The sheet record read as a directed graph with a clockwise order of the darts at each vertex. (Document 01's bar is a vertex, its wire an edge, its end a dart.)
use Rattle.std.specs.Prelude.{ℕ, ◌*◌, ◌/◌, ◌≡◌, Bool, cond, List, get_or, length}
use Rattle.clauses.specs.Darts.{is_tail, opposite, touches_of, dart_of}
use Rattle.clauses.specs.declared.Sheet.{Sheet}

-- what the record's arrays have by their type
pub record Sized (s : Sheet) : Type 0 where
  pub tails : length s.tails ≡ 256
  pub heads : length s.heads ≡ 256
  pub nexts : length s.nexts ≡ 512

-- a sheet from its parts
abbrev pub sheet_of : ℕ → ℕ → List ℕ → List ℕ → List ℕ → Sheet
sheet_of n m tails heads nexts = record { vertices = n; edges = m; tails = tails; heads = heads; nexts = nexts }

-- the tail bar and the head bar of wire k
abbrev pub tail : Sheet → ℕ → ℕ
tail s k = get_or s.tails k 0

abbrev pub head : Sheet → ℕ → ℕ
head s k = get_or s.heads k 0

abbrev pub darts : Sheet → ℕ
darts s = 2 * s.edges

-- the bar of an end
unfoldable pub vertex : Sheet → ℕ → ℕ
vertex s d = cond (is_tail d) (tail s (d / 2)) (head s (d / 2))

-- wire k has an end at bar v
abbrev pub touches : Sheet → ℕ → ℕ → Bool
touches s = touches_of s.tails s.heads

-- that end
abbrev pub dart_at : Sheet → ℕ → ℕ → ℕ
dart_at s = dart_of s.tails

-- the next end clockwise at the same bar
abbrev pub next : Sheet → ℕ → ℕ
next s d = get_or s.nexts d 0

-- The walk: it leaves a bar by end d, arrives at a bar by the other end of the wire, and leaves by the next end clockwise at that bar.
abbrev pub walk : Sheet → ℕ → ℕ
walk s d = next s (opposite d)
