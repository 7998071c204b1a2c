-- Load and the load of links: a sheet from the front of a text, line by line; on a line, shape first. No bytes give the fresh sheet.
use Rattle.std.specs.Prelude.{ℕ, zero, suc, ◌+◌, not, ◌&&◌, List, [], ◌∷◌, eqb, ltb, leb, set, replicate, Result, Ok, Err}
use Rattle.counting.specs.Choice.{pick}
use Rattle.text.specs.Reading.{Listed, line_at}
use Rattle.text.specs.Shapes.{with_one, with_two, with_some}
use Rattle.clauses.specs.declared.Sheet.{Sheet}
use Rattle.answers.specs.declared.Refusal.{Refusal}
use Rattle.answers.specs.declared.Refusal.TheVariants.{BadLayout, CountOutOfLimits, BadEdge, BadRotation}
use Rattle.answers.specs.Answers.{Answer}
use Rattle.answers.specs.Refusals.{answering}
use Rattle.sheet.specs.Fresh.{fresh_sheet}
use Rattle.sheet.specs.Check.{judge, judge_links}
use Rattle.orientation.specs.Ears.{oriented}
use Rattle.load.specs.declared.Form.{Form}
use Rattle.load.specs.declared.Form.TheVariants.{Directed, Undirected}
use Rattle.load.specs.declared.Loaded.{Loaded}
use Rattle.text.specs.Keys.{bars_key, wires_key, wire_key, link_key, around_key}
use Rattle.load.specs.Rings.{is_rotation, link_ring}

-- a sheet and the bytes taken, or a refusal
abbrev pub Parsed : Type 0
Parsed = Result Loaded Refusal

abbrev pub parsed : Sheet → ℕ → Parsed
parsed s next = Ok (record { sheet = s; taken = next })

-- n bars and m wires of which nothing is read yet; wire k read; next-ends read
unfoldable pub empty_sheet : ℕ → ℕ → Sheet
empty_sheet n m = record { vertices = n; edges = m; tails = replicate 256 0; heads = replicate 256 0; nexts = replicate 512 0 }

unfoldable pub with_edge : Sheet → ℕ → ℕ → ℕ → Sheet
with_edge s k a b = record { vertices = s.vertices; edges = s.edges; tails = set s.tails k a; heads = set s.heads k b; nexts = s.nexts }

unfoldable pub with_nexts : Sheet → List ℕ → Sheet
with_nexts s nexts = record { vertices = s.vertices; edges = s.edges; tails = s.tails; heads = s.heads; nexts = nexts }

-- ---- where the two loads differ

-- the key of the lines of edges: `wire=tail,head`, or `link=a,b`
unfoldable pub edge_key : Form → List ℕ
edge_key Directed = wire_key
edge_key Undirected = link_key

-- the sheet of these edges: links get their directions
unfoldable pub directed : Form → Sheet → Sheet
directed Directed s = s
directed Undirected s = oriented s

-- what is refused after the last line
unfoldable pub judge_of : Form → Sheet → Answer
judge_of Directed s = judge s
judge_of Undirected s = judge_links s

-- ---- the lines

-- after the last line
unfoldable pub judged : Form → Sheet → ℕ → Parsed
judged form s next = answering (judge_of form s) (λ _. record { sheet = s; taken = next })

-- n lines `around=` with the bar's wires clockwise, at least one, beginning anywhere: r lines from bar v on, at a place
unfoldable pub ring_lines : Form → ℕ → List ℕ → Sheet → ℕ → ℕ → Parsed
ring_lines form zero text s v at = judged form s at
ring_lines form (suc r) text s v at = with_some (line_at around_key text at) (Err BadLayout) (λ ws next.
    pick (is_rotation s v ws)
    (λ _. ring_lines form r text (with_nexts s (link_ring s v ws s.nexts)) (v + 1) next)
    (λ _. Err BadRotation))

-- m lines of edges: r lines from edge k on, at a place; 3 a bar not in the sheet, or equal bars
unfoldable pub edge_lines : Form → ℕ → List ℕ → Sheet → ℕ → ℕ → Parsed
edge_lines form zero text s k at = ring_lines form (directed form s).vertices text (directed form s) 0 at
edge_lines form (suc r) text s k at = with_two (line_at (edge_key form) text at) (Err BadLayout) (λ a b next.
    pick (ltb a s.vertices && ltb b s.vertices && not (eqb a b))
    (λ _. edge_lines form r text (with_edge s k a b) (k + 1) next)
    (λ _. Err BadEdge))

-- a line of one count; 2 outside its limits, which are 2 and `most`
unfoldable pub with_count : Listed → ℕ → (ℕ → ℕ → Parsed) → Parsed
with_count line most good =
    with_one line (Err BadLayout) (λ n next. pick (leb 2 n && leb n most) (λ _. good n next) (λ _. Err CountOutOfLimits))

-- the lines `bars=n` and `wires=m`, and what follows them
unfoldable pub load_lines : Form → List ℕ → Parsed
load_lines form text =
    with_count (line_at bars_key text 0) 128 (λ n next.
    with_count (line_at wires_key text next) 256 (λ m after.
    edge_lines form m text (empty_sheet n m) 0 after))

-- A load of no bytes yields the fresh sheet with 0 bytes taken, so 0 bytes taken is no sign of a refusal. Text of one byte or more is read line by line.
unfoldable pub load_from : Form → List ℕ → Parsed
load_from form [] = parsed fresh_sheet 0
load_from form (b ∷ text) = load_lines form (b ∷ text)

-- ---- the calls

-- Load
abbrev pub load : List ℕ → Parsed
load text = load_from Directed text

-- The second load takes lines `link=a,b` in place of every `wire=` line and chooses the directions.
abbrev pub load_links : List ℕ → Parsed
load_links text = load_from Undirected text

-- what load returns beside its answer: refused, the present sheet comes back, and 0 bytes are taken
unfoldable pub returned : Sheet → Parsed → Loaded
returned present (Ok l) = l
returned present (Err r) = record { sheet = present; taken = 0 }
