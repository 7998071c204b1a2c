-- The sheet that a text of a form describes, whether it is sound or not: the one that the load of that form judges after the last line, or, of no bytes, the fresh one.
use Rattle.std.specs.Prelude.{ℕ, zero, suc, ◌+◌, ◌≤◌, List, [], ◌∷◌, Err}
use Rattle.text.specs.Keys.{bars_key, wires_key, around_key}
use Rattle.text.specs.Reading.{line_at}
use Rattle.text.specs.Shapes.{with_one, with_two, with_some}
use Rattle.answers.specs.declared.Refusal.{Refusal}
use Rattle.answers.specs.Answers.{refusal_number}
use Rattle.clauses.specs.declared.Sheet.{Sheet}
use Rattle.sheet.specs.Fresh.{fresh_sheet}
use Rattle.load.specs.Rings.{link_ring}
use Rattle.load.specs.declared.Form.{Form}
use Rattle.load.specs.Load.{Parsed, empty_sheet, with_edge, with_nexts, edge_key, directed, judged, load_from}

-- r lines `around=` from bar v on, at a place; a line of another layout, here and below, ends the sheet
unfoldable pub rings_from : ℕ → List ℕ → Sheet → ℕ → ℕ → Sheet
rings_from zero text s v at = s
rings_from (suc r) text s v at = with_some (line_at around_key text at) s (λ ws next.
    rings_from r text (with_nexts s (link_ring s v ws s.nexts)) (v + 1) next)

-- r lines of edges from edge k on, at a place
unfoldable pub edges_from : Form → ℕ → List ℕ → Sheet → ℕ → ℕ → Sheet
edges_from form zero text s k at = rings_from (directed form s).vertices text (directed form s) 0 at
edges_from form (suc r) text s k at = with_two (line_at (edge_key form) text at) s (λ a b next. edges_from form r text (with_edge s k a b) (k + 1) next)

-- the lines `bars=n` and `wires=m`, and what follows them
unfoldable pub lines_described : Form → List ℕ → Sheet
lines_described form text =
    with_one (line_at bars_key text 0) (empty_sheet 0 0) (λ n next.
    with_one (line_at wires_key text next) (empty_sheet n 0) (λ m after.
    edges_from form m text (empty_sheet n m) 0 after))

-- no bytes stand for the fresh sheet
unfoldable pub described : Form → List ℕ → Sheet
described form [] = fresh_sheet
described form (b ∷ text) = lines_described form (b ∷ text)

-- what the load makes of a text that describes the sheet s: it judges s after the last line, or refuses a line, 1 to 4; the fresh sheet passes
pub data Read (form : Form) (s : Sheet) : Parsed → Type 0 where
  last_line : (next : ℕ) → Read form s (judged form s next)
  refused_line : (r : Refusal) → 1 ≤ refusal_number r → refusal_number r ≤ 4 → Read form s (Err r)

abbrev pub DescribedLaw : Type 0
DescribedLaw = (form : Form) (text : List ℕ) → Read form (described form text) (load_from form text)
