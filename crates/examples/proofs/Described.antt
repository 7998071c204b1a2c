-- Each load judges the sheet that the lines describe.
use Rattle.std.proofs.Common.{◌≡◌, subst, Err, ℕ, zero, suc, ◌+◌, ◌≤◌, Bool, true, false, not, ◌&&◌, List, [], ◌∷◌, arith, eqb, ltb, leb}
use Rattle.counting.specs.Choice.{pick}
use Rattle.text.specs.Keys.{bars_key, wires_key, around_key}
use Rattle.text.specs.Reading.{Listed, line_at}
use Rattle.text.specs.Reading.Listed.{listed, unlisted}
use Rattle.text.specs.Shapes.{with_one, with_two, with_some}
use Rattle.answers.specs.declared.Refusal.TheVariants.{BadLayout, CountOutOfLimits, BadEdge, BadRotation}
use Rattle.answers.specs.declared.Refusal.{Refusal}
use Rattle.answers.specs.Answers.{refusal_number}
use Rattle.clauses.specs.declared.Sheet.{Sheet}
use Rattle.sheet.specs.Fresh.{fresh_sheet}
use Rattle.soundness.proofs.Fresh.{fresh_law, fresh_sized}
use Rattle.load.specs.Rings.{is_rotation, link_ring}
use Rattle.load.specs.declared.Form.{Form}
use Rattle.load.specs.Load.{Parsed, empty_sheet, with_edge, with_nexts, edge_key, directed, judged, parsed, ring_lines, edge_lines, with_count, load_lines, load_from}
use Rattle.roundtrip.proofs.RoundTrip.{sound_judged}
use Rattle.examples.specs.Described.{rings_from, edges_from, lines_described, described, Read, DescribedLaw}
use Rattle.examples.specs.Described.Read.{last_line, refused_line}

-- the refusals of a line
record OfLine (r : Refusal) : Type 0 where
  least : 1 ≤ refusal_number r
  most : refusal_number r ≤ 4

layout : OfLine BadLayout
unfolding refusal_number
layout = record { least = omega arith; most = omega arith }

limits : OfLine CountOutOfLimits
unfolding refusal_number
limits = record { least = omega arith; most = omega arith }

edge : OfLine BadEdge
unfolding refusal_number
edge = record { least = omega arith; most = omega arith }

rotation : OfLine BadRotation
unfolding refusal_number
rotation = record { least = omega arith; most = omega arith }

-- a line that is refused, or read on from
line_refused : {form : Form} {s : Sheet} {r : Refusal} → OfLine r → Read form s (Err r)
line_refused {r} o = refused_line r o.least o.most

read_if : {form : Form} {s : Sheet} {p : Parsed} {r : Refusal} (b : Bool) → OfLine r → Read form s p → Read form s (pick b (λ _. p) (λ _. Err r))
read_if true r h = h
read_if false r h = line_refused r

-- a line of some numbers, of two, of one
module _ (form : Form) (s : Sheet) where
  some : (l : Listed) (f : List ℕ → ℕ → Sheet) (g : List ℕ → ℕ → Parsed) → ((ws : List ℕ) (next : ℕ) → Read form (f ws next) (g ws next))
      → Read form (with_some l s f) (with_some l (Err BadLayout) g)
  unfolding with_some
  some unlisted f g h = line_refused layout
  some (listed ws next) f g h = h ws next

  two : (l : Listed) (f : ℕ → ℕ → ℕ → Sheet) (g : ℕ → ℕ → ℕ → Parsed) → ((a b next : ℕ) → Read form (f a b next) (g a b next))
      → Read form (with_two l s f) (with_two l (Err BadLayout) g)
  unfolding with_two
  two unlisted f g h = line_refused layout
  two (listed [] next) f g h = line_refused layout
  two (listed (a ∷ []) next) f g h = line_refused layout
  two (listed (a ∷ b ∷ []) next) f g h = h a b next
  two (listed (a ∷ b ∷ c ∷ vs) next) f g h = line_refused layout

  one : (l : Listed) (most : ℕ) (f : ℕ → ℕ → Sheet) (g : ℕ → ℕ → Parsed) → ((n next : ℕ) → Read form (f n next) (g n next))
      → Read form (with_one l s f) (with_count l most g)
  unfolding with_one with_count
  one unlisted most f g h = line_refused layout
  one (listed [] next) most f g h = line_refused layout
  one (listed (n ∷ []) next) most f g h = read_if (leb 2 n && leb n most) limits (h n next)
  one (listed (a ∷ b ∷ vs) next) most f g h = line_refused layout

rings_read : (form : Form) (r : ℕ) (text : List ℕ) (s : Sheet) (v at : ℕ) → Read form (rings_from r text s v at) (ring_lines form r text s v at)
unfolding rings_from ring_lines
rings_read form zero text s v at = last_line at
rings_read form (suc r) text s v at = some form s (line_at around_key text at) _ _ (λ ws next.
    read_if (is_rotation s v ws) rotation (rings_read form r text (with_nexts s (link_ring s v ws s.nexts)) (v + 1) next))

edges_read : (form : Form) (r : ℕ) (text : List ℕ) (s : Sheet) (k at : ℕ) → Read form (edges_from form r text s k at) (edge_lines form r text s k at)
unfolding edges_from edge_lines
edges_read form zero text s k at = rings_read form (directed form s).vertices text (directed form s) 0 at
edges_read form (suc r) text s k at = two form s (line_at (edge_key form) text at) _ _ (λ a b next.
    read_if (ltb a s.vertices && ltb b s.vertices && not (eqb a b)) edge (edges_read form r text (with_edge s k a b) (k + 1) next))

lines_read : (form : Form) (text : List ℕ) → Read form (lines_described form text) (load_lines form text)
unfolding lines_described load_lines
lines_read form text =
    one form (empty_sheet 0 0) (line_at bars_key text 0) 128 _ _ (λ n next.
    one form (empty_sheet n 0) (line_at wires_key text next) 256 _ _ (λ m after.
    edges_read form m text (empty_sheet n m) 0 after))

-- the fresh sheet passes after the last line of either
fresh_judged : (form : Form) → judged form fresh_sheet 0 ≡ parsed fresh_sheet 0
fresh_judged form = sound_judged form fresh_sheet fresh_sized fresh_law 0

pub described_law : DescribedLaw
unfolding described load_from
described_law form [] = subst (Read form fresh_sheet) (fresh_judged form) (last_line 0)
described_law form (b ∷ text) = lines_read form (b ∷ text)
