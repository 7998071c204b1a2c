-- Load and the load of links take no more bytes than their text has. Assumes nothing.
use Rattle.std.proofs.Common.{Ok, Err, ◌≡◌, List, [], ◌∷◌, ℕ, zero, suc, ◌+◌, ◌≤◌, not, ◌&&◌, arith, eqb, ltb, leb, length, subst}
use Rattle.text.specs.Reading.{line_at}
use Rattle.text.specs.Keys.{bars_key, wires_key, around_key}
use Rattle.layout.specs.Layout.{LineAt}
use Rattle.layout.proofs.Shapes.{line_reads, one_shaped, two_shaped, some_shaped}
use Rattle.clauses.specs.declared.Sheet.{Sheet}
use Rattle.answers.specs.Answers.{Answer}
use Rattle.answers.specs.Refusals.{answering}
use Rattle.load.specs.declared.Loaded.{Loaded}
use Rattle.load.specs.declared.Form.{Form}
use Rattle.load.specs.Rings.{is_rotation, link_ring}
use Rattle.load.specs.Load.{Parsed, empty_sheet, with_edge, with_nexts, edge_key, directed, judge_of, judged, ring_lines, edge_lines, with_count, load_lines, load_from}
use Rattle.roundtrip.proofs.Loaded.{pick_each}

-- a line that stands at a place ends within the text
line_within : {key text vs : List ℕ} {at next : ℕ} → LineAt key text at vs next → next ≤ length text
line_within L = omega (arith, L.same.place, L.same.holds.room)

module _ (form : Form) (text : List ℕ) where
  -- what is parsed stands within the text
  abbrev Within : Parsed → Type 0
  Within (Ok l) = l.taken ≤ length text
  Within (Err r) = Unit {0}

  judged_within : (s : Sheet) (at : ℕ) → at ≤ length text → Within (judged form s at)
  unfolding judged answering
  judged_within s at h = go (judge_of form s)
    where
      go : (a : Answer) → Within (answering a (λ _. record { sheet = s; taken = at }))
      go (Ok u) = h
      go (Err r) = tt

  rings_within : (r : ℕ) (s : Sheet) (v at : ℕ) → at ≤ length text → Within (ring_lines form r text s v at)
  unfolding ring_lines
  rings_within zero s v at h = judged_within s at h
  rings_within (suc r) s v at h = some_shaped (line_reads around_key text at) Within _ _ (λ _. tt) (λ ws next L.
      pick_each Within (is_rotation s v ws) _ _ (λ _. rings_within r (with_nexts s (link_ring s v ws s.nexts)) (v + 1) next (line_within L)) (λ _. tt))

  edges_within : (r : ℕ) (s : Sheet) (k at : ℕ) → at ≤ length text → Within (edge_lines form r text s k at)
  unfolding edge_lines
  edges_within zero s k at h = rings_within (directed form s).vertices (directed form s) 0 at h
  edges_within (suc r) s k at h = two_shaped (line_reads (edge_key form) text at) Within _ _ (λ _. tt) (λ a b next L.
      pick_each Within (ltb a s.vertices && ltb b s.vertices && not (eqb a b)) _ _ (λ _. edges_within r (with_edge s k a b) (k + 1) next (line_within L)) (λ _. tt))

  count_within : (key : List ℕ) (at most : ℕ) (good : ℕ → ℕ → Parsed) → ((n next : ℕ) → next ≤ length text → Within (good n next))
      → Within (with_count (line_at key text at) most good)
  unfolding with_count
  count_within key at most good f = one_shaped (line_reads key text at) Within _ _ (λ _. tt) (λ n next L.
      pick_each Within (leb 2 n && leb n most) _ _ (λ _. f n next (line_within L)) (λ _. tt))

  lines_within : Within (load_lines form text)
  unfolding load_lines
  lines_within = count_within bars_key 0 128 _ (λ n next _.
      count_within wires_key next 256 _ (λ m after h.
      edges_within m (empty_sheet n m) 0 after h))

-- what is taken of an accepted text stands within it
pub taken_within : (form : Form) (text : List ℕ) (l : Loaded) → load_from form text ≡ Ok l → l.taken ≤ length text
unfolding load_from
taken_within form text l e = subst (Within form text) e (within text)
  where
    within : (text : List ℕ) → Within form text (load_from form text)
    within [] = omega arith
    within (b ∷ text) = lines_within form (b ∷ text)
