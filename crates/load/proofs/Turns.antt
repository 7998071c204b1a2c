-- The loops over the lines, turn by turn: what is left to read gives what the whole gives. Assumes nothing.
use Rattle.std.proofs.Common.{◌≡◌, ℕ, suc, ◌+◌, ◌-◌, ◌<◌, ◌≤◌, Bool, true, false, cond, not, ◌&&◌, eqb, ltb, leb, ◌≢◌, List, [], ◌∷◌, length, get_or, set, Some, Ok, Err, Result, sym, refl, ◌∙◌, zero-add, arith, get_or-set_other, get_or-set_same, eq-eqb, ne_eqb, eqb-true}
use Rattle.std.proofs.Math.Logic.{by_cases}
use Rattle.std.proofs.lemmas.Bool.{false≢true}
use Rattle.std.proofs.Math.Decide.{ℕ_discrete}
use Rattle.counting.specs.Choice.{pick}
use Rattle.counting.specs.Counts.{count}
use Rattle.counting.proofs.Iterate.{by_bool}
use Rattle.counting.proofs.Stores.{replicate_at}
use Rattle.clauses.specs.Darts.{touches_of, dart_of}
use Rattle.text.specs.Reading.{Listed, starts_with, line_at, numbers_of}
use Rattle.text.specs.Reading.Listed.{listed, unlisted}
use Rattle.text.specs.Shapes.{with_one, with_some, pair_of}
use Rattle.text.specs.Keys.{bars_key, wires_key, around_key}
use Rattle.text.proofs.Counted.{one_by, one_counted, two_by, two_counted}
use Rattle.clauses.specs.declared.Sheet.{Sheet}
use Rattle.answers.specs.declared.Refusal.{Refusal}
use Rattle.answers.specs.declared.Refusal.TheVariants.{BadLayout, CountOutOfLimits, BadEdge, BadRotation}
use Rattle.load.specs.Rings.{is_rotation, link_from, link_ring}
use Rattle.load.specs.declared.Form.{Form}
use Rattle.load.specs.Load.{Parsed, empty_sheet, with_edge, with_nexts, edge_key, directed, judge_of, judged, ring_lines, edge_lines, with_count, load_lines, load_from, parsed}
use Rattle.answers.specs.Refusals.{answering}
use Rattle.sheet.specs.Fresh.{fresh_sheet}
use Rattle.load.specs.declared.Loaded.{Loaded}
use Rattle.load.specs.Inner.{count_of, Joining, fit_from, linked_from, linked, Ringed, ringed, unringed, linked_on, ring_from}
use Rattle.load.proofs.Occurrences.{rotation_if, rotation_length, rotation_fits}

-- ---- the count lines

module _ (most : ℕ) where
  abbrev within : ℕ → ℕ → Result (ℕ × ℕ) Refusal
  within n next = pick (leb 2 n && leb n most) (λ _. Ok (n, next)) (λ _. Err CountOutOfLimits)

  pub count_steps : (l : Listed) → count_of most l ≡ one_by (numbers_of l) (Err BadLayout) within
  unfolding count_of
  count_steps l = one_counted (Err BadLayout) within l

-- ---- the edge lines

abbrev pub Joins : ℕ → ℕ → ℕ → Bool
Joins n a b = ltb a n && ltb b n && not (eqb a b)

module _ (form : Form) (text : List ℕ) (s : Sheet) (m k at : ℕ) where
  pub edges_over : m ≤ k → edge_lines form (m - k) text s k at ≡ ring_lines form (directed form s).vertices text (directed form s) 0 at
  unfolding edge_lines
  edges_over h = let z : m - k ≡ 0 = omega arith in rw z refl

  abbrev edge_by : ℕ → ℕ → ℕ → Parsed
  edge_by a b next = pick (Joins s.vertices a b) (λ _. edge_lines form (m - (k + 1)) text (with_edge s k a b) (k + 1) next) (λ _. Err BadEdge)

  pub edges_step : k < m → edge_lines form (m - k) text s k at ≡ two_by (pair_of (line_at (edge_key form) text at)) (Err BadLayout) edge_by
  unfolding edge_lines
  edges_step h = let z : m - k ≡ suc (m - (k + 1)) = omega arith in rw z (two_counted (Err BadLayout) edge_by (line_at (edge_key form) text at))

  pub edges_more : k < m → (a b next : ℕ) → Some (a, b, next) ≡ pair_of (line_at (edge_key form) text at) → Joins s.vertices a b ≡ true
      → edge_lines form (m - (k + 1)) text (with_edge s k a b) (k + 1) next ≡ edge_lines form (m - k) text s k at
  edges_more h a b next e j = sym (edges_step h ∙ rw (← e, j) refl)

-- one edge more
pub joining_more : (k a b : ℕ) (tails heads : List ℕ) → k < length tails → k < length heads → (a < 128) × (b < 128) × (a ≢ b) → Joining k tails heads
    → Joining (k + 1) (set tails k a) (set heads k b)
joining_more k a b tails heads ht hh n old i l =
    by_cases (ℕ_discrete i k)
    (λ e. rw (e, get_or-set_same tails k a 0 ht, get_or-set_same heads k b 0 hh) n)
    (λ e. rw (get_or-set_other tails k i a 0 e, get_or-set_other heads k i b 0 e) (old i (omega arith)))

-- ---- the ring lines

module _ (s : Sheet) (v : ℕ) where
  link_from_law : (f w : ℕ) (ws nexts : List ℕ) → linked_from s.tails v (dart_of s.tails f v) (dart_of s.tails w v) ws nexts ≡ link_from s v f (w ∷ ws) nexts
  unfolding linked_from link_from dart_of
  link_from_law f w [] nexts = refl
  link_from_law f w (x ∷ ws) nexts = link_from_law f x ws (set nexts (dart_of s.tails w v) (dart_of s.tails x v))

  link_ring_law : (ws nexts : List ℕ) → linked s.tails v ws nexts ≡ link_ring s v ws nexts
  unfolding linked link_from
  link_ring_law [] nexts = refl
  link_ring_law (w ∷ ws) nexts = link_from_law w w ws nexts

module _ (form : Form) (text : List ℕ) (s : Sheet) (nexts : List ℕ) (v at : ℕ) where
  pub rings_over : s.vertices ≤ v → ring_lines form (s.vertices - v) text (with_nexts s nexts) v at ≡ judged form (with_nexts s nexts) at
  unfolding ring_lines
  rings_over h = let z : s.vertices - v ≡ 0 = omega arith in rw z refl

  -- a line that was read: what load goes on to
  abbrev pub line_by : Ringed → Parsed
  line_by (ringed next after) = ring_lines form (s.vertices - (v + 1)) text (with_nexts s after) (v + 1) next
  line_by (unringed a) = Err a

  module _ (more : v < s.vertices) (seen : List ℕ) (room : s.edges ≤ length seen) (clear : (k : ℕ) → get_or seen k 0 ≤ v) (degree : ℕ) (d : degree ≡ count (λ k. touches_of s.tails s.heads k v) s.edges) where
    misfit : (ws : List ℕ) → is_rotation (with_nexts s nexts) v ws ≡ false → (fit_from s v seen ws && eqb (0 + length ws) degree) ≡ false
    misfit ws f =
        by_bool (fit_from s v seen ws)
        (λ t.
        by_bool (eqb (0 + length ws) degree)
        (λ e. absurd (false≢true (sym f ∙ rotation_if s nexts v ws seen room clear degree d (omega (arith, eqb-true (0 + length ws) degree e)) t))) (λ e. rw (t, e) refl))
        (λ u. rw u refl)

    line_is : (l : Listed) → with_some l (Err BadLayout) (λ ws next. pick (is_rotation (with_nexts s nexts) v ws) (λ _. ring_lines form (s.vertices - (v + 1)) text (with_nexts (with_nexts s nexts) (link_ring (with_nexts s nexts) v ws nexts)) (v + 1) next) (λ _. Err BadRotation))
        ≡ line_by (ring_from degree s v 0 0 0 seen nexts l)
    unfolding ring_from linked_on with_some with_nexts link_from
    line_is unlisted = refl
    line_is (listed ws next) =
        by_bool (is_rotation (with_nexts s nexts) v ws)
        (λ t. rw (t, rotation_fits s nexts v ws seen room clear degree d t, eq-eqb (0 + length ws) degree (zero-add (length ws) ∙ rotation_length s nexts v ws seen room clear degree d t), link_ring_law s v ws nexts) refl)
        (λ f. rw (f, misfit ws f) refl)

    pub rings_step : ring_lines form (s.vertices - v) text (with_nexts s nexts) v at ≡ line_by (ring_from degree s v 0 0 0 seen nexts (line_at around_key text at))
    unfolding ring_lines with_nexts
    rings_step = let z : s.vertices - v ≡ suc (s.vertices - (v + 1)) = omega arith in rw z (line_is (line_at around_key text at))

-- ---- the whole sheet

-- what is judged, by the answer
abbrev judged_by : Sheet → ℕ → Result (Unit {0}) Refusal → Parsed
judged_by s at (Ok _) = Ok (record { sheet = s; taken = at })
judged_by s at (Err r) = Err r

pub judged_steps : (form : Form) (s : Sheet) (at : ℕ) → judged form s at ≡ judged_by s at (judge_of form s)
unfolding judged answering
judged_steps form s at = go (judge_of form s)
  where
    go : (a : Result (Unit {0}) Refusal) → answering a (λ _. record { sheet = s; taken = at }) ≡ judged_by s at a
    go (Ok u) = refl
    go (Err r) = refl

-- what load goes on to after a count
module _ (good : ℕ → ℕ → Parsed) where
  abbrev pub count_by : Result (ℕ × ℕ) Refusal → Parsed
  count_by (Ok (n, next)) = good n next
  count_by (Err a) = Err a

  count_on : (most : ℕ) (l : Listed) → with_count l most good ≡ count_by (count_of most l)
  unfolding with_count count_of with_one
  count_on most unlisted = refl
  count_on most (listed [] next) = refl
  count_on most (listed (a ∷ []) next) = by_bool (leb 2 a && leb a most) (λ t. rw t refl) (λ f. rw f refl)
  count_on most (listed (a ∷ b ∷ vs) next) = refl

abbrev pub edges_of : Form → List ℕ → ℕ → ℕ → ℕ → Parsed
edges_of form text n m after = edge_lines form m text (empty_sheet n m) 0 after

pub wires_steps : (form : Form) (text : List ℕ) (n next : ℕ) → with_count (line_at wires_key text next) 256 (edges_of form text n) ≡ count_by (edges_of form text n) (count_of 256 (line_at wires_key text next))
wires_steps form text n next = count_on (edges_of form text n) 256 (line_at wires_key text next)

abbrev wires_of : Form → List ℕ → ℕ → ℕ → Parsed
wires_of form text n next = with_count (line_at wires_key text next) 256 (edges_of form text n)

pub bars_steps : (form : Form) (text : List ℕ) → load_lines form text ≡ count_by (wires_of form text) (count_of 128 (line_at bars_key text 0))
unfolding load_lines
bars_steps form text = count_on (wires_of form text) 128 (line_at bars_key text 0)

-- both counts are read: the edge lines are left
pub after_counts : (form : Form) (text : List ℕ) (n next m after : ℕ) → Ok (n, next) ≡ count_of 128 (line_at bars_key text 0) → Ok (m, after) ≡ count_of 256 (line_at wires_key text next) → edges_of form text n m after ≡ load_lines form text
after_counts form text n next m after e f = sym (bars_steps form text ∙ rw (← e) (wires_steps form text n next ∙ rw (← f) refl))

-- the edges are read and have their directions: the ring lines are left
pub from_directed : (form : Form) (text : List ℕ) (s t : Sheet) (at : ℕ) → t ≡ directed form s
    → ring_lines form t.vertices text (with_nexts t t.nexts) 0 at ≡ ring_lines form (directed form s).vertices text (directed form s) 0 at
unfolding with_nexts
from_directed form text s t at e = rw e refl

-- ---- no bytes, or some

pub load_by : (form : Form) (text : List ℕ) → load_from form text ≡ cond (eqb (length text) 0) (parsed fresh_sheet 0) (load_lines form text)
unfolding load_from
load_by form [] = refl
load_by form (b ∷ text) = rw (ne_eqb (length (b ∷ text)) 0 (λ e. omega arith)) refl

-- no bytes are no lines of a sheet
no_lines : (form : Form) → load_lines form [] ≡ Err BadLayout
unfolding load_lines with_count with_one line_at starts_with
no_lines form = refl

-- where the lines of a sheet are read, there are some bytes
pub lines_accepted : (form : Form) (text : List ℕ) {l : Loaded} → load_lines form text ≡ Ok l → load_from form text ≡ Ok l
unfolding load_from
lines_accepted form [] {l} e = let z : ◌≡◌ {A = Parsed} (Err BadLayout) (Ok l) = sym (no_lines form) ∙ e in cc
lines_accepted form (b ∷ text) e = e

pub ruleset edge_turns = (edges_over, edges_step)

pub ruleset ring_turns = (rings_over, rings_step, replicate_at)

pub ruleset load_turns = (bars_steps, wires_steps, judged_steps)
