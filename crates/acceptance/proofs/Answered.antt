-- Load and the load of links answer as laid down. Assumes nothing.
use Rattle.std.proofs.Common.{Ok, Err, ◌≡◌, refl, sym, ◌∙◌, subst, inl, inr, true, false, not, ◌&&◌, List, [], ◌∷◌, ◌++◌, ℕ, zero, suc, ◌+◌, ◌≤◌, ◌<◌, arith, eqb, ltb, leb, get_or, length, take, length-append}
use Rattle.std.proofs.Math.Logic.{by_cases}
use Rattle.std.proofs.lemmas.Bool.{false≢true, not-true, not-false}
use Rattle.std.proofs.Math.Decide.{dec_le}
use Rattle.clauses.specs.Darts.{touches_of}
use Rattle.text.specs.Reading.{line_at}
use Rattle.text.specs.Keys.{bars_key, wires_key, around_key}
use Rattle.answers.specs.declared.Refusal.TheVariants.{BadRoot, Cyclic, BadPoles, NotPlanar, NotOrientable}
use Rattle.answers.specs.Answers.{Answer, refusal_number, answer_number}
use Rattle.answers.specs.Refusals.{first, ◌if◌, answering}
use Rattle.answers.specs.Clauses.{◌when◌, First}
use Rattle.answers.proofs.Refusals.{refusal_nonzero}
use Rattle.answers.proofs.Clauses.{Agree, first_number}
use Rattle.answers.proofs.Clauses.Agree.{none, then}
use Rattle.clauses.specs.declared.Sheet.{Sheet}
use Rattle.sheet.specs.Check.{judge_by, judge_links, rooted, acyclic, poles, planar}
use Rattle.sheet.specs.Sound.{Limits, Joins, Euler}
use Rattle.orientation.specs.Links.{Choice, Bipolar, Orientable}
use Rattle.orientation.specs.Ears.{oriented}
use Rattle.orientation.proofs.Choosing.{oriented_counts, oriented_sized, oriented_choice, oriented_law}
use Rattle.orientation.proofs.Choices.{choice_sym, choice_trans, orientable_choice, SameWires, same_choice, same_bipolar, bipolar_orientable}
use Rattle.soundness.specs.Laws.{Lined}
use Rattle.counting.proofs.Iterate.{by_bool, clash}
use Rattle.soundness.proofs.Tests.{Says, le_says, and_says, not_says, reworded, itself}
use Rattle.soundness.proofs.Clauses.{limits_law, joined_law, rooted_law, poles_law, edge_says}
use Rattle.soundness.proofs.Rings.{rings_rotation, rings_law}
use Rattle.soundness.proofs.Faces.{planar_law}
use Rattle.soundness.proofs.Law.{circle_law}
use Rattle.load.specs.Rings.{is_rotation, link_ring}
use Rattle.load.specs.declared.Form.{Form}
use Rattle.load.specs.declared.Form.TheVariants.{Directed, Undirected}
use Rattle.load.specs.Load.{Parsed, empty_sheet, with_edge, with_nexts, edge_key, directed, judge_of, judged, ring_lines, edge_lines, with_count, load_lines, load_from, returned}
use Rattle.roundtrip.proofs.Around.{around_law}
use Rattle.roundtrip.proofs.Linking.{link_anew}
use Rattle.roundtrip.proofs.Loaded.{pick_each, Edged, edge_read, empty_read, directed_edged, Ringed, ring_read, none_ringed, whole_sized, whole_lined}
use Rattle.acceptance.specs.Loading.{Result, Outside, edges_only, Chosen, Directions, Describes, after_last, AroundLines, EdgeLines, WiresLine, BarsLine}
use Rattle.acceptance.specs.Loading.AroundLines.{no_around, bad_around, around, refused_last, accepted_last}
use Rattle.acceptance.specs.Loading.EdgeLines.{no_edge, bad_edge, edge, last_edge}
use Rattle.acceptance.specs.Loading.WiresLine.{no_wires, bad_wires, wires}
use Rattle.acceptance.specs.Loading.BarsLine.{no_bars, bad_bars, bars}
use Rattle.acceptance.specs.Loading.LoadAnswered.{no_bytes, some_bytes}
use Rattle.acceptance.specs.Laws.{LoadAnsweredLaw}
use Rattle.layout.proofs.Shapes.{line_reads, one_shaped, two_shaped, some_shaped}
use Rattle.acceptance.proofs.Said.{Said, said_more, none_said, front_is, said_front, edge_bad, edge_good, around_its, its_around, laid_after}

-- ---- after the last line

module _ (s : Sheet) (x : Lined s) where
  l : Limits s
  l = (limits_law s).0 x.limits

  j : (k : ℕ) → k < s.edges → Joins s k
  j = (joined_law s).0 x.joins

  last_test : Agree (NotPlanar if not (planar s) ∷ []) (8 when (¬ Euler s) ∷ [])
  unfolding refusal_number
  last_test = then refl (not_says (planar_law s l.edges_most (rings_rotation s j ((rings_law s j l.edges_most).0 x.rings)))) (λ _. none)

  -- the tests of load, and the statements
  wires_agree : Agree (BadRoot if not (rooted s) ∷ Cyclic if not (acyclic s) ∷ BadPoles if not (poles s) ∷ NotPlanar if not (planar s) ∷ []) (after_last Directed s)
  unfolding refusal_number after_last
  wires_agree =
      then refl (not_says (rooted_law s)) (λ _.
      then refl (circle_law s l j) (λ _.
      then refl (not_says (poles_law s l.vertices_least)) (λ _.
      last_test)))

  -- the rules on circles and on bars 0 and 1, where wire 0 goes from bar 0 to bar 1
  bipolar_says : rooted s ≡ true → Says (acyclic s && poles s) (Bipolar s)
  bipolar_says t =
      let (tail, head) = (rooted_law s).0 t in
      let circle = circle_law s l j in
      reworded (and_says (itself (acyclic s)) (poles_law s l.vertices_least))
      (λ (a, p). record { root_tail = tail; root_head = head; acyclic = λ c. clash a (not-true (acyclic s) (circle.1 c)); poles = p })
      (λ B. (by_bool (acyclic s) (λ a. a) (λ f. absurd (B.acyclic (circle.0 (rw f refl)))), B.poles))

  -- the tests of the load of links, and the statements, where some choice of directions is good only where this one is
  links_agree : (Orientable s → Bipolar s) → Agree (BadRoot if not (rooted s) ∷ NotOrientable if not (acyclic s && poles s) ∷ NotPlanar if not (planar s) ∷ []) (after_last Undirected s)
  unfolding refusal_number after_last
  links_agree best =
      then refl (not_says (rooted_law s)) (λ f.
      then refl (not_says (reworded (bipolar_says (not-false (rooted s) f)) bipolar_orientable best)) (λ _.
      last_test))

-- both refusals 19 are one
links_tests : (s : Sheet) → judge_links s ≡ first (BadRoot if not (rooted s) ∷ NotOrientable if not (acyclic s && poles s) ∷ NotPlanar if not (planar s) ∷ [])
unfolding judge_by first
links_tests s = by_bool (acyclic s) (λ a. rw a refl) (λ a. rw a refl)

-- of links: where some choice of directions is good, these are
unfoldable pub Best : Form → Sheet → Type 0
Best Directed s = Unit {0}
Best Undirected s = Orientable s → Bipolar s

pub judged_first : (form : Form) (s : Sheet) → Lined s → Best form s → First (after_last form s) (answer_number (judge_of form s))
unfolding judge_of judge_by Best
judged_first Directed s x b = first_number (wires_agree s x)
judged_first Undirected s x best = subst (λ a. First (after_last Undirected s) (answer_number a)) (sym (links_tests s)) (first_number (links_agree s x best))

-- the directions leave the vertices as many
pub directed_vertices : (form : Form) (s : Sheet) → (directed form s).vertices ≡ s.vertices
unfolding directed
directed_vertices Directed s = refl
directed_vertices Undirected s = (oriented_counts s).0

-- and are good where some are
pub directed_best : (form : Form) (s : Sheet) → Edged s s.edges → Best form (directed form s)
unfolding directed Best
directed_best Directed s E = tt
directed_best Undirected s E = λ O. (oriented_law s E.limits E.joins).0 (orientable_choice (oriented_choice s (omega (arith, E.limits.edges_least))) O)

-- the rings don't matter to that
pub nexts_same : (s : Sheet) (nexts : List ℕ) → 1 ≤ s.edges → SameWires s (with_nexts s nexts)
unfolding with_nexts
nexts_same s nexts some = record { some = some; vertices = refl; edges = refl; tails = λ k h. refl; heads = λ k h. refl }

pub best_same : (form : Form) (s t : Sheet) → SameWires s t → Best form s → Best form t
unfolding Best
best_same Directed s t S b = tt
best_same Undirected s t S best = λ O. same_bipolar S (best (orientable_choice (same_choice S) O))

-- ---- the lines

-- the sheet of all lines is described by them
module _ (s : Sheet) (E : Edged s s.edges) (tails heads : List ℕ) (S : Said s s.edges tails heads) where
  pub described : (rings : List (List ℕ)) (nexts : List ℕ) → length rings ≡ s.vertices → Ringed s rings nexts → Describes s.vertices tails heads rings (with_nexts s nexts)
  unfolding with_nexts
  described rings nexts full R = record {
    sized = whole_sized s E rings nexts full R;
    vertices = refl;
    edges = sym S.tail_count;
    its_tails = λ k h. S.its_tails k (omega (arith, S.tail_count));
    its_heads = λ k h. S.its_heads k (omega (arith, S.tail_count));
    its_nexts = λ v w y d e h a c o. laid_after s tails heads S E.joins (R.laid v (omega arith)) a c o;
    unused = record { tails = E.tails; heads = E.heads; nexts = R.unused };
  }

-- what a load hands back
unfoldable pub result : Sheet → Parsed → Result
result present p = record { number = answer_number p; sheet = (returned present p).sheet; taken = (returned present p).taken }

-- ---- the directions

-- the first m entries
abbrev pub front : ℕ → List ℕ → List ℕ
front m l = take m l

-- the sheet of the edges that are read, with its directions: what the lines say of it then
record Directing (form : Form) (s : Sheet) (tails heads : List ℕ) : Type 0 where
  directions : Directions form s.vertices tails heads (front (directed form s).edges (directed form s).tails) (front (directed form s).edges (directed form s).heads)
  said : Said (directed form s) (directed form s).edges (front (directed form s).edges (directed form s).tails) (front (directed form s).edges (directed form s).heads)

-- lists of a record's wires have its wires
pub only_same : (s : Sheet) (tails heads : List ℕ) → 1 ≤ s.edges → Said s s.edges tails heads → SameWires s (edges_only s.vertices tails heads)
only_same s tails heads some S = record {
  some = some;
  vertices = refl;
  edges = S.tail_count;
  tails = λ k h. sym (S.its_tails k h);
  heads = λ k h. sym (S.its_heads k h);
}

module _ (s : Sheet) (E : Edged s s.edges) (tails heads : List ℕ) (S : Said s s.edges tails heads) where
  some : 1 ≤ s.edges
  some = omega (arith, E.limits.edges_least)

  links_chosen : (t : Sheet) → Choice s t → (Orientable s → Bipolar t) → Said t t.edges (front t.edges t.tails) (front t.edges t.heads)
      → Chosen s.vertices tails heads (front t.edges t.tails) (front t.edges t.heads)
  links_chosen t C good T =
      let L : SameWires s (edges_only s.vertices tails heads) = only_same s tails heads some S in
      let M : SameWires t (edges_only t.vertices (front t.edges t.tails) (front t.edges t.heads)) = only_same t _ _ (omega (arith, some, C.edges)) T in
      let (choice, best) = subst (λ n. Choice (edges_only s.vertices tails heads) (edges_only n (front t.edges t.tails) (front t.edges t.heads))
      × (Orientable (edges_only s.vertices tails heads) → Bipolar (edges_only n (front t.edges t.tails) (front t.edges t.heads)))) C.vertices
      (choice_trans (choice_sym (same_choice L)) (choice_trans C (same_choice M)), λ O. same_bipolar M (good (orientable_choice (same_choice L) O))) in
      record { choice = choice; good = best }

  directing : (form : Form) → length heads ≡ length tails → Directing form s tails heads
  unfolding directed Directions
  directing Directed same = record {
    directions = (front_is s.tails tails s.edges (omega (arith, E.sized.tails, E.limits.edges_most)) S.tail_count S.its_tails, front_is s.heads heads s.edges (omega (arith, E.sized.heads, E.limits.edges_most)) (same ∙ S.tail_count) S.its_heads);
    said = said_front s E.sized E.limits.edges_most;
  }
  directing Undirected same =
      let (_, m) = oriented_counts s in
      let C : Choice s (oriented s) = oriented_choice s some in
      let law = oriented_law s E.limits E.joins in
      let T = said_front (oriented s) (oriented_sized s E.sized E.limits.edges_most) (omega (arith, m, E.limits.edges_most)) in
      record {
        directions = links_chosen (oriented s) C law.0 T;
        said = T;
      }

module _ (form : Form) (text : List ℕ) (present : Sheet) where
  last_answered : (n : ℕ) (tails heads : List ℕ) (rings : List (List ℕ)) (s : Sheet) (at : ℕ) → length rings ≡ n → Describes n tails heads rings s → Lined s → Best form s
      → AroundLines form text present (result present (judged form s at)) n tails heads rings at
  unfolding result judged returned answering answer_number
  last_answered n tails heads rings s at z D x best = go (judge_of form s) refl
    where
      falls : (a : Answer) → judge_of form s ≡ a → First (after_last form s) (answer_number a)
      falls a e = subst (λ b. First (after_last form s) (answer_number b)) e (judged_first form s x best)

      go : (a : Answer) → judge_of form s ≡ a → AroundLines form text present (result present (answering a (λ _. record { sheet = s; taken = at }))) n tails heads rings at
      go (Ok u) e = accepted_last z D (falls (Ok u) e) refl
      go (Err r) e = refused_last z D (falls (Err r) e) (refusal_nonzero r) refl

  module _ (s : Sheet) (E : Edged s s.edges) (tails heads : List ℕ) (S : Said s s.edges tails heads) (best : Best form s) where
    rings_answered : (r : ℕ) (rings : List (List ℕ)) (nexts : List ℕ) (v at : ℕ) → length rings ≡ v → v + r ≡ s.vertices → Ringed s rings nexts
        → AroundLines form text present (result present (ring_lines form r text (with_nexts s nexts) v at)) s.vertices tails heads rings at
    unfolding ring_lines with_nexts is_rotation touches_of result returned answer_number refusal_number
    rings_answered zero rings nexts v at z e R =
        let full : length rings ≡ s.vertices = omega arith in
        let same : SameWires s (with_nexts s nexts) = nexts_same s nexts (omega (arith, E.limits.edges_least)) in
        last_answered s.vertices tails heads rings (with_nexts s nexts) at full (described s E tails heads S rings nexts full R) (whole_lined s E rings nexts full R) (best_same form s (with_nexts s nexts) same best)
    rings_answered (suc r) rings nexts v at z e R = some_shaped (line_reads around_key text at) Answered _ _ (λ f. no_around (omega arith) f refl) (λ ws after L.
        pick_each Answered (is_rotation s v ws) _ _
        (λ t. let A = (around_law s v ws).0 t in
        around (omega arith) L (rw z (around_its s tails heads S A))
        (rw (link_anew s v (get_or ws 0 0) nexts ws nexts)
        (rings_answered r (rings ++ ws ∷ []) (link_ring s v ws nexts) (v + 1) after (omega (arith, length-append rings (ws ∷ []))) (omega arith) (ring_read s E rings v ws nexts z R A))))
        (λ t. bad_around (omega arith) L (λ W. false≢true (sym t ∙ (around_law s v ws).1 (its_around s tails heads S (rw z at W)))) refl))
      where
        Answered : Parsed → Type 0
        Answered p = AroundLines form text present (result present p) s.vertices tails heads rings at

  edges_answered : (r : ℕ) (s : Sheet) (k at : ℕ) (tails heads : List ℕ) → k + r ≡ s.edges → Edged s k → Said s k tails heads → length heads ≡ length tails
      → EdgeLines form text present (result present (edge_lines form r text s k at)) s.vertices s.edges tails heads at
  unfolding edge_lines with_edge with_nexts result returned answer_number refusal_number
  edges_answered zero s k at tails heads e E S same =
      let q : k ≡ s.edges = omega arith in
      let t : Sheet = directed form s in
      let whole : Edged s s.edges = subst (Edged s) q E in
      let D : Directing form s tails heads = directing s whole tails heads (subst (λ i. Said s i tails heads) q S) form same in
      let F : Edged t t.edges = directed_edged form s whole in
      last_edge (S.tail_count ∙ q) D.directions
      (subst (λ n. AroundLines form text present (result present (ring_lines form t.vertices text t 0 at)) n (front t.edges t.tails) (front t.edges t.heads) [] at) (directed_vertices form s)
      (rings_answered t F (front t.edges t.tails) (front t.edges t.heads) D.said (directed_best form s whole) t.vertices [] t.nexts 0 at refl (omega arith) (none_ringed t t.edges F)))
  edges_answered (suc r) s k at tails heads e E S same = two_shaped (line_reads (edge_key form) text at) Answered _ _ (λ f. no_edge short f refl) (λ a b after L.
      pick_each Answered (ltb a s.vertices && ltb b s.vertices && not (eqb a b)) _ _
      (λ t. let ((l, m), n) = (edge_says s a b).0 t in
      edge short L (edge_good s.vertices a b ((l, m), n))
      (edges_answered r (with_edge s k a b) (k + 1) after (tails ++ a ∷ []) (heads ++ b ∷ []) (omega arith) (edge_read s k a b E (omega arith) l m n)
      (said_more s k a b tails heads (omega (arith, E.sized.tails, E.limits.edges_most)) (omega (arith, E.sized.heads, E.limits.edges_most)) (same ∙ S.tail_count) S) (omega (arith, length-append tails (a ∷ []), length-append heads (b ∷ [])))))
      (λ t. bad_edge short L (edge_bad s.vertices a b (λ w. false≢true (sym t ∙ (edge_says s a b).1 w))) refl))
    where
      Answered : Parsed → Type 0
      Answered p = EdgeLines form text present (result present p) s.vertices s.edges tails heads at

      short : length tails < s.edges
      short = omega (arith, S.tail_count)

-- a count within its limits, or outside
pub within : (most n : ℕ) → leb 2 n && leb n most ≡ true → (2 ≤ n) × (n ≤ most)
within most n t = (and_says (le_says 2 n) (le_says n most)).0 t

pub not_within : (most n : ℕ) → leb 2 n && leb n most ≡ false → Outside most n
not_within most n t = by_cases (dec_le 2 n)
    (λ l. by_cases (dec_le n most) (λ m. absurd (false≢true (sym t ∙ (and_says (le_says 2 n) (le_says n most)).1 (l, m)))) (λ m. inr (omega arith)))
    (λ l. inl (omega arith))

pub inside : (most n : ℕ) → (2 ≤ n) × (n ≤ most) → ¬ Outside most n
inside most n (l, m) (inl q) = omega arith
inside most n (l, m) (inr q) = omega arith

module _ (form : Form) (text : List ℕ) (present : Sheet) where
  wires_answered : (n at : ℕ) → (2 ≤ n) × (n ≤ 128)
      → WiresLine form text present (result present (with_count (line_at wires_key text at) 256 (λ m after. edge_lines form m text (empty_sheet n m) 0 after))) n at
  unfolding with_count result returned answer_number refusal_number empty_sheet
  wires_answered n at (a, b) = one_shaped (line_reads wires_key text at) Answered _ _ (λ f. no_wires f refl) (λ m after L.
      pick_each Answered (leb 2 m && leb m 256) _ _
      (λ t. let (c, d) = within 256 m t in
      wires L (inside 256 m (c, d)) (edges_answered form text present m (empty_sheet n m) 0 after [] [] (omega arith) (empty_read n m a b c d) (none_said (empty_sheet n m)) refl))
      (λ t. bad_wires L (not_within 256 m t) refl))
    where
      Answered : Parsed → Type 0
      Answered p = WiresLine form text present (result present p) n at

  pub bars_answered : BarsLine form text present (result present (load_lines form text)) 0
  unfolding load_lines with_count result returned answer_number refusal_number
  bars_answered = one_shaped (line_reads bars_key text 0) Answered _ _ (λ f. no_bars f refl) (λ n after L.
      pick_each Answered (leb 2 n && leb n 128) _ _
      (λ t. bars L (inside 128 n (within 128 n t)) (wires_answered n after (within 128 n t)))
      (λ t. bad_bars L (not_within 128 n t) refl))
    where
      Answered : Parsed → Type 0
      Answered p = BarsLine form text present (result present p) 0

pub load_answered : LoadAnsweredLaw
unfolding load_from returned answer_number result
load_answered form [] present = no_bytes (omega arith) refl
load_answered form (b ∷ text) present = some_bytes (omega arith) (bars_answered form (b ∷ text) present)
