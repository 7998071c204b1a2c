-- No answer but load's is as laid down, and of links none but those with its number that take as many bytes. Assumes nothing.
use Rattle.std.proofs.Common.{Ok, Err, ◌≡◌, ◌↔◌, refl, sym, ◌∙◌, ap, subst, not, ◌&&◌, List, [], ◌∷◌, ◌++◌, ℕ, zero, suc, ◌+◌, ◌≤◌, ◌<◌, arith, eqb, ltb, leb, get_or, length, length-append}
use Rattle.std.proofs.lemmas.Bool.{false≢true}
use Rattle.clauses.specs.Darts.{touches_of}
use Rattle.text.specs.Reading.{line_at}
use Rattle.text.specs.Keys.{bars_key, wires_key, around_key}
use Rattle.answers.specs.Answers.{Answer, refusal_number, answer_number}
use Rattle.answers.specs.Refusals.{answering}
use Rattle.answers.specs.Clauses.{First}
use Rattle.answers.proofs.Clauses.{first_once, first_matched}
use Rattle.answers.proofs.Clauses.Matched.{no_more, before}
use Rattle.answers.proofs.Refusals.{refusal_nonzero}
use Rattle.clauses.specs.declared.Sheet.{Sheet}
use Rattle.sheet.specs.Sound.{Joins}
use Rattle.orientation.specs.Links.{Choice}
use Rattle.orientation.specs.Ears.{oriented}
use Rattle.orientation.proofs.Choosing.{oriented_counts, oriented_choice}
use Rattle.orientation.proofs.Choices.{choice_refl, choice_sym, choice_trans, directs_joins, orientable_choice, same_choice}
use Rattle.load.specs.Rings.{is_rotation, link_ring}
use Rattle.load.specs.declared.Form.{Form}
use Rattle.load.specs.declared.Form.TheVariants.{Directed, Undirected}
use Rattle.load.specs.Load.{Parsed, empty_sheet, with_edge, with_nexts, edge_key, judge_of, judged, ring_lines, edge_lines, with_count, load_lines, load_from, returned, directed}
use Rattle.roundtrip.proofs.Around.{around_law}
use Rattle.roundtrip.proofs.Linking.{link_anew}
use Rattle.roundtrip.proofs.Loaded.{pick_each, Edged, edge_read, empty_read, Ringed, ring_read, none_ringed, directed_edged, whole_joins, whole_laid, whole_lined}
use Rattle.acceptance.specs.Loading.{Result, edges_only, refusal, acceptance, Directions, Describes, after_last, AroundLines, EdgeLines, WiresLine, BarsLine, LoadAnswered}
use Rattle.acceptance.specs.Loading.AroundLines.{no_around, bad_around, around, refused_last, accepted_last}
use Rattle.acceptance.specs.Loading.EdgeLines.{no_edge, bad_edge, edge, last_edge}
use Rattle.acceptance.specs.Loading.WiresLine.{no_wires, bad_wires, wires}
use Rattle.acceptance.specs.Loading.BarsLine.{no_bars, bad_bars, bars}
use Rattle.acceptance.specs.Loading.LoadAnswered.{no_bytes, some_bytes}
use Rattle.acceptance.specs.Laws.{AnsweredOnce, LinksAnsweredOnce}
use Rattle.layout.proofs.Shapes.{line_reads, one_none, one_read, two_none, two_read, some_none, some_read}
use Rattle.acceptance.proofs.Said.{Said, none_said, said_more, edge_bad, edge_good, around_its}
use Rattle.acceptance.proofs.Answered.{result, Best, directed_vertices, directed_best, nexts_same, best_same, judged_first, only_same, described, within, not_within, inside}
use Rattle.acceptance.proofs.Described.{described_laid, described_once}
use Rattle.acceptance.proofs.Turning.{choice_its, its_choice, SameRings, same_rings_sym, same_rings_euler}
use Rattle.soundness.proofs.Clauses.{edge_says}

-- ---- where the two loads differ

-- what the lists of tails and heads are to the sheet of the edges: its own, or of links those of another choice of directions
unfoldable Named : Form → Sheet → (tails heads : List ℕ) → Type 0
Named Directed s tails heads = Said s s.edges tails heads
Named Undirected s tails heads = Choice s (edges_only s.vertices tails heads)

-- what our sheet is to one that the lines describe
unfoldable Same : Form → (ours theirs : Sheet) → Type 0
Same Directed s t = t ≡ s
Same Undirected s t = SameRings s t

-- what an answer is to ours
unfoldable Alike : Form → (theirs ours : Result) → Type 0
Alike Directed r q = r ≡ q
Alike Undirected r q = (r.number ≡ q.number) × (r.taken ≡ q.taken) × Choice q.sheet r.sheet

alike : (form : Form) {r q : Result} → r ≡ q → Alike form r q
unfolding Alike
alike Directed e = e
alike Undirected {r} {q} e = (ap (λ x. x.number) e, ap (λ x. x.taken) e, subst (λ x. Choice q.sheet x.sheet) (sym e) (choice_refl q.sheet))

accepted_alike : (form : Form) (s t : Sheet) → Same form s t → (at : ℕ) {r : Result} → r ≡ acceptance t at → Alike form r (acceptance s at)
unfolding Same Alike
accepted_alike Directed s t S at e = e ∙ ap (λ x. acceptance x at) S
accepted_alike Undirected s t S at e = (ap (λ x. x.number) e, ap (λ x. x.taken) e, subst (λ x. Choice s x.sheet) (sym e) S.choice)

-- the same number falls after the last line
neither : {p q : Type 0} → p ↔ q → ¬ p ↔ ¬ q
neither e = (λ n x. n (e.1 x), λ n x. n (e.0 x))

falls_alike : (form : Form) (s t : Sheet) → Same form s t → (number : ℕ) → First (after_last form t) number → First (after_last form s) number
unfolding Same after_last
falls_alike Directed s t S number f = subst (λ x. First (after_last Directed x) number) S f
falls_alike Undirected s t S number f =
    let C : Choice s t = S.choice in
    first_matched (
    before (neither ((λ (a, b). (sym C.root_tail ∙ a, sym C.root_head ∙ b)), (λ (a, b). (C.root_tail ∙ a, C.root_head ∙ b)))) (
    before (neither (orientable_choice C, orientable_choice (choice_sym C))) (
    before (neither (same_rings_euler (same_rings_sym S)))
    no_more))) number f

named_choice : (form : Form) (s : Sheet) (tails heads : List ℕ) → 1 ≤ s.edges → Named form s tails heads → Choice s (edges_only s.vertices tails heads)
unfolding Named
named_choice Directed s tails heads some S = same_choice (only_same s tails heads some S)
named_choice Undirected s tails heads some C = C

directions_named : (form : Form) (s : Sheet) → 1 ≤ s.edges → (firsts seconds : List ℕ) → Said s s.edges firsts seconds → (tails heads : List ℕ)
    → Directions form s.vertices firsts seconds tails heads → Named form (directed form s) tails heads
unfolding Named Directions directed
directions_named Directed s some firsts seconds S tails heads (et, eh) = rw (et, eh) S
directions_named Undirected s some firsts seconds S tails heads D =
    subst (λ n. Choice (oriented s) (edges_only n tails heads)) (sym (oriented_counts s).0)
    (choice_trans (choice_sym (oriented_choice s some)) (choice_trans (same_choice (only_same s firsts seconds some S)) D.choice))

module _ (s : Sheet) (E : Edged s s.edges) (tails heads : List ℕ) where
  some : 1 ≤ s.edges
  some = omega (arith, E.limits.edges_least)

  module _ (rings : List (List ℕ)) (nexts : List ℕ) (full : length rings ≡ s.vertices) (R : Ringed s rings nexts) (t : Sheet) (D : Describes s.vertices tails heads rings t) where
    -- the lines describe one sheet
    wires_same : Said s s.edges tails heads → t ≡ with_nexts s nexts
    wires_same S = described_once
        (λ k h. subst (λ a. a < s.vertices) (S.its_tails k (omega (arith, S.tail_count))) (E.joins k (omega (arith, S.tail_count))).tail_in)
        (λ k h. subst (λ a. a < s.vertices) (S.its_heads k (omega (arith, S.tail_count))) (E.joins k (omega (arith, S.tail_count))).head_in)
        (λ v h. around_its s tails heads S (R.laid v (omega arith)).around)
        t (with_nexts s nexts) D (described s E tails heads S rings nexts full R)

    -- of links, sheets that differ in their directions alone
    links_same : Choice s (edges_only s.vertices tails heads) → SameRings (with_nexts s nexts) t
    unfolding with_nexts
    links_same C = record {
      choice = choice_trans ours theirs;
      few = E.limits.edges_most;
      joins = whole_joins s E rings nexts full R;
      wires = λ v. get_or rings v [];
      laid = whole_laid s E rings nexts full R;
      other_laid = λ v h. described_laid D joins v h (choice_its s tails heads C (R.laid v (omega arith)).around);
    }
      where
        ours : Choice (with_nexts s nexts) s
        ours = choice_sym (same_choice (nexts_same s nexts some))

        theirs : Choice s t
        theirs = choice_trans C (same_choice (record { some = omega (arith, some, C.edges); vertices = D.vertices; edges = D.edges; tails = D.its_tails; heads = D.its_heads }))

        joins : (k : ℕ) → k < t.edges → Joins t k
        joins k h = let l : k < s.edges = omega (arith, theirs.edges) in directs_joins theirs.vertices (theirs.directs k l) (E.joins k l)

    ends_same : (form : Form) → Named form s tails heads → Same form (with_nexts s nexts) t
    unfolding Named Same
    ends_same Directed S = wires_same S
    ends_same Undirected C = links_same C

-- ---- the lines

module _ (form : Form) (text : List ℕ) (present : Sheet) (r : Result) where
  abbrev Is : Parsed → Type 0
  Is p = Alike form r (result present p)

  module _ (s : Sheet) (E : Edged s s.edges) (best : Best form s) (tails heads : List ℕ) (N : Named form s tails heads) where
    C : Choice s (edges_only s.vertices tails heads)
    C = named_choice form s tails heads (some s E tails heads) N

    -- after the last line
    module _ (rings : List (List ℕ)) (nexts : List ℕ) (full : length rings ≡ s.vertices) (R : Ringed s rings nexts) (at : ℕ) (t : Sheet) (D : Describes s.vertices tails heads rings t) where
      same : Same form (with_nexts s nexts) t
      same = ends_same s E tails heads rings nexts full R t D form N

      number_is : (number : ℕ) → First (after_last form t) number → number ≡ answer_number (judge_of form (with_nexts s nexts))
      number_is number f =
          first_once (after_last form (with_nexts s nexts)) number _ (falls_alike form (with_nexts s nexts) t same number f)
          (judged_first form (with_nexts s nexts) (whole_lined s E rings nexts full R) (best_same form s (with_nexts s nexts) (nexts_same s nexts (some s E tails heads)) best))

      refused_once : (number : ℕ) → First (after_last form t) number → (number ≡ 0 → ⊥) → r ≡ refusal present number → Is (judged form (with_nexts s nexts) at)
      unfolding judged result returned answering answer_number
      refused_once number f n e = go (judge_of form (with_nexts s nexts)) refl
        where
          go : (a : Answer) → judge_of form (with_nexts s nexts) ≡ a → Is (answering a (λ _. record { sheet = with_nexts s nexts; taken = at }))
          go (Ok u) j = absurd (n (number_is number f ∙ ap answer_number j))
          go (Err q) j = alike form (e ∙ ap (refusal present) (number_is number f ∙ ap answer_number j))

      accepted_once : First (after_last form t) 0 → r ≡ acceptance t at → Is (judged form (with_nexts s nexts) at)
      unfolding judged result returned answering answer_number
      accepted_once f e = go (judge_of form (with_nexts s nexts)) refl
        where
          go : (a : Answer) → judge_of form (with_nexts s nexts) ≡ a → Is (answering a (λ _. record { sheet = with_nexts s nexts; taken = at }))
          go (Ok u) j = accepted_alike form (with_nexts s nexts) t same at e
          go (Err q) j = absurd (refusal_nonzero q (sym (number_is 0 f ∙ ap answer_number j)))

    rings_once : (k : ℕ) (rings : List (List ℕ)) (nexts : List ℕ) (v at : ℕ) → length rings ≡ v → v + k ≡ s.vertices → Ringed s rings nexts
        → AroundLines form text present r s.vertices tails heads rings at → Is (ring_lines form k text (with_nexts s nexts) v at)
    unfolding ring_lines with_nexts is_rotation touches_of result returned answer_number refusal_number
    rings_once zero rings nexts v at z q R (no_around h f e) = absurd (omega arith)
    rings_once zero rings nexts v at z q R (bad_around h L f e) = absurd (omega arith)
    rings_once zero rings nexts v at z q R (around h L W A) = absurd (omega arith)
    rings_once zero rings nexts v at z q R (refused_last {number = number} {s = t} h D f n e) = refused_once rings nexts h R at t D number f n e
    rings_once zero rings nexts v at z q R (accepted_last {s = t} h D f e) = accepted_once rings nexts h R at t D f e
    rings_once (suc k) rings nexts v at z q R (no_around h f e) = some_none (line_reads around_key text at) Is _ _ f (alike form e)
    rings_once (suc k) rings nexts v at z q R (bad_around {ws = ws} h L f e) = some_read (line_reads around_key text at) Is _ _ L (pick_each Is (is_rotation s v ws) _ _
        (λ t. absurd (f (rw z (choice_its s tails heads C ((around_law s v ws).0 t)))))
        (λ t. alike form e))
    rings_once (suc k) rings nexts v at z q R (around {ws = ws} {after = after} h L W A) = some_read (line_reads around_key text at) Is _ _ L (pick_each Is (is_rotation s v ws) _ _
        (λ t. rw (link_anew s v (get_or ws 0 0) nexts ws nexts)
        (rings_once k (rings ++ ws ∷ []) (link_ring s v ws nexts) (v + 1) after (omega (arith, length-append rings (ws ∷ []))) (omega arith) (ring_read s E rings v ws nexts z R ((around_law s v ws).0 t)) A))
        (λ t. absurd (false≢true (sym t ∙ (around_law s v ws).1 (its_choice s tails heads C (rw z at W))))))
    rings_once (suc k) rings nexts v at z q R (refused_last h D f n e) = absurd (omega arith)
    rings_once (suc k) rings nexts v at z q R (accepted_last h D f e) = absurd (omega arith)

  edges_once : (i : ℕ) (s : Sheet) (k at : ℕ) (firsts seconds : List ℕ) → k + i ≡ s.edges → Edged s k → Said s k firsts seconds → length seconds ≡ length firsts
      → EdgeLines form text present r s.vertices s.edges firsts seconds at → Is (edge_lines form i text s k at)
  unfolding edge_lines with_edge with_nexts result returned answer_number refusal_number
  edges_once zero s k at firsts seconds q E S same (no_edge h f e) = absurd (omega (arith, S.tail_count))
  edges_once zero s k at firsts seconds q E S same (bad_edge h L f e) = absurd (omega (arith, S.tail_count))
  edges_once zero s k at firsts seconds q E S same (edge h L f A) = absurd (omega (arith, S.tail_count))
  edges_once zero s k at firsts seconds q E S same (last_edge {tails = tails} {heads = heads} h D A) =
      let p : k ≡ s.edges = omega arith in
      let t : Sheet = directed form s in
      let whole : Edged s s.edges = subst (Edged s) p E in
      let F : Edged t t.edges = directed_edged form s whole in
      let N : Named form t tails heads = directions_named form s (omega (arith, E.limits.edges_least)) firsts seconds (subst (λ i. Said s i firsts seconds) p S) tails heads D in
      rings_once t F (directed_best form s whole) tails heads N t.vertices [] t.nexts 0 at refl (omega arith) (none_ringed t t.edges F)
      (subst (λ n. AroundLines form text present r n tails heads [] at) (sym (directed_vertices form s)) A)
  edges_once (suc i) s k at firsts seconds q E S same (no_edge h f e) = two_none (line_reads (edge_key form) text at) Is _ _ f (alike form e)
  edges_once (suc i) s k at firsts seconds q E S same (bad_edge {a = a} {b} h L f e) = two_read (line_reads (edge_key form) text at) Is _ _ L (pick_each Is (ltb a s.vertices && ltb b s.vertices && not (eqb a b)) _ _
      (λ t. absurd (edge_good s.vertices a b ((edge_says s a b).0 t) f))
      (λ t. alike form e))
  edges_once (suc i) s k at firsts seconds q E S same (edge {a = a} {b} {after} h L f A) = two_read (line_reads (edge_key form) text at) Is _ _ L (pick_each Is (ltb a s.vertices && ltb b s.vertices && not (eqb a b)) _ _
      (λ t. let ((l, m), n) = (edge_says s a b).0 t in
      edges_once i (with_edge s k a b) (k + 1) after (firsts ++ a ∷ []) (seconds ++ b ∷ []) (omega arith) (edge_read s k a b E (omega arith) l m n)
      (said_more s k a b firsts seconds (omega (arith, E.sized.tails, E.limits.edges_most)) (omega (arith, E.sized.heads, E.limits.edges_most)) (same ∙ S.tail_count) S)
      (omega (arith, length-append firsts (a ∷ []), length-append seconds (b ∷ []))) A)
      (λ t. absurd (f (edge_bad s.vertices a b (λ w. false≢true (sym t ∙ (edge_says s a b).1 w))))))
  edges_once (suc i) s k at firsts seconds q E S same (last_edge h D A) = absurd (omega (arith, S.tail_count))

  wires_once : (n at : ℕ) → (2 ≤ n) × (n ≤ 128) → WiresLine form text present r n at
      → Is (with_count (line_at wires_key text at) 256 (λ m after. edge_lines form m text (empty_sheet n m) 0 after))
  unfolding with_count result returned answer_number refusal_number empty_sheet
  wires_once n at w (no_wires f e) = one_none (line_reads wires_key text at) Is _ _ f (alike form e)
  wires_once n at w (bad_wires {m} L o e) = one_read (line_reads wires_key text at) Is _ _ L (pick_each Is (leb 2 m && leb m 256) _ _ (λ t. absurd (inside 256 m (within 256 m t) o)) (λ t. alike form e))
  wires_once n at (a, b) (wires {m} {after} L o A) = one_read (line_reads wires_key text at) Is _ _ L (pick_each Is (leb 2 m && leb m 256) _ _
      (λ t. let (c, d) = within 256 m t in edges_once m (empty_sheet n m) 0 after [] [] (omega arith) (empty_read n m a b c d) (none_said (empty_sheet n m)) refl A)
      (λ t. absurd (o (not_within 256 m t))))

  bars_once : BarsLine form text present r 0 → Is (load_lines form text)
  unfolding load_lines with_count result returned answer_number refusal_number
  bars_once (no_bars f e) = one_none (line_reads bars_key text 0) Is _ _ f (alike form e)
  bars_once (bad_bars {n} L o e) = one_read (line_reads bars_key text 0) Is _ _ L (pick_each Is (leb 2 n && leb n 128) _ _ (λ t. absurd (inside 128 n (within 128 n t) o)) (λ t. alike form e))
  bars_once (bars {n} {after} L o W) = one_read (line_reads bars_key text 0) Is _ _ L (pick_each Is (leb 2 n && leb n 128) _ _ (λ t. wires_once n after (within 128 n t) W) (λ t. absurd (o (not_within 128 n t))))

load_once : (form : Form) (text : List ℕ) (present : Sheet) (r : Result) → LoadAnswered form text present r.number r.sheet r.taken → Alike form r (result present (load_from form text))
unfolding load_from result returned answer_number
load_once form [] present r (no_bytes h e) = alike form e
load_once form [] present r (some_bytes h B) = absurd (omega arith)
load_once form (b ∷ text) present r (no_bytes h e) = absurd (omega arith)
load_once form (b ∷ text) present r (some_bytes h B) = bars_once form (b ∷ text) present r B

pub answered_once : AnsweredOnce
unfolding result Alike
answered_once text present number sheet taken A =
    let e = load_once Directed text present (record { number = number; sheet = sheet; taken = taken }) A in
    (ap (λ q. q.number) e, ap (λ q. q.sheet) e, ap (λ q. q.taken) e)

pub links_answered_once : LinksAnsweredOnce
unfolding result Alike
links_answered_once text present number sheet taken A = load_once Undirected text present (record { number = number; sheet = sheet; taken = taken }) A
