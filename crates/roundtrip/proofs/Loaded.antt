-- What load and the load of links accept is sound. Assumes nothing.
use Rattle.std.proofs.Common.{Ok, Err, ◌≡◌, ◌↔◌, refl, ap, ◌∙◌, subst, ◌≢◌, Bool, true, false, ◌&&◌, List, [], ◌∷◌, ◌++◌, ℕ, zero, suc, ◌+◌, ◌≤◌, ◌<◌, arith, leb, get_or, length, set, length-set, length-append, get_or-set_same, get_or-set_other}
use Rattle.std.proofs.Math.Logic.{by_cases}
use Rattle.std.proofs.Math.Decide.{ℕ_discrete}
use Rattle.std.proofs.Math.ListN.{get_or-append, length-replicate}
use Rattle.std.proofs.Math.Seq.{get_or_at}
use Rattle.clauses.specs.Darts.{touches_of, dart_of}
use Rattle.counting.specs.Choice.{pick}
use Rattle.counting.proofs.Stores.{replicate_at}
use Rattle.text.specs.Reading.{line_at}
use Rattle.layout.proofs.Shapes.{line_reads, one_shaped, two_shaped, some_shaped}
use Rattle.clauses.specs.declared.Sheet.{Sheet}
use Rattle.answers.specs.Answers.{Answer}
use Rattle.answers.specs.Refusals.{answering}
use Rattle.sheet.specs.Darts.{Sized, tail, head, darts, next}
use Rattle.sheet.specs.Sound.{Limits, Joins, Sound}
use Rattle.sheet.specs.Check.{sound}
use Rattle.soundness.proofs.Tests.{le_says, and_says}
use Rattle.soundness.specs.Laws.{Lined}
use Rattle.soundness.proofs.Clauses.{limits_law, joined_law, unused_law, edge_says}
use Rattle.soundness.proofs.Rings.{rings_law}
use Rattle.soundness.proofs.Judge.{judge_law}
use Rattle.soundness.proofs.Law.{sound_law}
use Rattle.soundness.proofs.Fresh.{fresh_law, fresh_sized}
use Rattle.load.specs.Rings.{is_rotation, link_ring}
use Rattle.text.specs.Keys.{bars_key, wires_key, around_key}
use Rattle.orientation.proofs.Choices.{directs_joins}
use Rattle.orientation.proofs.Choosing.{oriented_counts, oriented_nexts, oriented_sized, oriented_past, oriented_directs}
use Rattle.load.specs.declared.Form.{Form}
use Rattle.load.specs.declared.Form.TheVariants.{Directed, Undirected}
use Rattle.load.specs.Load.{Parsed, empty_sheet, with_edge, with_nexts, edge_key, directed, judge_of, judged, ring_lines, edge_lines, with_count, load_lines, load_from}
use Rattle.roundtrip.specs.Laws.{LoadedSound}
use Rattle.roundtrip.proofs.Around.{Around, around_law}
use Rattle.soundness.proofs.Ends.{at_below}
use Rattle.roundtrip.proofs.Linking.{link_length, link_anew, link_other}
use Rattle.roundtrip.proofs.Laid.{Laid, link_lays, link_keeps, laid_ring}

-- a choice, whichever it is
pub pick_each : {A : Type 0} (P : A → Type 0) (b : Bool) (x y : Unit {0} → A) → (b ≡ true → P (x tt)) → (b ≡ false → P (y tt)) → P (pick b x y)
pick_each P true x y f g = f refl
pick_each P false x y f g = g refl

-- what is parsed is a sound sheet
abbrev Good : Parsed → Type 0
Good (Ok l) = Sized l.sheet × Sound l.sheet
Good (Err r) = Unit {0}

-- ---- the wires

-- the wires below k are read
pub record Edged (s : Sheet) (k : ℕ) : Type 0 where
  pub limits : Limits s
  pub sized : Sized s
  pub joins : (i : ℕ) → i < k → Joins s i
  pub tails : (i : ℕ) → k ≤ i → tail s i ≡ 0
  pub heads : (i : ℕ) → k ≤ i → head s i ≡ 0
  pub nexts : (d : ℕ) → next s d ≡ 0

pub edge_read : (s : Sheet) (k a b : ℕ) → Edged s k → k < s.edges → a < s.vertices → b < s.vertices → a ≢ b → Edged (with_edge s k a b) (k + 1)
unfolding with_edge
edge_read s k a b E h l m n = record {
  limits = omega (arith, E.limits);
  sized = record {
    tails = length-set s.tails k a ∙ E.sized.tails;
    heads = length-set s.heads k b ∙ E.sized.heads;
    nexts = E.sized.nexts;
  };
  joins = λ i j. by_cases (ℕ_discrete i k) (λ e. rw e here) (λ e. there i (omega arith) e);
  tails = λ i j. get_or-set_other s.tails k i a 0 (omega arith) ∙ E.tails i (omega arith);
  heads = λ i j. get_or-set_other s.heads k i b 0 (omega arith) ∙ E.heads i (omega arith);
  nexts = E.nexts;
}
  where
    here : Joins (with_edge s k a b) k
    here =
        let t : get_or (set s.tails k a) k 0 ≡ a = get_or-set_same s.tails k a 0 (omega (arith, E.sized.tails, E.limits.edges_most)) in
        let u : get_or (set s.heads k b) k 0 ≡ b = get_or-set_same s.heads k b 0 (omega (arith, E.sized.heads, E.limits.edges_most)) in
        record { tail_in = rw t l; head_in = rw u m; different = rw (t, u) n }

    there : (i : ℕ) → i < k → i ≢ k → Joins (with_edge s k a b) i
    there i j e =
        let t : get_or (set s.tails k a) i 0 ≡ tail s i = get_or-set_other s.tails k i a 0 e in
        let u : get_or (set s.heads k b) i 0 ≡ head s i = get_or-set_other s.heads k i b 0 e in
        let J = E.joins i j in
        record { tail_in = rw t J.tail_in; head_in = rw u J.head_in; different = rw (t, u) J.different }

-- ---- the rings

-- both loads pass the sheets that are sound
pub passes_law : (form : Form) (s : Sheet) → Lined s → judge_of form s ≡ Ok tt ↔ sound s ≡ true
unfolding judge_of
passes_law Directed s l = judge_law _ _ s l
passes_law Undirected s l = judge_law _ _ s l

-- after the last line
judged_good : (form : Form) (s : Sheet) (at : ℕ) → Sized s → Lined s → Good (judged form s at)
unfolding judged answering
judged_good form s at z l = go (judge_of form s) refl
  where
    go : (a : Answer) → judge_of form s ≡ a → Good (answering a (λ _. record { sheet = s; taken = at }))
    go (Ok u) e = (z, (sound_law s z).0 ((passes_law form s l).0 e))
    go (Err r) e = tt

-- the rings of the first bars are read, one after the other
pub record Ringed (s : Sheet) (rings : List (List ℕ)) (nexts : List ℕ) : Type 0 where
  pub sized : length nexts ≡ 512
  pub laid : (u : ℕ) → u < length rings → Laid s u nexts (get_or rings u [])
  pub unused : (d : ℕ) → darts s ≤ d → get_or nexts d 0 ≡ 0

module _ (s : Sheet) (E : Edged s s.edges) where
  pub ring_read : (rings : List (List ℕ)) (v : ℕ) (ws nexts : List ℕ) → length rings ≡ v → Ringed s rings nexts → Around s v ws → Ringed s (rings ++ ws ∷ []) (link_ring s v ws nexts)
  ring_read rings v ws nexts z R A = record {
    sized = link_length s v (get_or ws 0 0) ws nexts ∙ R.sized;
    laid = λ u h. by_cases (ℕ_discrete u v)
        (λ e. rw (e, get_or_at rings ws [] [] v z) (link_lays s v ws nexts A (omega (arith, R.sized, E.limits.edges_most))))
        (λ n. let l : u < length rings = omega (arith, length-append rings (ws ∷ [])) in
        rw (get_or-append rings (ws ∷ []) [] u l) (link_keeps s u v ws nexts (get_or rings u []) A n (R.laid u l)));
    unused = λ d h. link_other s v (get_or ws 0 0) ws nexts d (λ i l. omega (arith, at_below s (get_or ws i 0) v (A.inside i l))) ∙ R.unused d h;
  }

  -- all lines are read: the sheet with these next-ends
  module _ (rings : List (List ℕ)) (nexts : List ℕ) (full : length rings ≡ s.vertices) (R : Ringed s rings nexts) where
    pub whole_sized : Sized (with_nexts s nexts)
    unfolding with_nexts
    whole_sized = record { tails = E.sized.tails; heads = E.sized.heads; nexts = R.sized }

    pub whole_joins : (k : ℕ) → k < (with_nexts s nexts).edges → Joins (with_nexts s nexts) k
    unfolding with_nexts
    whole_joins k h = let J = E.joins k h in record { tail_in = J.tail_in; head_in = J.head_in; different = J.different }

    pub whole_laid : (v : ℕ) → v < s.vertices → Laid (with_nexts s nexts) v (with_nexts s nexts).nexts (get_or rings v [])
    unfolding with_nexts touches_of dart_of
    whole_laid v h = let L = R.laid v (omega arith) in let A = L.around in record {
      around = record { distinct = A.distinct; inside = A.inside; touching = A.touching; all = A.all };
      follows = L.follows;
    }

    pub whole_lined : Lined (with_nexts s nexts)
    unfolding with_nexts
    whole_lined = let l = E.limits in record {
      limits = (limits_law (with_nexts s nexts)).1 (omega arith);
      joins = (joined_law (with_nexts s nexts)).1 whole_joins;
      rings = (rings_law (with_nexts s nexts) whole_joins l.edges_most).1 (λ v h. laid_ring (with_nexts s nexts) v (get_or rings v []) (whole_laid v h) whole_joins);
      unused = (unused_law (with_nexts s nexts) whole_sized).1 (record { tails = E.tails; heads = E.heads; nexts = R.unused });
    }

  rings_good : (form : Form) (text : List ℕ) (r : ℕ) (rings : List (List ℕ)) (nexts : List ℕ) (v at : ℕ) → length rings ≡ v → v + r ≡ s.vertices → Ringed s rings nexts
      → Good (ring_lines form r text (with_nexts s nexts) v at)
  unfolding ring_lines with_nexts is_rotation touches_of
  rings_good form text zero rings nexts v at z e R =
      let full : length rings ≡ s.vertices = omega arith in
      judged_good form (with_nexts s nexts) at (whole_sized rings nexts full R) (whole_lined rings nexts full R)
  rings_good form text (suc r) rings nexts v at z e R = some_shaped (line_reads around_key text at) Good _ _ (λ _. tt) (λ ws next _.
      pick_each Good (is_rotation s v ws) _ _
      (λ t. rw (link_anew s v (get_or ws 0 0) nexts ws nexts) (rings_good form text r (rings ++ ws ∷ []) (link_ring s v ws nexts) (v + 1) next (omega (arith, length-append rings (ws ∷ []))) (omega arith) (ring_read rings v ws nexts z R ((around_law s v ws).0 t))))
      (λ _. tt))

-- no ring is read yet
pub none_ringed : (s : Sheet) (k : ℕ) → Edged s k → Ringed s [] s.nexts
none_ringed s k E = record { sized = E.sized.nexts; laid = λ u h. absurd (omega arith); unused = λ d h. E.nexts d }

-- the edges are read, and have their directions
pub directed_edged : (form : Form) (s : Sheet) → Edged s s.edges → Edged (directed form s) (directed form s).edges
unfolding directed
directed_edged Directed s E = E
directed_edged Undirected s E =
    let (vertices, edges) = oriented_counts s in
    let past = λ (k : ℕ) (h : s.edges ≤ k). oriented_past s k h in
    record {
      limits = omega (arith, E.limits, vertices, edges);
      sized = oriented_sized s E.sized E.limits.edges_most;
      joins = λ k h. (let l : k < s.edges = omega (arith, edges) in directs_joins vertices (oriented_directs s k l) (E.joins k l));
      tails = λ k h. (past k (omega (arith, edges))).0;
      heads = λ k h. (past k (omega (arith, edges))).1;
      nexts = λ d. ap (λ l. get_or l d 0) (oriented_nexts s) ∙ E.nexts d;
    }

-- ---- the whole text

edges_good : (form : Form) (text : List ℕ) (r : ℕ) (s : Sheet) (k at : ℕ) → k + r ≡ s.edges → Edged s k → Good (edge_lines form r text s k at)
unfolding edge_lines with_edge with_nexts
edges_good form text zero s k at e E =
    let t : Sheet = directed form s in
    let whole : Edged t t.edges = directed_edged form s (subst (Edged s) (omega arith) E) in
    rings_good t whole form text t.vertices [] t.nexts 0 at refl (omega arith) (none_ringed t t.edges whole)
edges_good form text (suc r) s k at e E = two_shaped (line_reads (edge_key form) text at) Good _ _ (λ _. tt) (λ a b next _.
    pick_each Good _ _ _
    (λ t. let ((l, m), n) = (edge_says s a b).0 t in edges_good form text r (with_edge s k a b) (k + 1) next (omega arith) (edge_read s k a b E (omega arith) l m n))
    (λ _. tt))

pub empty_read : (n m : ℕ) → 2 ≤ n → n ≤ 128 → 2 ≤ m → m ≤ 256 → Edged (empty_sheet n m) 0
unfolding empty_sheet
empty_read n m a b c d = record {
  limits = omega arith;
  sized = record { tails = length-replicate {A = ℕ} 256 0; heads = length-replicate {A = ℕ} 256 0; nexts = length-replicate {A = ℕ} 512 0 };
  joins = λ i h. absurd (omega arith);
  tails = λ i h. replicate_at 0 256 i;
  heads = λ i h. replicate_at 0 256 i;
  nexts = replicate_at 0 512;
}

count_good : (key text : List ℕ) (at most : ℕ) (good : ℕ → ℕ → Parsed) → ((n next : ℕ) → 2 ≤ n → n ≤ most → Good (good n next)) → Good (with_count (line_at key text at) most good)
unfolding with_count
count_good key text at most good f = one_shaped (line_reads key text at) Good _ _ (λ _. tt) (λ n next _.
    pick_each Good (leb 2 n && leb n most) _ _ (λ t. let (l, m) = (and_says (le_says 2 n) (le_says n most)).0 t in f n next l m) (λ _. tt))

lines_good : (form : Form) (text : List ℕ) → Good (load_lines form text)
unfolding load_lines empty_sheet
lines_good form text = count_good bars_key text 0 128 _ (λ n next a b.
    count_good wires_key text next 256 _ (λ m after c d.
    edges_good form text m (empty_sheet n m) 0 after (omega arith) (empty_read n m a b c d)))

-- no bytes give the fresh sheet
load_good : (form : Form) (text : List ℕ) → Good (load_from form text)
unfolding load_from
load_good form [] = (fresh_sized, fresh_law)
load_good form (b ∷ text) = lines_good form (b ∷ text)

pub loaded_sound : LoadedSound
loaded_sound form text l e = go (load_from form text) (load_good form text) e
  where
    go : (p : Parsed) → Good p → p ≡ Ok l → Sized l.sheet × Sound l.sheet
    go (Ok m) g e = subst Good e g
    go (Err r) g e = cc e
