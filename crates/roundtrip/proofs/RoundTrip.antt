-- A written sheet reads back as the same sheet. Assumes nothing.
use Rattle.std.proofs.Common.{◌≡◌, refl, sym, ◌∙◌, ap, subst, true, List, [], ◌∷◌, ◌++◌, ℕ, zero, suc, ◌+◌, ◌≤◌, ◌<◌, arith, lt-ltb, le-leb, ne_eqb, get_or, length, set, length-append, ext_get_or}
use Rattle.std.proofs.Math.Logic.{by_cases}
use Rattle.std.proofs.Math.Decide.{ℕ_discrete, dec_lt}
use Rattle.std.proofs.Math.ListN.{length-replicate}
use Rattle.clauses.specs.Darts.{touches_of}
use Rattle.counting.specs.Below.{join_below}
use Rattle.counting.proofs.Joined.{join_size}
use Rattle.counting.proofs.Stores.{replicate_at}
use Rattle.text.specs.Reading.{Listed, listed, line_at}
use Rattle.text.specs.Shapes.{with_one, with_two, with_some}
use Rattle.text.specs.Written.{line}
use Rattle.layout.specs.Layout.{Stands, Numerals}
use Rattle.layout.proofs.Standing.{stands_left, stands_right, stands_front, stands_joined, one_number, two_numbers}
use Rattle.layout.specs.Mixed.{MixedEnds}
use Rattle.layout.proofs.Mixed.{mixed_same, mixed_parts, endless, mixed_read}
use Rattle.clauses.specs.declared.Sheet.{Sheet}
use Rattle.answers.specs.Refusals.{answering}
use Rattle.sheet.specs.Darts.{Sized, tail, head, darts, vertex, next}
use Rattle.sheet.specs.Sound.{Joins, Sound}
use Rattle.soundness.proofs.Rings.{vertex_below}
use Rattle.soundness.proofs.Judge.{passed_says}
use Rattle.roundtrip.proofs.Loaded.{passes_law}
use Rattle.soundness.proofs.Law.{sound_law}
use Rattle.text.specs.Keys.{bars_key, wires_key, wire_key, around_key}
use Rattle.load.specs.Rings.{is_rotation, link_ring}
use Rattle.writesheet.specs.Rings.{rotation}
use Rattle.load.specs.declared.Form.{Form}
use Rattle.load.specs.declared.Form.TheVariants.{Directed}
use Rattle.load.specs.Load.{Parsed, empty_sheet, with_edge, with_nexts, edge_key, directed, judged, ring_lines, edge_lines, with_count, parsed, load_lines, load}
use Rattle.load.proofs.Turns.{lines_accepted}
use Rattle.writesheet.specs.Write.{sheet_lines, sheet_text}
use Rattle.roundtrip.specs.Laws.{RoundTripLaw, MixedRoundTrip}
use Rattle.roundtrip.proofs.Entries.{zeros, Filled, filled_none, filled_more, filled_all}
use Rattle.roundtrip.proofs.Around.{around_law}
use Rattle.soundness.proofs.Ends.{at_below}
use Rattle.roundtrip.proofs.Linking.{link_length, link_anew, link_other}
use Rattle.roundtrip.proofs.Laid.{link_leaves}
use Rattle.roundtrip.proofs.Rotations.{Rotated, rotated}
use Rattle.roundtrip.proofs.Joined.{Joined, mixed_joined}

-- the lines of a wire and of a bar
abbrev edge_text : Sheet → ℕ → List ℕ
edge_text s k = line wire_key (tail s k ∷ head s k ∷ [])

abbrev ring_text : (ℕ → List ℕ) → ℕ → List ℕ
ring_text ring v = line around_key (ring v)

-- one line of a ring
ring_step : (text : List ℕ) (s : Sheet) (nexts ws : List ℕ) (r v at after : ℕ) → line_at around_key text at ≡ listed ws after → is_rotation s v ws ≡ true
    → ring_lines Directed (suc r) text (with_nexts s nexts) v at ≡ ring_lines Directed r text (with_nexts s (link_ring s v ws nexts)) (v + 1) after
unfolding ring_lines with_some with_nexts is_rotation touches_of
ring_step text s nexts ws r v at after e t = rw (e, t, link_anew s v (get_or ws 0 0) nexts ws nexts)

-- the sheet with some of its wires, and no next-ends
partly : Sheet → List ℕ → List ℕ → Sheet
partly s tails heads = record { vertices = s.vertices; edges = s.edges; tails = tails; heads = heads; nexts = zeros 512 }

-- one line of a wire
edge_step : (text : List ℕ) (s : Sheet) (tails heads : List ℕ) (r k at after : ℕ) → line_at wire_key text at ≡ listed (tail s k ∷ head s k ∷ []) after → Joins s k
    → edge_lines Directed (suc r) text (partly s tails heads) k at ≡ edge_lines Directed r text (partly s (set tails k (tail s k)) (set heads k (head s k))) (k + 1) after
unfolding edge_lines edge_key with_two with_edge partly
edge_step text s tails heads r k at after e J = rw (e, lt-ltb (tail s k) s.vertices J.tail_in, lt-ltb (head s k) s.vertices J.head_in, ne_eqb (tail s k) (head s k) J.different)

-- a line of a count
count_step : (l : Listed) (n after most : ℕ) (good : ℕ → ℕ → Parsed) → l ≡ listed (n ∷ []) after → 2 ≤ n → n ≤ most → with_count l most good ≡ good n after
unfolding with_count with_one
count_step l n after most good e h k = rw (e, le-leb 2 n h, le-leb n most k)

-- a sound sheet passes after the last line
pub sound_judged : (form : Form) (s : Sheet) → Sized s → Sound s → (at : ℕ) → judged form s at ≡ parsed s at
unfolding judged answering
sound_judged form s z S at =
    let t = (sound_law s z).1 S in
    rw ((passes_law form s ((passed_says s).0 t).lined).1 t)

-- a sound sheet, and for each bar its wires clockwise, begun anywhere
module _ (s : Sheet) (z : Sized s) (S : Sound s) (ring : ℕ → List ℕ) (rotates : (v : ℕ) → v < s.vertices → Rotated s v (ring v)) where
  -- the next-ends of the bars below v are in their places
  record Placed (v : ℕ) (nexts : List ℕ) : Type 0 where
    sized : length nexts ≡ 512
    done : (d : ℕ) → d < darts s → vertex s d < v → get_or nexts d 0 ≡ next s d
    unused : (d : ℕ) → darts s ≤ d → get_or nexts d 0 ≡ 0

  placed_more : (v : ℕ) (nexts : List ℕ) → v < s.vertices → Placed v nexts → Placed (v + 1) (link_ring s v (ring v) nexts)
  placed_more v nexts h P = record {
    sized = link_length s v (get_or ws 0 0) ws nexts ∙ P.sized;
    done = λ d l m. by_cases (ℕ_discrete (vertex s d) v)
        (λ e. T.links nexts (omega (arith, P.sized, S.limits.edges_most)) d (record { below = l; here = e }))
        (λ n. link_leaves s (vertex s d) v ws nexts T.around n d (record { below = l; here = refl }) ∙ P.done d l (omega arith));
    unused = λ d l. link_other s v (get_or ws 0 0) ws nexts d (λ i j. omega (arith, at_below s (get_or ws i 0) v (T.around.inside i j))) ∙ P.unused d l;
  }
    where
      ws : List ℕ
      ws = ring v

      T : Rotated s v ws
      T = rotates v h

  placed_all : (nexts : List ℕ) → Placed s.vertices nexts → nexts ≡ s.nexts
  placed_all nexts P = ext_get_or 0 nexts s.nexts (P.sized ∙ sym z.nexts) (λ d _. by_cases (dec_lt d (darts s))
      (λ l. P.done d l (vertex_below s S.joins d l))
      (λ l. P.unused d (omega arith) ∙ sym (S.unused.nexts d (omega arith))))

  -- the lines of the rings stand in the text at a place
  module _ (text : List ℕ) (base : ℕ) (us : List ℕ) (J : Joined (ring_text ring) s.vertices us) (H : Stands text base us) where
    rings_back : (r : ℕ) (nexts : List ℕ) (v at : ℕ) → v + r ≡ s.vertices → at ≡ base + length (join_below J.mixed v) → Placed v nexts
        → ring_lines Directed r text (with_nexts s nexts) v at ≡ parsed s (base + length us)
    unfolding ring_lines with_nexts endless
    rings_back zero nexts v at e p P =
        let q : v ≡ s.vertices = omega arith in
        rw (placed_all nexts (rw q at P), p, q, ← J.whole) (sound_judged Directed s z S _)
    rings_back (suc r) nexts v at e p P =
        let T : Rotated s v (ring v) = rotates v (omega arith) in
        let numerals : Numerals (ring v) = record { some = T.some; small = λ i h. omega (arith, T.around.inside i h, S.limits.edges_most) } in
        let there : Stands text at (J.mixed v) = rw p (stands_joined J.mixed s.vertices v (omega arith) (subst (Stands text base) J.whole H)) in
        ring_step text s nexts (ring v) r v at (at + length (J.mixed v)) (mixed_read around_key text (ring v) (J.mixed v) at refl numerals (J.each v (omega arith)) there) ((around_law s v (ring v)).1 T.around)
        ∙ rings_back r (link_ring s v (ring v) nexts) (v + 1) (at + length (J.mixed v)) (omega arith) (omega (arith, join_size J.mixed v)) (placed_more v nexts (omega arith) P)

  -- and those of the wires
  module _ (text : List ℕ) (base : ℕ) (us : List ℕ) (J : Joined (edge_text s) s.edges us) (H : Stands text base us) where
    edges_back : (r : ℕ) (tails heads : List ℕ) (k at : ℕ) → k + r ≡ s.edges → at ≡ base + length (join_below J.mixed k) → Filled s.tails k tails → Filled s.heads k heads
        → edge_lines Directed r text (partly s tails heads) k at ≡ ring_lines Directed s.vertices text (with_nexts s (zeros 512)) 0 (base + length us)
    unfolding edge_lines directed with_nexts partly endless
    edges_back zero tails heads k at e p F G =
        let q : k ≡ s.edges = omega arith in
        rw (filled_all S.unused.tails (rw q at F), filled_all S.unused.heads (rw q at G), p, q, ← J.whole)
    edges_back (suc r) tails heads k at e p F G =
        let joins : Joins s k = S.joins k (omega arith) in
        let numerals : Numerals (tail s k ∷ head s k ∷ []) = two_numbers (tail s k) (head s k) (omega (arith, joins.tail_in, S.limits.vertices_most)) (omega (arith, joins.head_in, S.limits.vertices_most)) in
        let there : Stands text at (J.mixed k) = rw p (stands_joined J.mixed s.edges k (omega arith) (subst (Stands text base) J.whole H)) in
        edge_step text s tails heads r k at (at + length (J.mixed k)) (mixed_read wire_key text (tail s k ∷ head s k ∷ []) (J.mixed k) at refl numerals (J.each k (omega arith)) there) joins
        ∙ edges_back r (set tails k (tail s k)) (set heads k (head s k)) (k + 1) (at + length (J.mixed k)) (omega arith) (omega (arith, join_size J.mixed k))
        (filled_more (omega (arith, z.tails, S.limits.edges_most)) F) (filled_more (omega (arith, z.heads, S.limits.edges_most)) G)

  placed_none : Placed 0 (zeros 512)
  placed_none = record { sized = length-replicate {A = ℕ} 512 0; done = λ d h l. absurd (omega arith); unused = λ d h. replicate_at 0 512 d }

  -- the whole text stands at the front
  whole_back : (text us : List ℕ) → MixedEnds (sheet_lines s ring) us → Stands text 0 us → load_lines Directed text ≡ parsed s (length us)
  unfolding load_lines empty_sheet partly join_below endless
  whole_back text us m H =
      let last = mixed_parts (bars ++ wires ++ edges) rings us m in
      let third = mixed_parts (bars ++ wires) edges last.front last.front_mixed in
      let second = mixed_parts bars wires third.front third.front_mixed in
      let whole : Stands text 0 (last.front ++ last.back) = subst (Stands text 0) last.whole H in
      let before_rings : Stands text 0 (third.front ++ third.back) = subst (Stands text 0) third.whole (stands_left last.front last.back whole) in
      let counts : Stands text 0 (second.front ++ second.back) = subst (Stands text 0) second.whole (stands_left third.front third.back before_rings) in
      let first_two : length third.front ≡ length second.front + length second.back = ap length second.whole ∙ length-append second.front second.back in
      let first_three : length last.front ≡ length third.front + length third.back = ap length third.whole ∙ length-append third.front third.back in
      count_step (line_at bars_key text 0) s.vertices (0 + length second.front) 128 _
      (mixed_read bars_key text (s.vertices ∷ []) second.front 0 refl (one_number s.vertices (omega (arith, S.limits.vertices_most))) second.front_mixed (stands_left second.front second.back counts))
      S.limits.vertices_least S.limits.vertices_most
      ∙ count_step (line_at wires_key text (0 + length second.front)) s.edges (0 + length second.front + length second.back) 256 _
      (mixed_read wires_key text (s.edges ∷ []) second.back (0 + length second.front) refl (one_number s.edges (omega (arith, S.limits.edges_most))) second.back_mixed (stands_right second.front second.back counts))
      S.limits.edges_least S.limits.edges_most
      ∙ edges_back text (0 + length third.front) third.back (mixed_joined (edge_text s) s.edges third.back third.back_mixed) (stands_right third.front third.back before_rings)
      s.edges (zeros 256) (zeros 256) 0 (0 + length second.front + length second.back) (omega arith) (omega (arith, first_two)) (filled_none z.tails) (filled_none z.heads)
      ∙ rings_back text (0 + length last.front) last.back (mixed_joined (ring_text ring) s.vertices last.back last.back_mixed) (stands_right last.front last.back whole)
      s.vertices (zeros 512) 0 (0 + length third.front + length third.back) (omega arith) (omega (arith, first_three)) placed_none
      ∙ ap (parsed s) (omega (arith, ap length last.whole, length-append last.front last.back))
    where
      bars : List ℕ
      bars = line bars_key (s.vertices ∷ [])

      wires : List ℕ
      wires = line wires_key (s.edges ∷ [])

      edges : List ℕ
      edges = join_below (edge_text s) s.edges

      rings : List ℕ
      rings = join_below (ring_text ring) s.vertices

  pub lines_back : (text : List ℕ) → MixedEnds (sheet_lines s ring) text → (rest : List ℕ) → load (text ++ rest) ≡ parsed s (length text)
  lines_back text m rest = lines_accepted Directed (text ++ rest) (whole_back (text ++ rest) text m (stands_front text rest))

pub mixed_round_trip : MixedRoundTrip
unfolding sheet_text
mixed_round_trip s z S text m rest = lines_back s z S (rotation s) (rotated s S) text m rest

pub round_trip : RoundTripLaw
round_trip s z S rest = mixed_round_trip s z S (sheet_text s) (mixed_same (sheet_text s)) rest
