-- A text whose lines load accepts is that of a sound sheet, each ring turned, and any bytes after it. Assumes nothing.
use Rattle.std.proofs.Common.{◌≡◌, refl, sym, ◌∙◌, ap, subst, ◌≢◌, List, [], ◌∷◌, ◌++◌, append_assoc, append-nil, ℕ, ◌+◌, ◌≤◌, ◌<◌, add-one, zero-add, arith, get_or, length, take, drop, length-append, take-append-drop, get_or-take, ext_get_or, length-take-le}
use Rattle.std.proofs.Math.Logic.{by_cases}
use Rattle.std.proofs.Math.Decide.{ℕ_discrete}
use Rattle.std.proofs.Math.ListN.{get_or-append}
use Rattle.std.proofs.Math.Seq.{get_or_at}
use Rattle.counting.specs.Below.{join_below}
use Rattle.text.specs.Written.{separated, line}
use Rattle.text.specs.Keys.{bars_key, wires_key, wire_key, around_key}
use Rattle.layout.specs.Layout.{Stands, LineAt}
use Rattle.layout.specs.Mixed.{MixedEnds}
use Rattle.layout.specs.Mixed.MixedEnds.{over}
use Rattle.layout.proofs.Standing.{stands_nil, stands_append}
use Rattle.layout.proofs.Mixed.{mixed_append, line_mixed}
use Rattle.counting.proofs.Joined.{join_agree}
use Rattle.clauses.specs.declared.Sheet.{Sheet}
use Rattle.load.specs.declared.Form.TheVariants.{Directed}
use Rattle.load.specs.Load.{edge_key}
use Rattle.acceptance.specs.Loading.{Result, refusal, Directions, ItsWires, Describes, AroundLines, EdgeLines, WiresLine, BarsLine}
use Rattle.acceptance.specs.Loading.AroundLines.{no_around, bad_around, around, refused_last, accepted_last}
use Rattle.acceptance.specs.Loading.EdgeLines.{no_edge, bad_edge, edge, last_edge}
use Rattle.acceptance.specs.Loading.WiresLine.{no_wires, bad_wires, wires}
use Rattle.acceptance.specs.Loading.BarsLine.{no_bars, bad_bars, bars}

-- ---- texts one after the other

-- one text more
joined_more : (f g : ℕ → List ℕ) (k : ℕ) (ds : List ℕ) → ((i : ℕ) → i < k → f i ≡ g i) → g k ≡ ds → join_below f k ++ ds ≡ join_below g (k + 1)
unfolding join_below
joined_more f g k ds h e = rw (add-one k, join_agree f g k h, e) refl

-- the line of wire k, of bar v
unfoldable pub wire_line : List ℕ → List ℕ → ℕ → List ℕ
wire_line tails heads k = line wire_key (get_or tails k 0 ∷ get_or heads k 0 ∷ [])

unfoldable pub ring_line : List (List ℕ) → ℕ → List ℕ
ring_line rings v = line around_key (get_or rings v [])

wires_more : (tails heads : List ℕ) (a b : ℕ) → length heads ≡ length tails
    → join_below (wire_line tails heads) (length tails) ++ line wire_key (a ∷ b ∷ []) ≡ join_below (wire_line (tails ++ a ∷ []) (heads ++ b ∷ [])) (length tails + 1)
unfolding wire_line
wires_more tails heads a b e = joined_more (wire_line tails heads) (wire_line (tails ++ a ∷ []) (heads ++ b ∷ [])) (length tails) _
    (λ i h. rw (get_or-append tails (a ∷ []) 0 i h, get_or-append heads (b ∷ []) 0 i (omega arith)) refl)
    (rw (get_or_at tails a [] 0 (length tails) refl, get_or_at heads b [] 0 (length tails) e) refl)

rings_more : (rings : List (List ℕ)) (ws : List ℕ) → join_below (ring_line rings) (length rings) ++ line around_key ws ≡ join_below (ring_line (rings ++ ws ∷ [])) (length rings + 1)
unfolding ring_line
rings_more rings ws = joined_more (ring_line rings) (ring_line (rings ++ ws ∷ [])) (length rings) _
    (λ i h. rw (get_or-append rings (ws ∷ []) [] i h) refl)
    (rw (get_or_at rings ws [] [] (length rings) refl) refl)

-- ---- what stands at the front of a text up to a place, with line ends of both kinds

pub record Front (text ds : List ℕ) (at : ℕ) : Type 0 where
  pub bytes : List ℕ
  pub mixed : MixedEnds ds bytes
  pub holds : Stands text 0 bytes
  pub place : at ≡ length bytes

front_none : (text : List ℕ) → Front text [] 0
front_none text = record { bytes = []; mixed = over; holds = stands_nil text 0 (omega arith); place = refl }

front_more : {text ds vs : List ℕ} {at after : ℕ} (key : List ℕ) → Front text ds at → LineAt key text at vs after → Front text (ds ++ line key vs) after
front_more {text} {ds} {vs} key F L =
    let there : Stands text (0 + length F.bytes) (key ++ separated vs ++ L.end) = subst (λ i. Stands text i (key ++ separated vs ++ L.end)) (F.place ∙ sym (zero-add (length F.bytes))) L.same.holds in
    record {
      bytes = F.bytes ++ (key ++ separated vs ++ L.end);
      mixed = mixed_append F.mixed (line_mixed key vs L.end L.ends);
      holds = stands_append F.bytes (key ++ separated vs ++ L.end) F.holds there;
      place = omega (arith, L.same.place, F.place, length-append F.bytes (key ++ separated vs ++ L.end));
    }

pub front_splits : (text ds : List ℕ) → Stands text 0 ds → text ≡ ds ++ drop (length ds) text
front_splits text ds H =
    let room : length ds ≤ length text = omega (arith, H.room) in
    let same : ds ≡ take (length ds) text = ext_get_or 0 ds (take (length ds) text) (sym (length-take-le (length ds) text room))
    (λ i h. sym (H.each i h) ∙ ap (λ k. get_or text k 0) (zero-add i) ∙ sym (get_or-take (length ds) text i 0 h)) in
    sym (take-append-drop (length ds) text) ∙ ap (λ l. l ++ drop (length ds) text) (sym same)

-- ---- the lines of an accepted text

module _ (text : List ℕ) (present : Sheet) (r : Result) (zero_number : r.number ≡ 0) where
  never : {A : Type 0} {number : ℕ} → number ≢ 0 → r ≡ refusal present number → A
  never n e = absurd (n (sym (ap (λ q. q.number) e) ∙ zero_number))

  pub record Rings (tails heads : List ℕ) (rings : List (List ℕ)) : Type 0 where
    pub its : (v : ℕ) → v < length rings → ItsWires tails heads v (get_or rings v [])
    pub some : (v : ℕ) → v < length rings → 0 < length (get_or rings v [])

  pub record AllRings (front : List ℕ) (n : ℕ) (tails heads : List ℕ) : Type 0 where
    pub rings : List (List ℕ)
    pub full : length rings ≡ n
    pub each : Rings tails heads rings
    pub described : Describes n tails heads rings r.sheet
    pub taken : ℕ
    pub lines : Front text (front ++ join_below (ring_line rings) n) taken

  ring_more : {tails heads : List ℕ} (rings : List (List ℕ)) (ws : List ℕ) → Rings tails heads rings → ItsWires tails heads (length rings) ws → 0 < length ws → Rings tails heads (rings ++ ws ∷ [])
  ring_more {tails} {heads} rings ws R W l = record { its = λ v h. (both v h).0; some = λ v h. (both v h).1 }
    where
      both : (v : ℕ) → v < length (rings ++ ws ∷ []) → ItsWires tails heads v (get_or (rings ++ ws ∷ []) v []) × (0 < length (get_or (rings ++ ws ∷ []) v []))
      both v h = by_cases (ℕ_discrete v (length rings))
          (λ e. rw (e, get_or_at rings ws [] [] (length rings) refl) (W, l))
          (λ n. let k : v < length rings = omega (arith, length-append rings (ws ∷ [])) in
          rw (get_or-append rings (ws ∷ []) [] v k) (R.its v k, R.some v k))

  around_lines : {n : ℕ} {tails heads : List ℕ} {rings : List (List ℕ)} {at : ℕ} (front : List ℕ) → AroundLines Directed text present r n tails heads rings at → Rings tails heads rings
      → Front text (front ++ join_below (ring_line rings) (length rings)) at → AllRings front n tails heads
  around_lines front (no_around h f e) R F = never (omega arith) e
  around_lines front (bad_around h L f e) R F = never (omega arith) e
  around_lines front (around {rings} {at} {ws} {after} h L W A) R F =
      let on : front ++ join_below (ring_line rings) (length rings) ++ line around_key ws ≡ front ++ join_below (ring_line (rings ++ ws ∷ [])) (length (rings ++ ws ∷ [])) =
      append_assoc front (join_below (ring_line rings) (length rings)) (line around_key ws) ∙ ap (λ l. front ++ l) (rings_more rings ws ∙ ap (join_below (ring_line (rings ++ ws ∷ []))) (sym (length-append rings (ws ∷ [])))) in
      around_lines front A (ring_more rings ws R W L.same.numerals.some) (subst (λ l. Front text l after) on (front_more around_key F L))
  around_lines front (refused_last z D f n e) R F = never n e
  around_lines {n} {tails} {heads} front (accepted_last {rings} {at} {s} z D f e) R F = record {
    rings = rings;
    full = z;
    each = R;
    described = subst (Describes n tails heads rings) (sym (ap (λ q. q.sheet) e)) D;
    taken = at;
    lines = subst (λ k. Front text (front ++ join_below (ring_line rings) k) at) z F;
  }

  pub record AllWires (front : List ℕ) (n m : ℕ) : Type 0 where
    pub tails : List ℕ
    pub heads : List ℕ
    pub count : length tails ≡ m
    pub around_each : AllRings (front ++ join_below (wire_line tails heads) m) n tails heads

  wire_lines : {n m : ℕ} {tails heads : List ℕ} {at : ℕ} (front : List ℕ) → EdgeLines Directed text present r n m tails heads at → length heads ≡ length tails
      → Front text (front ++ join_below (wire_line tails heads) (length tails)) at → AllWires front n m
  unfolding join_below edge_key Directions
  wire_lines front (no_edge h f e) q F = never (omega arith) e
  wire_lines front (bad_edge h L f e) q F = never (omega arith) e
  wire_lines front (edge {firsts = tails} {seconds = heads} {at = at} {a = a} {b = b} {after = after} h L f A) q F =
      let on : front ++ join_below (wire_line tails heads) (length tails) ++ line wire_key (a ∷ b ∷ []) ≡ front ++ join_below (wire_line (tails ++ a ∷ []) (heads ++ b ∷ [])) (length (tails ++ a ∷ [])) =
      append_assoc front (join_below (wire_line tails heads) (length tails)) (line wire_key (a ∷ b ∷ []))
      ∙ ap (λ l. front ++ l) (wires_more tails heads a b q ∙ ap (join_below (wire_line (tails ++ a ∷ []) (heads ++ b ∷ []))) (sym (length-append tails (a ∷ [])))) in
      wire_lines front A (omega (arith, length-append tails (a ∷ []), length-append heads (b ∷ []))) (subst (λ l. Front text l after) on (front_more wire_key F L))
  wire_lines {n} {m} front (last_edge {firsts = tails} {seconds = heads} {at = at} z (et, eh) A) q F = record {
    tails = tails;
    heads = heads;
    count = z;
    around_each = subst (λ k. AllRings (front ++ join_below (wire_line tails heads) k) n tails heads) z
        (around_lines (front ++ join_below (wire_line tails heads) (length tails)) (rw (et, eh) at A) (record { its = λ v h. absurd (omega arith); some = λ v h. absurd (omega arith) })
        (subst (λ l. Front text l at) (sym (append-nil (front ++ join_below (wire_line tails heads) (length tails)))) F));
  }

  pub record AllLines : Type 0 where
    pub n : ℕ
    pub m : ℕ
    pub wires_each : AllWires (line bars_key (n ∷ []) ++ line wires_key (m ∷ [])) n m

  pub all_lines : BarsLine Directed text present r 0 → AllLines
  unfolding join_below
  all_lines (no_bars f e) = never (omega arith) e
  all_lines (bad_bars L o e) = never (omega arith) e
  all_lines (bars {n} L o W) = go W L
    where
      go : {at : ℕ} → WiresLine Directed text present r n at → LineAt bars_key text 0 (n ∷ []) at → AllLines
      go (no_wires f e) L = never (omega arith) e
      go (bad_wires M o e) L = never (omega arith) e
      go (wires {m} {after} M o A) L =
          let front : List ℕ = line bars_key (n ∷ []) ++ line wires_key (m ∷ []) in
          record { n = n; m = m; wires_each = wire_lines front A refl (subst (λ l. Front text l after) (sym (append-nil front)) (front_more wires_key (front_more bars_key (front_none text) L) M)) }
