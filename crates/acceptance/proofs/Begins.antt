-- Load accepts the text of no bytes, and exactly the texts that begin with a sound sheet, each ring turned anyhow, with line ends of both kinds. Assumes nothing.
use Rattle.std.proofs.Common.{Ok, Err, is_ok, true, ◌≡◌, ◌⊎◌, inl, inr, refl, ◌∙◌, ap, subst, List, [], ◌∷◌, ◌++◌, ℕ, ◌<◌, arith, get_or, length, drop}
use Rattle.std.proofs.Math.Decide.{dec_lt}
use Rattle.std.proofs.lemmas.Bool.{false≢true}
use Rattle.counting.specs.Below.{join_below}
use Rattle.text.specs.Written.{line}
use Rattle.text.specs.Keys.{bars_key, wires_key, wire_key, around_key}
use Rattle.layout.specs.Mixed.{MixedEnds}
use Rattle.answers.specs.Answers.{answer_number}
use Rattle.clauses.specs.declared.Sheet.{Sheet}
use Rattle.sheet.specs.Darts.{tail, head}
use Rattle.sheet.specs.Sound.{Sound}
use Rattle.writesheet.specs.Rings.{rotation}
use Rattle.load.specs.declared.Form.TheVariants.{Directed}
use Rattle.load.specs.Load.{Parsed, load_lines, load_from, load, returned}
use Rattle.load.proofs.Turns.{lines_accepted}
use Rattle.load.specs.declared.Loaded.{Loaded}
use Rattle.roundtrip.proofs.Loaded.{loaded_sound}
use Rattle.roundtrip.proofs.RoundTrip.{lines_back}
use Rattle.counting.proofs.Joined.{join_agree}
use Rattle.acceptance.specs.Loading.{Describes, ItsWires}
use Rattle.acceptance.specs.Laws.{turned, turned_text, Begins, LoadAccepts, LoadGives}
use Rattle.acceptance.proofs.Described.{described_laid}
use Rattle.acceptance.proofs.Turned.{turned_rotates, laid_turned}
use Rattle.acceptance.proofs.Answered.{result, bars_answered}
use Rattle.acceptance.proofs.Accepted.{wire_line, ring_line, Front, front_splits, all_lines}

pub load_gives : LoadGives
unfolding turned_text
load_gives s z S turn lines m rest = lines_back s z S (λ v. turned (turn v) (rotation s v)) (λ v h. turned_rotates s S v h (turn v)) lines m rest

-- a function from what there is for each number below n
chosen : (P : ℕ → ℕ → Type 0) (n : ℕ) → ((v : ℕ) → v < n → (t : ℕ) × P v t) → (f : ℕ → ℕ) × ((v : ℕ) → v < n → P v (f v))
chosen P n f = (λ v. value v (dec_lt v n), λ v h. meets v h (dec_lt v n))
  where
    value : (v : ℕ) → Dec (v < n) → ℕ
    value v (yes h) = (f v h).0
    value v (no m) = 0

    meets : (v : ℕ) → v < n → (d : Dec (v < n)) → P v (value v d)
    meets v h (yes l) = (f v l).1
    meets v h (no m) = absurd (m h)

-- ---- the lines of a sheet that they describe

module _ (n : ℕ) (tails heads : List ℕ) (rings : List (List ℕ)) (s : Sheet) (S : Sound s) (D : Describes n tails heads rings s)
    (its : (v : ℕ) → v < n → ItsWires tails heads v (get_or rings v [])) (some : (v : ℕ) → v < n → 0 < length (get_or rings v [])) where
  lines_turned : (turn : ℕ → ℕ) → ((v : ℕ) → v < n → get_or rings v [] ≡ turned (turn v) (rotation s v)) → (m : ℕ) → length tails ≡ m
      → line bars_key (n ∷ []) ++ line wires_key (m ∷ []) ++ join_below (wire_line tails heads) m ++ join_below (ring_line rings) n ≡ turned_text s turn
  unfolding turned_text wire_line ring_line
  lines_turned turn f m e =
      let edges : s.edges ≡ m = D.edges ∙ e in
      rw (
        join_agree (wire_line tails heads) (λ k. line wire_key (tail s k ∷ head s k ∷ [])) m (λ k h. rw (D.its_tails k (omega arith), D.its_heads k (omega arith)) refl),
        join_agree (ring_line rings) (λ v. line around_key (turned (turn v) (rotation s v))) n (λ v h. ap (line around_key) (f v h)),
        ← D.vertices,
        ← edges,
      ) refl

  turns : (turn : ℕ → ℕ) × ((v : ℕ) → v < n → get_or rings v [] ≡ turned (turn v) (rotation s v))
  turns = chosen (λ v t. get_or rings v [] ≡ turned t (rotation s v)) n (λ v h. laid_turned s S v (omega (arith, D.vertices)) (get_or rings v []) (some v h) (described_laid D S.joins v h (its v h)))

  described_begins : (text : List ℕ) (m at : ℕ) → length tails ≡ m
      → Front text (line bars_key (n ∷ []) ++ line wires_key (m ∷ []) ++ join_below (wire_line tails heads) m ++ join_below (ring_line rings) n) at → Begins text
  described_begins text m at e F = let (turn, f) = turns in record {
    sheet = s;
    sized = D.sized;
    sound = S;
    turn = turn;
    lines = F.bytes;
    mixed = subst (λ l. MixedEnds l F.bytes) (lines_turned turn f m e) F.mixed;
    rest = drop (length F.bytes) text;
    whole = front_splits text F.bytes F.holds;
  }

lines_begin : (text : List ℕ) (l : Loaded) → load_lines Directed text ≡ Ok l → Begins text
unfolding result returned answer_number
lines_begin text l e =
    let all = all_lines text l.sheet (result l.sheet (load_lines Directed text)) (ap answer_number e) (bars_answered Directed text l.sheet) in
    let w = all.wires_each in
    let a = w.around_each in
    let (z, S) = loaded_sound Directed text l (lines_accepted Directed text e) in
    let is : Sound (returned l.sheet (load_lines Directed text)).sheet = rw e S in
    described_begins all.n w.tails w.heads a.rings (returned l.sheet (load_lines Directed text)).sheet is a.described
    (λ v h. a.each.its v (omega (arith, a.full))) (λ v h. a.each.some v (omega (arith, a.full))) text all.m a.taken w.count a.lines

accepted_begins : (text : List ℕ) → is_ok (load text) ≡ true → (length text ≡ 0) ⊎ Begins text
unfolding load_from
accepted_begins [] t = inl (omega arith)
accepted_begins (b ∷ text) t = inr (go (load_lines Directed (b ∷ text)) refl t)
  where
    go : (p : Parsed) → load_lines Directed (b ∷ text) ≡ p → is_ok p ≡ true → Begins (b ∷ text)
    go (Ok l) e t = lines_begin (b ∷ text) l e
    go (Err r) e t = absurd (false≢true t)

begins_accepted : (text : List ℕ) → (length text ≡ 0) ⊎ Begins text → is_ok (load text) ≡ true
unfolding load_from
begins_accepted [] (inl e) = refl
begins_accepted (b ∷ text) (inl e) = absurd (omega arith)
begins_accepted text (inr B) = ap is_ok (ap load B.whole ∙ load_gives B.sheet B.sized B.sound B.turn B.lines B.mixed B.rest)

pub load_accepts : LoadAccepts
load_accepts text = (accepted_begins text, begins_accepted text)
