-- One turn of `replay`: what is left to do gives what the whole gives. Assumes nothing.
use Rattle.std.proofs.Common.{ℕ, ◌+◌, ◌*◌, ◌/◌, ◌≤◌, ◌≡◌, refl, sym, ◌∙◌, ap, Bool, true, false, List, [], ◌∷◌, ◌++◌, length, length-drop, drop, arith}
use Rattle.clauses.specs.declared.Sheet.{Sheet}
use Rattle.answers.specs.Refusals.{first, answering}
use Rattle.sheet.specs.Check.{sound}
use Rattle.sheet.specs.Fresh.{fresh_sheet}
use Rattle.demand.specs.Calls.{Call, outcome, outcomes, after, after_calls}
use Rattle.drawing.specs.Draw.{draw_answer}
use Rattle.demand.proofs.Demand.{demand}
use Rattle.replay.specs.Encoded.{call_by, calls_of}
use Rattle.replay.specs.Replayed.{answers_put}
use Rattle.replay.specs.declared.Reply.{Reply}
use Rattle.replay.specs.Inner.{reply_of, pair_put, answers_from}
use Rattle.replay.proofs.Parts.{short, answers_are}

-- what calls leave is sound
sound_left : (cs : List Call) → sound (after_calls cs) ≡ true
unfolding first answering draw_answer
sound_left cs = go (sound (after_calls cs)) refl
  where
    go : (b : Bool) → sound (after_calls cs) ≡ b → sound (after_calls cs) ≡ true
    go true e = e
    go false e = let d = (demand cs).drawn in cc (rw e at d)

after_more : (s : Sheet) (cs : List Call) (c : Call) → after s (cs ++ c ∷ []) ≡ (outcome (after s cs) c).sheet
unfolding after
after_more s [] c = refl
after_more s (d ∷ cs) c = after_more (outcome s d).sheet cs c

-- i calls are made: they left the sheet s, and their answers are put
pub record Made (numbers text lent : List ℕ) (answers : List ℕ) (s : Sheet) (i : ℕ) : Type 0 where
  pub calls : List Call
  pub left : s ≡ after_calls calls
  pub sheet : after s (calls_of (drop (5 * i) numbers) text) ≡ after_calls (calls_of numbers text)
  pub put : answers_from i (outcomes s (calls_of (drop (5 * i) numbers) text)) answers ≡ answers_put (outcomes fresh_sheet (calls_of numbers text)) lent

module _ (numbers text lent : List ℕ) where
  pub made_none : (s : Sheet) → s ≡ fresh_sheet → Made numbers text lent lent s 0
  unfolding after
  made_none s e = record {
    calls = [];
    left = e;
    sheet = rw e refl;
    put = rw e (answers_are (outcomes fresh_sheet (calls_of numbers text)) lent);
  }

  module _ {answers : List ℕ} {s : Sheet} {i : ℕ} (m : Made numbers text lent answers s i) where
    pub made_sound : sound s ≡ true
    made_sound = ap sound m.left ∙ sound_left m.calls

    pub made_more : {kind a p b q : ℕ} → drop (5 * i) numbers ≡ kind ∷ a ∷ p ∷ b ∷ q ∷ drop (5 * (i + 1)) numbers → (r : Reply) → r ≡ reply_of (outcome s (call_by kind a p b q text))
        → (next : List ℕ) → next ≡ pair_put i r.number r.taken answers → Made numbers text lent next r.sheet (i + 1)
    unfolding outcomes after answers_from calls_of
    made_more {kind} {a} {p} {b} {q} c r e next n =
        let cs = calls_of (drop (5 * (i + 1)) numbers) text in
        record {
          calls = m.calls ++ call_by kind a p b q text ∷ [];
          left = ap (λ (x : Reply). x.sheet) e ∙ ap (λ (x : Sheet). (outcome x (call_by kind a p b q text)).sheet) m.left
              ∙ sym (after_more fresh_sheet m.calls (call_by kind a p b q text));
          sheet = ap (λ (x : Reply). after x.sheet cs) e ∙ ap (λ (x : List ℕ). after s (calls_of x text)) (sym c) ∙ m.sheet;
          put = ap (answers_from (i + 1) (outcomes r.sheet cs)) n
              ∙ ap (λ (x : Reply). answers_from (i + 1) (outcomes x.sheet cs) (pair_put i x.number x.taken answers)) e
              ∙ ap (λ (x : List ℕ). answers_from i (outcomes s (calls_of x text)) answers) (sym c)
              ∙ m.put;
        }

    pub made_all : length numbers / 5 ≤ i → (s ≡ after_calls (calls_of numbers text)) × (answers ≡ answers_put (outcomes fresh_sheet (calls_of numbers text)) lent)
    unfolding outcomes after answers_from
    made_all h =
        let c = short text (drop (5 * i) numbers) (omega (arith, length-drop (5 * i) numbers)) in
        (ap (after s) (sym c) ∙ m.sheet, ap (λ cs. answers_from i (outcomes s cs) answers) (sym c) ∙ m.put)
