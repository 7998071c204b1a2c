-- Demand 3: every list of loads and edits. Assumes nothing.
use Rattle.std.proofs.Common.{Ok, Err, ℕ, ◌≡◌, refl, List, [], ◌∷◌}
use Rattle.answers.specs.Answers.{Answer, answer_number}
use Rattle.answers.specs.Refusals.{answering}
use Rattle.answers.specs.Clauses.{Clause, First}
use Rattle.answers.proofs.Refusals.{refusal_nonzero}
use Rattle.clauses.specs.declared.Sheet.{Sheet}
use Rattle.sheet.specs.Fresh.{fresh_sheet}
use Rattle.soundness.proofs.Law.{sound_law}
use Rattle.soundness.proofs.Fresh.{fresh_law, fresh_sized}
use Rattle.load.specs.declared.Form.{Form}
use Rattle.load.specs.Load.{Parsed, load_from, returned}
use Rattle.roundtrip.proofs.Loaded.{loaded_sound}
use Rattle.edit.specs.Changes.{put_in, run_edge, take_out_edge, take_out_vertex}
use Rattle.edit.specs.Calls.{put_in_answer, run_answer, take_out_edge_answer, take_out_vertex_answer, sheet_after}
use Rattle.preservation.specs.Laws.{Whole}
use Rattle.preservation.proofs.PutIn.{put_in_whole}
use Rattle.preservation.proofs.RunEdge.{run_whole}
use Rattle.preservation.proofs.TakeOutEdge.{take_out_edge_whole}
use Rattle.preservation.proofs.TakeOutVertex.{take_out_vertex_whole}
use Rattle.acceptance.proofs.Answered.{load_answered}
use Rattle.drawing.proofs.Answered.{sound_drawn}
use Rattle.drawing.proofs.Laid.{drawing_laid}
use Rattle.drawing.proofs.Correct.{drawing_correct}
use Rattle.demand.specs.Calls.{Call, Outcome, outcome, of_edit, outcomes, after}
use Rattle.demand.specs.Calls.Call.{LoadText, PutIn, RunEdge, TakeOutEdge, TakeOutVertex}
use Rattle.demand.specs.Answered.{EditAnswered, Answered}
use Rattle.demand.specs.Demand.{Each, Demand}
use Rattle.demand.specs.Demand.Each.{none, then}
use Rattle.demand.proofs.Refusals.{put_in_number, run_number, take_out_edge_number, take_out_vertex_number}

-- a call answers as A says and leaves a sound sheet
abbrev Left : Type 0 → Outcome → Type 0
Left A o = A × Whole o.sheet

-- an edit, from its answer
edit_left : (s : Sheet) → Whole s → (refusals : List Clause) (a : Answer) (made : Unit {0} → Sheet) → First refusals (answer_number a) → (a ≡ Ok tt → Whole (made tt))
    → let o = of_edit s (answering a made) in Left (EditAnswered refusals s (made tt) o) o
unfolding answering answer_number sheet_after
edit_left s w refusals (Ok u) made number good =
    let g = good refl in
    (record { number = number; refused = λ n. absurd (n refl); accepted = λ _. refl; sound = λ _. g.0; taken = refl }, g)
edit_left s w refusals (Err r) made number good =
    (record { number = number; refused = λ _. refl; accepted = λ e. absurd (refusal_nonzero r e); sound = λ e. absurd (refusal_nonzero r e); taken = refl }, w)

-- load leaves a sound sheet: the present one, or the one that it read
load_whole : (form : Form) (text : List ℕ) (present : Sheet) → Whole present → Whole (returned present (load_from form text)).sheet
unfolding returned
load_whole form text present w = go (load_from form text) refl
  where
    go : (p : Parsed) → load_from form text ≡ p → Whole (returned present p).sheet
    go (Ok l) e = let (z, S) = loaded_sound form text l e in (S, z)
    go (Err r) e = w

module _ (s : Sheet) (w : Whole s) where
  call_left : (c : Call) → Left (Answered s c (outcome s c)) (outcome s c)
  unfolding outcome Answered
  call_left (LoadText form text) = let l = load_whole form text s w in ((load_answered form text s, λ _. l.0), l)
  call_left (PutIn k) = edit_left s w _ (put_in_answer s k) (λ _. put_in s k) (put_in_number s w.1 k) (put_in_whole s k w.1)
  call_left (RunEdge a p b q) = edit_left s w _ (run_answer s a p b q) (λ _. run_edge s a p b q) (run_number s w.1 a p b q) (run_whole s a p b q w.1)
  call_left (TakeOutEdge k) =
      edit_left s w _ (take_out_edge_answer s k) (λ _. take_out_edge s k) (take_out_edge_number s w.1 k) (take_out_edge_whole s k w.1)
  call_left (TakeOutVertex v) =
      edit_left s w _ (take_out_vertex_answer s v) (λ _. take_out_vertex s v) (take_out_vertex_number s w.1 v) (take_out_vertex_whole s v w.1)

  -- each call on a sound sheet answers as laid down
  pub outcome_answered : (c : Call) → Answered s c (outcome s c)
  outcome_answered c = (call_left c).0

each : (s : Sheet) → Whole s → (cs : List Call) → Each s cs (outcomes s cs) (after s cs)
unfolding outcomes after
each s w [] = none
each s w (c ∷ cs) = then (outcome_answered s w c) (each (outcome s c).sheet (call_left s w c).1 cs)

pub after_whole : (s : Sheet) → Whole s → (cs : List Call) → Whole (after s cs)
unfolding after
after_whole s w [] = w
after_whole s w (c ∷ cs) = after_whole (outcome s c).sheet (call_left s w c).1 cs

pub demand : Demand
demand cs =
    let w = after_whole fresh_sheet (fresh_law, fresh_sized) cs in
    record {
      answers = each fresh_sheet (fresh_law, fresh_sized) cs;
      sound = w.0;
      drawn = sound_drawn (after fresh_sheet cs) ((sound_law (after fresh_sheet cs) w.1).1 w.0);
      laid = drawing_laid w.0;
      correct = drawing_correct w.0;
    }
