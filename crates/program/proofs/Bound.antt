-- Every sheet on the way is sound, and no output is longer than the bound. Assumes nothing.
use Rattle.std.proofs.Common.{Result, Ok, Err, ℕ, zero, suc, ◌+◌, ◌*◌, ◌≤◌, ◌≡◌, refl, ap, ◌∙◌, true, List, [], ◌∷◌, arith, leb, ltb, length, drop, length-append, length-drop, leb-true, lt-ltb}
use Rattle.counting.proofs.Iterate.{by_bool}
use Rattle.text.specs.Written.{decimal, separated, line}
use Rattle.answers.specs.declared.Refusal.{Refusal}
use Rattle.answers.specs.declared.Refusal.TheVariants.{InputTooLong}
use Rattle.answers.specs.Answers.{Answer, refusal_number}
use Rattle.answers.specs.Refusals.{answering}
use Rattle.answers.proofs.Refusals.{refusal_within}
use Rattle.clauses.specs.declared.Sheet.{Sheet}
use Rattle.sheet.specs.Check.{sound}
use Rattle.soundness.proofs.Clauses.{limits_law}
use Rattle.soundness.proofs.Judge.{passed_says}
use Rattle.soundness.proofs.Law.{sound_law}
use Rattle.load.specs.declared.Loaded.{Loaded}
use Rattle.roundtrip.proofs.Loaded.{loaded_sound}
use Rattle.edit.specs.declared.Edit.{Edit}
use Rattle.edit.specs.declared.Edit.TheVariants.{In, Run, Out, Off, Refused}
use Rattle.edit.specs.Changes.{put_in, run_edge, take_out_edge, take_out_vertex}
use Rattle.edit.specs.Lines.{edit_of, edit_answer, line_length}
use Rattle.edit.specs.Calls.{put_in_answer, run_answer, take_out_edge_answer, take_out_vertex_answer, apply, sheet_after}
use Rattle.preservation.specs.Laws.{Whole}
use Rattle.preservation.proofs.PutIn.{put_in_whole}
use Rattle.preservation.proofs.RunEdge.{run_whole}
use Rattle.preservation.proofs.TakeOutEdge.{take_out_edge_whole}
use Rattle.preservation.proofs.TakeOutVertex.{take_out_vertex_whole}
use Rattle.drawing.specs.Draw.{drawing_of}
use Rattle.drawing.specs.Write.{drawing_text_of}
use Rattle.writedrawing.proofs.Texts.{drawing_short}
use Rattle.program.specs.Program.{refused_line, edit_output, edits_output, input_form, load_input, loaded_output, plate_output, longest_output}
use Rattle.program.specs.Laws.{OutputBound}
use Rattle.program.proofs.Edits.{one_line, line_some, line_most}

-- an edit of a sound sheet leaves a sound sheet, refused or accepted
edited_whole : (s : Sheet) → Whole s → (a : Answer) (made : Unit {0} → Sheet) → (a ≡ Ok tt → Whole (made tt)) → Whole (sheet_after s (answering a made))
unfolding answering sheet_after
edited_whole s w (Ok u) made good = good refl
edited_whole s w (Err r) made good = w

pub apply_whole : (s : Sheet) → Whole s → (e : Edit) → Whole (sheet_after s (apply s e))
unfolding apply
apply_whole s w (In k) = edited_whole s w (put_in_answer s k) (λ _. put_in s k) (put_in_whole s k w.1)
apply_whole s w (Run a p b q) = edited_whole s w (run_answer s a p b q) (λ _. run_edge s a p b q) (run_whole s a p b q w.1)
apply_whole s w (Out k) = edited_whole s w (take_out_edge_answer s k) (λ _. take_out_edge s k) (take_out_edge_whole s k w.1)
apply_whole s w (Off v) = edited_whole s w (take_out_vertex_answer s v) (λ _. take_out_vertex s v) (take_out_vertex_whole s v w.1)
apply_whole s w Refused = edited_whole s w (edit_answer Refused) (λ _. s) (λ _. w)

pub load_whole : (input : List ℕ) (l : Loaded) → load_input input ≡ Ok l → Whole l.sheet
load_whole input l e = let (z, S) = loaded_sound (input_form input) input l e in (S, z)

pub whole_sound : {s : Sheet} → Whole s → sound s ≡ true
whole_sound {s} w = (sound_law s w.1).1 w.0

-- a line `refused=` has at most 11 bytes
pub refused_short : (r : Refusal) → length (refused_line r) ≤ 11
unfolding refused_line line separated decimal
refused_short r =
    let (_, most) = refusal_within r in
    by_bool (ltb (refusal_number r) 10) (λ t. rw t (omega arith)) (λ t. rw (t, lt-ltb (refusal_number r) 100 (omega arith)) (omega arith))

pub edit_short : (e : Result Sheet Refusal) → length (edit_output e) ≤ 11
unfolding edit_output
edit_short (Ok s) = omega arith
edit_short (Err r) = refused_short r

pub whole_short : (s : Sheet) → Whole s → length (drawing_text_of s) ≤ 6807
whole_short s w =
    let l = (limits_law s).0 ((passed_says s).0 (whole_sound w)).lined.limits in
    drawing_short (drawing_of s) s.vertices s.edges l.vertices_most l.edges_most

pub edits_short : (r : ℕ) (s : Sheet) (text : List ℕ) → Whole s → length (edits_output r s text) ≤ 11 * length text + 6807
unfolding edits_output
edits_short zero s text w = omega (arith, whole_short s w)
edits_short (suc r) s [] w = omega (arith, whole_short s w)
edits_short (suc r) s (b ∷ text) w =
    let all = b ∷ text in
    let e = apply s (edit_of all) in
    let later = drop (line_length all) all in
    let split : length (edits_output (suc r) s all) ≡ length (edit_output e) + length (edits_output r (sheet_after s e) later) = ap length (one_line r s all (omega arith)) ∙ length-append (edit_output e) (edits_output r (sheet_after s e) later) in
    omega (arith, edit_short e, edits_short r (sheet_after s e) later (apply_whole s w (edit_of all)), length-drop (line_length all) all, line_some all (omega arith), line_most all)

pub output_bound : OutputBound
unfolding plate_output loaded_output
output_bound input = by_bool (leb (length input) 16384) fits (λ t. rw t (omega (arith, refused_short InputTooLong)))
  where
    loaded : (p : Result Loaded Refusal) → load_input input ≡ p → length input ≤ 16384 → length (loaded_output input p) ≤ longest_output
    loaded (Ok l) e h = omega (arith, edits_short (length input) l.sheet (drop l.taken input) (load_whole input l e), length-drop l.taken input)
    loaded (Err r) e h = omega (arith, refused_short r)

    fits : leb (length input) 16384 ≡ true → length (plate_output input) ≤ longest_output
    fits t = rw t (loaded (load_input input) refl (leb-true (length input) 16384 t))
