-- What `plate` prints is the drawing that demand 3 speaks of. Assumes nothing.
use Rattle.std.proofs.Common.{Ok, ℕ, zero, suc, ◌≤◌, ◌≡◌, refl, sym, ap, ◌∙◌, List, [], ◌∷◌, ◌++◌, append_assoc, arith, le-leb, length, drop}
use Rattle.clauses.specs.declared.Sheet.{Sheet}
use Rattle.sheet.specs.Fresh.{fresh_sheet}
use Rattle.answers.specs.Refusals.{answering}
use Rattle.load.specs.declared.Loaded.{Loaded}
use Rattle.load.specs.Load.{returned}
use Rattle.edit.specs.declared.Edit.{Edit}
use Rattle.edit.specs.declared.Edit.TheVariants.{In, Run, Out, Off, Refused}
use Rattle.edit.specs.Lines.{edit_of, line_length}
use Rattle.edit.specs.Calls.{apply, sheet_after}
use Rattle.drawing.specs.Write.{drawing_text_of}
use Rattle.program.specs.Program.{edit_output, edits_output, load_input, loaded_output, plate_output}
use Rattle.program.proofs.Edits.{line_shorter, one_line}
use Rattle.demand.specs.Calls.{outcome, after}
use Rattle.demand.proofs.Demand.{demand}
use Rattle.printed.specs.Calls.{edits_in, calls_for, refusals, calls_in}
use Rattle.printed.specs.Laws.{AllEdits, PrintedDrawing}

-- any two bounds that are enough give the same edits
bounds : (r q : ℕ) (text : List ℕ) → length text ≤ r → length text ≤ q → edits_in r text ≡ edits_in q text
unfolding edits_in
bounds zero zero text l m = refl
bounds zero (suc q) [] l m = refl
bounds zero (suc q) (b ∷ text) l m = absurd (omega arith)
bounds (suc r) zero [] l m = refl
bounds (suc r) zero (b ∷ text) l m = absurd (omega arith)
bounds (suc r) (suc q) [] l m = refl
bounds (suc r) (suc q) (b ∷ text) l m =
    let all = b ∷ text in
    let h = line_shorter all (omega arith) in
    ap (λ (es : List Edit). edit_of all ∷ es) (bounds r q (drop (line_length all) all) (omega arith) (omega arith))

pub all_edits : AllEdits
all_edits text r l = bounds r (length text) text l (omega arith)

-- the sheet after an edit is the sheet after its call
call_after : (s : Sheet) (e : Edit) (es : List Edit) → after s (calls_for (e ∷ es)) ≡ after (sheet_after s (apply s e)) (calls_for es)
unfolding calls_for after outcome apply sheet_after answering
call_after s (In k) es = refl
call_after s (Run a p b q) es = refl
call_after s (Out k) es = refl
call_after s (Off v) es = refl
call_after s Refused es = refl

edits_drawn : (r : ℕ) (s : Sheet) (text : List ℕ) → edits_output r s text ≡ refusals s (edits_in r text) ++ drawing_text_of (after s (calls_for (edits_in r text)))
unfolding edits_output refusals edits_in calls_for after
edits_drawn zero s text = refl
edits_drawn (suc r) s [] = refl
edits_drawn (suc r) s (b ∷ text) =
    let all = b ∷ text in
    let e = apply s (edit_of all) in
    let later = drop (line_length all) all in
    let es = edits_in r later in
    one_line r s all (omega arith)
    ∙ ap (λ (o : List ℕ). edit_output e ++ o) (edits_drawn r (sheet_after s e) later)
    ∙ sym (append_assoc (edit_output e) (refusals (sheet_after s e) es) (drawing_text_of (after (sheet_after s e) (calls_for es))))
    ∙ ap (λ (t : Sheet). edit_output e ++ refusals (sheet_after s e) es ++ drawing_text_of t) (sym (call_after s (edit_of all) es))

edits_only : (input : List ℕ) → length input ≤ 16384 → (l : Loaded) → load_input input ≡ Ok l
    → let r = returned fresh_sheet (load_input input) in plate_output input ≡ edits_output (length input) r.sheet (drop r.taken input)
unfolding plate_output loaded_output returned
edits_only input h l e = rw (le-leb (length input) 16384 h, e) refl

pub printed_drawing : PrintedDrawing
unfolding after outcome
printed_drawing input h l e = record { output = edits_only input h l e ∙ edits_drawn (length input) _ _; holds = demand (calls_in input) }
