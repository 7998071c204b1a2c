-- Edit lines, one after the other. Assumes nothing.
use Rattle.std.proofs.Common.{ℕ, zero, suc, ◌+◌, ◌≤◌, ◌<◌, ◌≡◌, refl, sym, ap, ◌∙◌, List, [], ◌∷◌, ◌++◌, arith, lt-ltb, eqb, length, drop, length-drop, drop_of_length-le, drop-drop}
use Rattle.counting.proofs.Iterate.{by_bool}
use Rattle.clauses.specs.declared.Sheet.{Sheet}
use Rattle.edit.specs.Lines.{edit_of, line_length}
use Rattle.edit.specs.Calls.{apply, sheet_after}
use Rattle.drawing.specs.Write.{drawing_text_of}
use Rattle.program.specs.Program.{edit_output, edits_output}
use Rattle.program.specs.Laws.{Printed, EditsPrinted}
use Rattle.program.specs.Laws.Printed.{at_end, edit_line}

-- a line has at least one byte of a text, and at most all
pub line_some : (text : List ℕ) → 0 < length text → 0 < line_length text
unfolding line_length
line_some [] h = h
line_some (b ∷ text) h = by_bool (eqb b 10) (λ e. rw e (omega arith)) (λ e. rw e (omega arith))

pub line_most : (text : List ℕ) → line_length text ≤ length text
unfolding line_length
line_most [] = omega arith
line_most (b ∷ text) = by_bool (eqb b 10) (λ e. rw e (omega arith)) (λ e. rw e (omega (arith, line_most text)))

pub line_shorter : (text : List ℕ) → 0 < length text → length (drop (line_length text) text) < length text
line_shorter text h = omega (arith, length-drop (line_length text) text, line_some text h, line_most text)

-- one line, with a bound that allows it
pub one_line : (r : ℕ) (s : Sheet) (text : List ℕ) → 0 < length text
    → edits_output (suc r) s text ≡ edit_output (apply s (edit_of text)) ++ edits_output r (sheet_after s (apply s (edit_of text))) (drop (line_length text) text)
unfolding edits_output
one_line r s text h = rw (lt-ltb 0 (length text) h) refl

no_line : (r : ℕ) (s : Sheet) → edits_output r s [] ≡ drawing_text_of s
unfolding edits_output
no_line zero s = refl
no_line (suc r) s = refl

is_output : {s : Sheet} {text output : List ℕ} → Printed s text output → (r : ℕ) → length text ≤ r → output ≡ edits_output r s text
is_output (at_end {s}) r l = sym (no_line r s)
is_output (edit_line h p) zero l = absurd (omega arith)
is_output (edit_line {s} {text} h p) (suc r) l = rw (one_line r s text h) (ap (λ (o : List ℕ). edit_output (apply s (edit_of text)) ++ o) (is_output p r (omega (arith, line_shorter text h))))

printed : (r : ℕ) (s : Sheet) (text : List ℕ) → length text ≤ r → Printed s text (edits_output r s text)
printed zero s [] l = rw (no_line zero s) at_end
printed (suc r) s [] l = rw (no_line (suc r) s) at_end
printed zero s (b ∷ text) l = absurd (omega arith)
printed (suc r) s (b ∷ text) l = rw (one_line r s (b ∷ text) (omega arith)) (edit_line {text = b ∷ text} (omega arith) (printed r (sheet_after s (apply s (edit_of (b ∷ text)))) (drop (line_length (b ∷ text)) (b ∷ text)) (omega (arith, line_shorter (b ∷ text) (omega arith)))))

pub edits_printed : EditsPrinted
edits_printed s text output r l = (λ p. is_output p r l, λ e. rw e (printed r s text l))

-- any two bounds that are enough give the same
bounds : (s : Sheet) (text : List ℕ) (r q : ℕ) → length text ≤ r → length text ≤ q → edits_output r s text ≡ edits_output q s text
bounds s text r q l m = is_output (printed r s text l) q m

-- the lines of an input from a place on
module _ (input : List ℕ) (at : ℕ) (s : Sheet) where
  pub lines_over : length input ≤ at → edits_output (length input) s (drop at input) ≡ drawing_text_of s
  lines_over h = rw (drop_of_length-le input h) (no_line (length input) s)

  pub next_line : at < length input → let e = apply s (edit_of (drop at input)) in
      edits_output (length input) s (drop at input) ≡ edit_output e ++ edits_output (length input) (sheet_after s e) (drop (at + line_length (drop at input)) input)
  next_line h =
      let text = drop at input in
      let e = apply s (edit_of text) in
      let some : 0 < length text = omega (arith, length-drop at input) in
      let later = drop (line_length text) text in
      bounds s text (length input) (suc (length input)) (omega (arith, length-drop at input)) (omega (arith, length-drop at input))
      ∙ one_line (length input) s text some
      ∙ ap (λ (t : List ℕ). edit_output e ++ edits_output (length input) (sheet_after s e) t) (drop-drop (line_length text) at input)
