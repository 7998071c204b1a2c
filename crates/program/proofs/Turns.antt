-- One edit line after the other, and what is printed for it. Assumes nothing.
use Rattle.std.proofs.Common.{Result, Ok, Err, ℕ, ◌+◌, ◌-◌, ◌≤◌, ◌<◌, ◌≡◌, ap, ◌∙◌, List, ◌++◌, arith, length, take, drop, length-append, length-drop}
use Rattle.answers.specs.declared.Refusal.{Refusal}
use Rattle.clauses.specs.declared.Sheet.{Sheet}
use Rattle.edit.specs.declared.EditRead.{EditRead}
use Rattle.edit.specs.Lines.{edit_of, line_length, read_edit}
use Rattle.edit.specs.Calls.{apply, sheet_after}
use Rattle.preservation.specs.Laws.{Whole}
use Rattle.program.specs.Program.{refused_line, edit_output, edits_output}
use Rattle.program.proofs.Edits.{line_some, line_most, next_line}
use Rattle.program.proofs.Bound.{apply_whole}
use Rattle.program.proofs.Put.{rest_part}

-- what is printed from a place of the input on
abbrev pub lines : List ℕ → Sheet → ℕ → List ℕ
lines input s at = edits_output (length input) s (drop at input)

-- the line at a place is read and its edit applied
module _ (input : List ℕ) (at : ℕ) (h : at < length input) (s : Sheet) (read : EditRead) (er : read ≡ read_edit (take (length input - at) (drop at input))) where
  is_taken : read.taken ≡ line_length (drop at input)
  unfolding read_edit
  is_taken = ap (λ (r : EditRead). r.taken) (rw (rest_part input at) at er)

  pub taken_some : 0 < read.taken
  taken_some = omega (arith, is_taken, line_some (drop at input) (omega (arith, length-drop at input)))

  pub taken_most : at + read.taken ≤ length input
  taken_most = omega (arith, is_taken, line_most (drop at input), length-drop at input)

  module _ (e : Result Sheet Refusal) (ee : e ≡ apply s read.edit) where
    is_edit : e ≡ apply s (edit_of (drop at input))
    unfolding read_edit
    is_edit = ee ∙ ap (λ (r : EditRead). apply s r.edit) (rw (rest_part input at) at er)

    split : lines input s at ≡ edit_output e ++ lines input (sheet_after s e) (at + read.taken)
    split = rw (is_edit, is_taken) (next_line input at s h)

    pub made_whole : Whole s → (t : Sheet) → e ≡ Ok t → Whole t
    unfolding sheet_after
    made_whole w t q = let p : Whole (sheet_after s e) = rw is_edit (apply_whole s w (edit_of (drop at input))) in rw q at p

    pub accepted_turn : (t : Sheet) → e ≡ Ok t → lines input s at ≡ lines input t (at + read.taken)
    unfolding edit_output sheet_after
    accepted_turn t q = rw q at split

    module _ (r : Refusal) (q : e ≡ Err r) where
      pub refused_turn : lines input s at ≡ refused_line r ++ lines input s (at + read.taken)
      unfolding edit_output sheet_after
      refused_turn = rw q at split

      pub refused_size : length (lines input s at) ≡ length (refused_line r) + length (lines input s (at + read.taken))
      refused_size = ap length refused_turn ∙ length-append (refused_line r) (lines input s (at + read.taken))
