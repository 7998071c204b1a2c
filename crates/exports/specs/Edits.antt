-- An edit as plain numbers: its kind, and its numbers.
use Rattle.std.specs.Prelude.{ℕ, List, [], ◌∷◌, cond, eqb, Result}
use Rattle.answers.specs.declared.Refusal.{Refusal}
use Rattle.clauses.specs.declared.Sheet.{Sheet}
use Rattle.edit.specs.declared.Edit.{Edit}
use Rattle.edit.specs.declared.Edit.TheVariants.{In, Run, Out, Off, Refused}
use Rattle.edit.specs.Calls.{put_in_call, run_call, take_out_edge_call, take_out_vertex_call, apply}

abbrev pub kind_of : Edit → ℕ
kind_of (In k) = 0
kind_of (Run a p b q) = 1
kind_of (Out k) = 2
kind_of (Off v) = 3
kind_of Refused = 5

abbrev pub numbers_in : Edit → List ℕ
numbers_in (In k) = k ∷ 0 ∷ 0 ∷ 0 ∷ []
numbers_in (Run a p b q) = a ∷ p ∷ b ∷ q ∷ []
numbers_in (Out k) = k ∷ 0 ∷ 0 ∷ 0 ∷ []
numbers_in (Off v) = v ∷ 0 ∷ 0 ∷ 0 ∷ []
numbers_in Refused = 0 ∷ 0 ∷ 0 ∷ 0 ∷ []

-- one of the four edits by its kind, with numbers of any size; any other kind is that of a line not of the layout
unfoldable pub edit_by : (kind a p b q : ℕ) → Sheet → Result Sheet Refusal
edit_by kind a p b q s =
    cond (eqb kind 0) (put_in_call s a)
    (cond (eqb kind 1) (run_call s a p b q)
    (cond (eqb kind 2) (take_out_edge_call s a)
    (cond (eqb kind 3) (take_out_vertex_call s a)
    (apply s Refused))))
