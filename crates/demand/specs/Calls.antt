-- The five calls that change a sheet, load in either form, and a list of them.
use Rattle.std.specs.Prelude.{ℕ, List, [], ◌∷◌, Result}
use Rattle.clauses.specs.declared.Sheet.{Sheet}
use Rattle.answers.specs.declared.Refusal.{Refusal}
use Rattle.answers.specs.Answers.{answer_number}
use Rattle.sheet.specs.Fresh.{fresh_sheet}
use Rattle.load.specs.declared.Form.{Form}
use Rattle.load.specs.Load.{load_from, returned}
use Rattle.edit.specs.Calls.{put_in_call, run_call, take_out_edge_call, take_out_vertex_call, sheet_after}

-- each call comes with any text or numbers
pub data Call : Type 0 where
  LoadText : Form → List ℕ → Call
  PutIn : ℕ → Call
  RunEdge : ℕ → ℕ → ℕ → ℕ → Call
  TakeOutEdge : ℕ → Call
  TakeOutVertex : ℕ → Call

-- its answer is acceptance, which is 0, or a refusal number, the sheet returned and, for load, the bytes taken
pub record Outcome : Type 0 where
  pub number : ℕ
  pub sheet : Sheet
  pub taken : ℕ

-- a refused call returns the sheet s that it got
abbrev pub of_edit : Sheet → Result Sheet Refusal → Outcome
of_edit s e = record { number = answer_number e; sheet = sheet_after s e; taken = 0 }

unfoldable pub outcome : Sheet → Call → Outcome
outcome s (LoadText form text) = let l = load_from form text in record { number = answer_number l; sheet = (returned s l).sheet; taken = (returned s l).taken }
outcome s (PutIn k) = of_edit s (put_in_call s k)
outcome s (RunEdge a p b q) = of_edit s (run_call s a p b q)
outcome s (TakeOutEdge k) = of_edit s (take_out_edge_call s k)
outcome s (TakeOutVertex v) = of_edit s (take_out_vertex_call s v)

-- what a list of calls answers: each call gets the sheet that the one before it returned
unfoldable pub outcomes : Sheet → List Call → List Outcome
outcomes s [] = []
outcomes s (c ∷ cs) = outcome s c ∷ outcomes (outcome s c).sheet cs

-- the sheet that it leaves
unfoldable pub after : Sheet → List Call → Sheet
after s [] = s
after s (c ∷ cs) = after (outcome s c).sheet cs

-- a list of calls from the fresh sheet
abbrev pub after_calls : List Call → Sheet
after_calls cs = after fresh_sheet cs
