-- The calls that an input of `plate` makes.
use Rattle.std.specs.Prelude.{ℕ, zero, suc, List, [], ◌∷◌, ◌++◌, length, drop}
use Rattle.clauses.specs.declared.Sheet.{Sheet}
use Rattle.sheet.specs.Fresh.{fresh_sheet}
use Rattle.load.specs.Load.{returned}
use Rattle.edit.specs.declared.Edit.{Edit}
use Rattle.edit.specs.declared.Edit.TheVariants.{In, Run, Out, Off, Refused}
use Rattle.edit.specs.Lines.{edit_of, line_length}
use Rattle.edit.specs.Calls.{apply, sheet_after}
use Rattle.program.specs.Program.{edit_output, input_form, load_input}
use Rattle.demand.specs.Calls.{Call}
use Rattle.demand.specs.Calls.Call.{LoadText, PutIn, RunEdge, TakeOutEdge, TakeOutVertex}

-- what the edit lines of a text read as, one after the other to its end, at most r of them
unfoldable pub edits_in : ℕ → List ℕ → List Edit
edits_in zero text = []
edits_in (suc r) [] = []
edits_in (suc r) (b ∷ text) = edit_of (b ∷ text) ∷ edits_in r (drop (line_length (b ∷ text)) (b ∷ text))

-- one call for each edit line that reads as an edit; a line not of the layout calls nothing
unfoldable pub calls_for : List Edit → List Call
calls_for [] = []
calls_for (In k ∷ es) = PutIn k ∷ calls_for es
calls_for (Run a p b q ∷ es) = RunEdge a p b q ∷ calls_for es
calls_for (Out k ∷ es) = TakeOutEdge k ∷ calls_for es
calls_for (Off v ∷ es) = TakeOutVertex v ∷ calls_for es
calls_for (Refused ∷ es) = calls_for es

-- one line `refused=` and number for each refused edit, the first of them on the sheet s
unfoldable pub refusals : Sheet → List Edit → List ℕ
refusals s [] = []
refusals s (e ∷ es) = edit_output (apply s e) ++ refusals (sheet_after s (apply s e)) es

-- the edits of an input: what follows the sheet
abbrev pub input_edits : List ℕ → List Edit
input_edits input = edits_in (length input) (drop (returned fresh_sheet (load_input input)).taken input)

-- the calls of an input: the load of its form, then the edits
abbrev pub calls_in : List ℕ → List Call
calls_in input = LoadText (input_form input) input ∷ calls_for (input_edits input)
