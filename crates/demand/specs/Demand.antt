-- Demand 3 as one statement over every list of loads and edits from the fresh sheet.
use Rattle.std.specs.Prelude.{◌≡◌, List, [], ◌∷◌, Ok}
use Rattle.clauses.specs.declared.Sheet.{Sheet}
use Rattle.sheet.specs.Sound.{Sound}
use Rattle.sheet.specs.Fresh.{fresh_sheet}
use Rattle.drawing.specs.Draw.{draw_call, drawing_of}
use Rattle.drawing.specs.Laid.{Laid}
use Rattle.drawing.specs.Clear.{Correct}
use Rattle.demand.specs.Calls.{Call, Outcome, outcomes, after_calls}
use Rattle.demand.specs.Answered.{Answered}

-- The calls of a list from the sheet s: each answers as laid down, on the sheet that the one before it returned; the last one leaves the sheet t.
pub data Each : Sheet → List Call → List Outcome → Sheet → Type 0 where
  none : {s : Sheet} → Each s [] [] s
  then : {s t : Sheet} {c : Call} {cs : List Call} {o : Outcome} {os : List Outcome} → Answered s c o → Each o.sheet cs os t → Each s (c ∷ cs) (o ∷ os) t

-- Each call answers as laid down; after the list the sheet has its drawing, the one that draw answers, and it is the one laid down; in it nothing
-- touches that may not, every ring stands in its order, with at most n rows and m − n + 2 columns.
pub record Holds (cs : List Call) : Type 0 where
  pub answers : Each fresh_sheet cs (outcomes fresh_sheet cs) (after_calls cs)
  pub sound : Sound (after_calls cs)
  pub drawn : draw_call (after_calls cs) ≡ Ok (drawing_of (after_calls cs))
  pub laid : Laid (after_calls cs) (drawing_of (after_calls cs))
  pub correct : Correct (after_calls cs) (drawing_of (after_calls cs))

abbrev pub Demand : Type 0
Demand = (cs : List Call) → Holds cs
