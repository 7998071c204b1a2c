-- What `plate` prints, by the calls of its input.
use Rattle.std.specs.Prelude.{ℕ, ◌≤◌, ◌≡◌, List, ◌++◌, length, Ok}
use Rattle.clauses.specs.declared.Sheet.{Sheet}
use Rattle.sheet.specs.Fresh.{fresh_sheet}
use Rattle.load.specs.declared.Loaded.{Loaded}
use Rattle.load.specs.Load.{returned}
use Rattle.drawing.specs.Draw.{drawing_of}
use Rattle.drawing.specs.Write.{drawing_text}
use Rattle.program.specs.Program.{load_input, plate_output}
use Rattle.demand.specs.Calls.{after_calls}
use Rattle.demand.specs.Demand.{Holds}
use Rattle.printed.specs.Calls.{edits_in, refusals, input_edits, calls_in}

-- the bound r on the number of edit lines is never what stops them
abbrev pub AllEdits : Type 0
AllEdits = (text : List ℕ) (r : ℕ) → length text ≤ r → edits_in r text ≡ edits_in (length text) text

-- the sheet that the calls of an input leave
abbrev pub last_sheet : List ℕ → Sheet
last_sheet input = after_calls (calls_in input)

-- Where load accepts, a line for each refused edit is printed, then the drawing of the sheet that the calls leave. Demand 3 holds of these calls: that sheet is
-- sound, and in its drawing nothing touches that may not, and every ring stands in its order.
pub record Prints (input : List ℕ) : Type 0 where
  pub output : plate_output input
      ≡ refusals (returned fresh_sheet (load_input input)).sheet (input_edits input) ++ drawing_text (last_sheet input).vertices (last_sheet input).edges (drawing_of (last_sheet input))
  pub holds : Holds (calls_in input)

abbrev pub PrintedDrawing : Type 0
PrintedDrawing = (input : List ℕ) → length input ≤ 16384 → (l : Loaded) → load_input input ≡ Ok l → Prints input
