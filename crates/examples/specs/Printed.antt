-- The law of the table: what the computed test says of each plate.
use Rattle.std.specs.Prelude.{ℕ, ◌<◌, ◌≡◌, [], length, get_or}
use Rattle.clauses.specs.declared.Sheet.{Sheet}
use Rattle.sheet.specs.Fresh.{fresh_sheet}
use Rattle.sheet.specs.Sound.{Faces}
use Rattle.program.specs.Program.{input_form, plate_output}
use Rattle.examples.specs.Described.{described}
use Rattle.examples.specs.Plates.{Remark, Plate, plates}
use Rattle.examples.specs.Plates.Remark.{none, fresh, faces}

abbrev pub nth_plate : ℕ → Plate
nth_plate i = get_or plates i (record { sheet = none; input = []; output = [] })

-- what a remark says of a sheet
abbrev pub Remarked : Remark → Sheet → Type 0
Remarked none s = Unit
Remarked fresh s = s ≡ fresh_sheet
Remarked (faces f) s = (face : ℕ → ℕ) × Faces s face f

-- `plate` prints the output for the input, and the sheet that the input describes is as remarked
pub record Agrees (p : Plate) : Type 0 where
  pub printed : plate_output p.input ≡ p.output
  pub remarked : Remarked p.sheet (described (input_form p.input) p.input)

abbrev pub PlatesPrinted : Type 0
PlatesPrinted = (i : ℕ) → i < length plates → Agrees (nth_plate i)
