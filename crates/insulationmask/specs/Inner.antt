-- What the functions behind the mask compute.
use Rattle.std.specs.Prelude.{ℕ, ◌<◌, ◌≡◌, min, max, List, get_or}
use Rattle.clauses.specs.declared.Sheet.{Sheet}
use Rattle.sheet.specs.Sound.{Sound}
use Rattle.sheet.specs.Check.{face_count, column_levels}
use Rattle.sheet.specs.Inner.{findings_in}
use Rattle.drawing.specs.Draw.{least, greatest}
use Rattle.insulationmask.specs.declared.Span.{Span}
use Rattle.insulationmask.specs.declared.Placement.{Placement}
use Rattle.insulationmask.specs.Mask.{rows_beside}

-- the sheet is sound, and these are its rows, its faces and their columns
pub record Placed (p : Placement) : Type 0 where
  pub sound : Sound p.sheet.now
  pub found : p.found.now ≡ findings_in p.sheet.now
  pub columns : p.columns.now ≡ (column_levels p.sheet.now).level

-- a span, widened to hold a row
abbrev pub widened_by : Span → ℕ → Span
widened_by at row = record { low = min at.low row; high = max at.high row }

-- the lowest and the highest of the rows beside a face
unfoldable pub span_of : Sheet → ℕ → Span
span_of s g = record { low = least (rows_beside s g); high = greatest (rows_beside s g) }

-- where an array has no entry
abbrev pub no_span : Span
no_span = record { low = 0; high = 0 }

-- an array has those of all faces
abbrev pub Spans : Sheet → List Span → Type 0
Spans s spans = (g : ℕ) → g < face_count s → get_or spans g no_span ≡ span_of s g
