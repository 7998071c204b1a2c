-- Check drawing.
use Rattle.std.specs.Prelude.{ℕ, Bool, false, not, List, [], ◌∷◌, Option, Some, None}
use Rattle.answers.specs.Answers.{Answer}
use Rattle.answers.specs.declared.Refusal.TheVariants.{NotSound, BadDrawing, Contact, OutOfOrder}
use Rattle.answers.specs.Refusals.{first, ◌if◌}
use Rattle.clauses.specs.declared.Sheet.{Sheet}
use Rattle.sheet.specs.Check.{sound}
use Rattle.drawing.specs.declared.Drawing.{Drawing}
use Rattle.readdrawing.specs.Reading.{drawing_of_text}
use Rattle.contact.specs.Tests.{well_formed, is_clear}
use Rattle.ringorder.specs.Order.{in_order}

-- there is a drawing, and it passes the test
unfoldable pub passes : Option Drawing → (Drawing → Bool) → Bool
passes None test = false
passes (Some D) test = test D

-- the answer on a sheet and the drawing that a text shows, if it shows one: 9, then 20, 21, 22
unfoldable pub drawing_answer : Sheet → Option Drawing → Answer
drawing_answer s shown =
    first
    (NotSound if not (sound s)
    ∷ BadDrawing if not (passes shown (well_formed s.vertices s.edges))
    ∷ Contact if not (passes shown (is_clear s))
    ∷ OutOfOrder if not (passes shown (in_order s))
    ∷ [])

abbrev pub check_drawing_call : Sheet → List ℕ → Answer
check_drawing_call s text = drawing_answer s (drawing_of_text text s.vertices s.edges)
