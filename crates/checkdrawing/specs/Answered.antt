-- What check drawing answers, as C-16 lays it down, with no reader and no test.
use Rattle.std.specs.Prelude.{ℕ, List, [], ◌∷◌}
use Rattle.answers.specs.Clauses.{Clause, ◌when◌}
use Rattle.clauses.specs.declared.Sheet.{Sheet}
use Rattle.sheet.specs.Sound.{Sound}
use Rattle.drawing.specs.declared.Drawing.{Drawing}
use Rattle.drawing.specs.Clear.{Clear, InOrder}
use Rattle.readdrawing.specs.Laws.{Shows}
use Rattle.contact.specs.Laws.{WellFormed}

-- The text has the line layout and line counts for this sheet, and its numbers are in order: first columns don't exceed last ones, tail rows are below head
-- rows, rows and columns below the numbers declared.
pub record ShowsFormed (s : Sheet) (text : List ℕ) (D : Drawing) : Type 0 where
  pub shows : Shows s.vertices s.edges text D
  pub formed : WellFormed s.vertices s.edges D

-- the text shows such a drawing, with this property
abbrev pub ShowsSome : Sheet → List ℕ → (Drawing → Type 0) → Type 0
ShowsSome s text P = (D : Drawing) × ShowsFormed s text D × P D

-- It refuses 9; 20 the text hasn't the line layout and line counts for this sheet, or a bar's first column exceeds its last, or a tail row isn't below its head
-- row, or a row or column isn't below the number declared; 21, next, a wire end is off its bar or a forbidden point is shared; 22, last, a ring is in another order.
unfoldable pub check_drawing_refusals : Sheet → List ℕ → List Clause
check_drawing_refusals s text =
    9 when (¬ Sound s) ∷
    20 when (¬ ShowsSome s text (λ D. Unit {0})) ∷
    21 when ShowsSome s text (λ D. ¬ Clear s D) ∷
    22 when ShowsSome s text (λ D. ¬ InOrder s D) ∷ []

-- It is accepted exactly when it passes the checks of 20, each wire rises from its own tail bar to its own head bar, no two segments share a point that the
-- no-contact property forbids, and every ring is in clockwise order.
pub record Accepted (s : Sheet) (text : List ℕ) : Type 0 where
  pub sound : Sound s
  pub drawing : Drawing
  pub shows : ShowsFormed s text drawing
  pub clear : Clear s drawing
  pub ordered : InOrder s drawing
