-- What a list of calls from the fresh sheet answers, put into lent numbers, and the drawing after it.
use Rattle.std.specs.Prelude.{ℕ, ◌≡◌, List, [], ◌∷◌, Ok}
use Rattle.sheet.specs.Fresh.{fresh_sheet}
use Rattle.drawing.specs.declared.Drawing.{Drawing}
use Rattle.drawing.specs.Draw.{draw_call}
use Rattle.demand.specs.Calls.{Call, Outcome, outcomes, after_calls}
use Rattle.demand.specs.Demand.{Holds}

-- each call's number and the bytes that it took, two entries a call from the front on, as far as there are two; the rest is untouched
unfoldable pub answers_put : List Outcome → List ℕ → List ℕ
answers_put [] lent = lent
answers_put (o ∷ os) [] = []
answers_put (o ∷ os) (x ∷ []) = x ∷ []
answers_put (o ∷ os) (x ∷ y ∷ rest) = o.number ∷ o.taken ∷ answers_put os rest

-- the drawing that draw answers, the lent numbers afterwards, and what demand 3 says of the list
pub record Replayed (cs : List Call) (lent : List ℕ) (d : Drawing) (left : List ℕ) : Type 0 where
  pub drawn : draw_call (after_calls cs) ≡ Ok d
  pub answers : left ≡ answers_put (outcomes fresh_sheet cs) lent
  pub holds : Holds cs
