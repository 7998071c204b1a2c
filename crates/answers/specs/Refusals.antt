-- What a call refuses, in order.
use Rattle.std.specs.Prelude.{Bool, cond, List, [], ◌∷◌, Result, Ok, Err, is_ok}
use Rattle.answers.specs.declared.Refusal.{Refusal}
use Rattle.answers.specs.Answers.{Answer}

infix 80 ◌if◌
-- a refusal, and the test on which it falls
pub record Test : Type 0 where
  pub refusal : Refusal
  pub falls : Bool

abbrev pub ◌if◌ : Refusal → Bool → Test
r if b = record { refusal = r; falls = b }

-- the first refusal of the list that falls, or acceptance where none does
unfoldable pub first : List Test → Answer
first [] = Ok tt
first (t ∷ ts) = cond t.falls (Err t.refusal) (first ts)

abbrev pub is_accepted : Answer → Bool
is_accepted a = is_ok a

-- what a call hands out, by what it answers: its value, or its refusal
unfoldable pub answering : {A : Type 0} → Answer → (Unit {0} → A) → Result A Refusal
answering (Ok _) value = Ok (value tt)
answering (Err r) value = Err r
