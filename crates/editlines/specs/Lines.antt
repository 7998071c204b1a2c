-- Read edit as documents 01 and 02 lay it down.
use Rattle.std.specs.Prelude.{ℕ, suc, ◌<◌, ◌≡◌, ◌≢◌, List, [], ◌∷◌, get_or, length}
use Rattle.layout.specs.Layout.{LastLineAt}
use Rattle.edit.specs.declared.Edit.{Edit}
use Rattle.edit.specs.declared.Edit.TheVariants.{In, Run, Out, Off, Refused}
use Rattle.edit.specs.Lines.{in_key, run_key, out_key, off_key}

-- An edit line reads as one of four edits: `in=k`, `run=a,p,b,q`, `out=k`, `off=v`, with load's numbers and line ends; a last line may lack its end.
pub data EditLine (text : List ℕ) : Edit → Type 0 where
  in_line : {k next : ℕ} → LastLineAt in_key text 0 (k ∷ []) next → EditLine text (In k)
  run_line : {a p b q next : ℕ} → LastLineAt run_key text 0 (a ∷ p ∷ b ∷ q ∷ []) next → EditLine text (Run a p b q)
  out_line : {k next : ℕ} → LastLineAt out_key text 0 (k ∷ []) next → EditLine text (Out k)
  off_line : {v next : ℕ} → LastLineAt off_key text 0 (v ∷ []) next → EditLine text (Off v)

-- It takes the bytes up to and with the first byte 10, or all where there is none.
pub data Takes (text : List ℕ) : ℕ → Type 0 where
  first_10 : {i : ℕ} → i < length text → get_or text i 0 ≡ 10 → ((j : ℕ) → j < i → get_or text j 0 ≢ 10) → Takes text (suc i)
  all : ((j : ℕ) → j < length text → get_or text j 0 ≢ 10) → Takes text (length text)

-- what read edit answers: 0, the edit of the line and the bytes taken; or 1, line not of the layout, no edit and the bytes taken
pub data ReadAnswered (text : List ℕ) (number : ℕ) (edit : Edit) (taken : ℕ) : Type 0 where
  reads : EditLine text edit → number ≡ 0 → Takes text taken → ReadAnswered text number edit taken
  refuses : ((e : Edit) → ¬ EditLine text e) → number ≡ 1 → edit ≡ Refused → Takes text taken → ReadAnswered text number edit taken
