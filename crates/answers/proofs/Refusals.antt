-- Which refusal falls, and what acceptance says. Assumes nothing.
use Rattle.std.proofs.Common.{◌≤◌, arith, ◌≡◌, refl, ◌↔◌, Bool, true, false, not, List, [], ◌∷◌, Ok, Err}
use Rattle.std.proofs.lemmas.Bool.{false≢true}
use Rattle.answers.specs.declared.Refusal.{Refusal}
use Rattle.answers.specs.declared.Refusal.TheVariants.{BadLayout, CountOutOfLimits, BadEdge, BadRotation, BadRoot, Cyclic, BadPoles, NotPlanar, NotSound, NotInSheet, Full, RootEdge, CornersApart, ClosesCircle, EdgeNeeded, VertexNeeded, BufferTooShort, InputTooLong, NotOrientable, BadDrawing, Contact, OutOfOrder}
use Rattle.answers.specs.Answers.{Answer, refusal_number}
use Rattle.answers.specs.Refusals.{Test, first, ◌if◌, is_accepted, answering}

-- where nothing refuses
pub accepts_none : first [] ≡ Ok tt
unfolding first
accepts_none = refl

-- what refuses where a test fails accepts where it passes and nothing after it refuses
pub accepts : (r : Refusal) (b : Bool) (ts : List Test) → (first (r if not b ∷ ts) ≡ Ok tt) ↔ ((b ≡ true) × (first ts ≡ Ok tt))
unfolding first
accepts r true ts = (λ e. (refl, e), λ w. w.1)
accepts r false ts = (λ e. cc e, λ w. absurd (false≢true w.0))

-- what is accepted was not refused for the first of a list, nor for the rest
pub passed : (r : Refusal) (b : Bool) (ts : List Test) → first (r if b ∷ ts) ≡ Ok tt → (b ≡ false) × (first ts ≡ Ok tt)
unfolding first
passed r true ts e = cc e
passed r false ts e = (refl, e)

-- there is one acceptance
pub accepted_is : (a : Answer) → is_accepted a ≡ true → a ≡ Ok tt
accepted_is (Ok tt) e = refl
accepted_is (Err r) e = absurd (false≢true e)

-- what a call hands out where it is refused, and where it is accepted
module _ {A : Type 0} (a : Answer) (value : Unit {0} → A) where
  pub answering_refused : (r : Refusal) → a ≡ Err r → Err r ≡ answering a value
  unfolding answering
  answering_refused r e = rw e refl

  pub answering_accepted : a ≡ Ok tt → (v : A) → v ≡ value tt → Ok v ≡ answering a value
  unfolding answering
  answering_accepted e v q = rw (e, q) refl

-- a refusal has a number from 1 to 22
pub refusal_within : (r : Refusal) → (1 ≤ refusal_number r) × (refusal_number r ≤ 22)
unfolding refusal_number
refusal_within BadLayout = (omega arith, omega arith)
refusal_within CountOutOfLimits = (omega arith, omega arith)
refusal_within BadEdge = (omega arith, omega arith)
refusal_within BadRotation = (omega arith, omega arith)
refusal_within BadRoot = (omega arith, omega arith)
refusal_within Cyclic = (omega arith, omega arith)
refusal_within BadPoles = (omega arith, omega arith)
refusal_within NotPlanar = (omega arith, omega arith)
refusal_within NotSound = (omega arith, omega arith)
refusal_within NotInSheet = (omega arith, omega arith)
refusal_within Full = (omega arith, omega arith)
refusal_within RootEdge = (omega arith, omega arith)
refusal_within CornersApart = (omega arith, omega arith)
refusal_within ClosesCircle = (omega arith, omega arith)
refusal_within EdgeNeeded = (omega arith, omega arith)
refusal_within VertexNeeded = (omega arith, omega arith)
refusal_within BufferTooShort = (omega arith, omega arith)
refusal_within InputTooLong = (omega arith, omega arith)
refusal_within NotOrientable = (omega arith, omega arith)
refusal_within BadDrawing = (omega arith, omega arith)
refusal_within Contact = (omega arith, omega arith)
refusal_within OutOfOrder = (omega arith, omega arith)

pub refusal_nonzero : (r : Refusal) → refusal_number r ≡ 0 → ⊥
refusal_nonzero r e = omega (arith, (refusal_within r).0, e)
