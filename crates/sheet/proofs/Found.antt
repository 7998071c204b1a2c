-- What the check of a sheet found. Assumes nothing.
use Rattle.std.proofs.Common.{◌≡◌, true, false, Ok, Err, Result}
use Rattle.answers.specs.declared.Refusal.{Refusal}
use Rattle.answers.specs.declared.Refusal.TheVariants.{NotSound}
use Rattle.counting.proofs.Choice as choice
use Rattle.clauses.specs.declared.Sheet.{Sheet}
use Rattle.sheet.specs.declared.Findings.{Findings}
use Rattle.sheet.specs.Check.{sound}
use Rattle.sheet.specs.Inner.{findings_in, findings_of}

module _ (s : Sheet) (r : Result Findings Refusal) (e : r ≡ findings_of s) where
  -- its refusal is 9, of a record that is not sound
  pub not_found : (q : Refusal) → r ≡ Err q → (sound s ≡ false) × (q ≡ NotSound)
  unfolding findings_of
  not_found q h = choice.refused (sound s) (findings_in s) NotSound e h

  -- else the record is sound, and these are its rows and faces
  pub found_is : (f : Findings) → r ≡ Ok f → (sound s ≡ true) × (f ≡ findings_in s)
  unfolding findings_of
  found_is f h = choice.accepted (sound s) (findings_in s) NotSound e h
