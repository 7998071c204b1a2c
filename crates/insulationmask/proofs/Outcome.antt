-- What the call answers, sheet by sheet. Assumes nothing.
use Rattle.std.proofs.Common.{◌≡◌, refl, true, false, Ok, Err}
use Rattle.answers.specs.declared.Refusal.TheVariants.{NotSound}
use Rattle.answers.specs.Refusals.{first, answering}
use Rattle.clauses.specs.declared.Sheet.{Sheet}
use Rattle.sheet.specs.Check.{sound}
use Rattle.insulationmask.specs.Mask.{mask_of, insulation_mask_answer, insulation_mask_call}

module _ (s : Sheet) where
  pub sound_answered : sound s ≡ true → insulation_mask_call s ≡ Ok (mask_of s)
  unfolding insulation_mask_answer first answering
  sound_answered t = rw t refl

  pub other_answered : sound s ≡ false → insulation_mask_call s ≡ Err NotSound
  unfolding insulation_mask_answer first answering
  other_answered t = rw t refl
