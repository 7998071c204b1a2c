-- What the call answers, the law between what is laid down and what is computed, and demand 3 with the mask.
use Rattle.std.specs.Prelude.{◌≡◌, ◌↔◌, List, Result, Ok, Err}
use Rattle.answers.specs.declared.Refusal.{Refusal}
use Rattle.answers.specs.declared.Refusal.TheVariants.{NotSound}
use Rattle.clauses.specs.declared.Sheet.{Sheet}
use Rattle.sheet.specs.Darts.{Sized}
use Rattle.sheet.specs.Sound.{Sound}
use Rattle.drawing.specs.Draw.{drawing_of}
use Rattle.demand.specs.Calls.{Call, after_calls}
use Rattle.demand.specs.Demand.{Holds}
use Rattle.insulationmask.specs.declared.Mask.{Mask}
use Rattle.insulationmask.specs.Laid.{no_mask, Laid}
use Rattle.insulationmask.specs.Mask.{mask_of, insulation_mask_call, returned}
use Rattle.insulationmask.specs.Insulated.{Insulated}

-- Of a sound sheet what is laid down leaves no choice.
abbrev pub LaidLaw : Type 0
LaidLaw = (s : Sheet) → Sound s → (M : Mask) → Laid s M ↔ M ≡ mask_of s

-- what is laid down for the answer and the mask returned: refused 9, there are no segments and the frame is four zeros
pub data InsulationMaskAnswered (s : Sheet) : Result Mask Refusal → Mask → Type 0 where
  accepted : {M : Mask} → Sound s → Laid s M → InsulationMaskAnswered s (Ok M) M
  refused : ¬ Sound s → InsulationMaskAnswered s (Err NotSound) no_mask

abbrev pub InsulationMaskAnsweredLaw : Type 0
InsulationMaskAnsweredLaw = (s : Sheet) → Sized s → InsulationMaskAnswered s (insulation_mask_call s) (returned (insulation_mask_call s))

-- Of a sound sheet the mask and the plate meet where they may, and nowhere else.
abbrev pub InsulatedLaw : Type 0
InsulatedLaw = (s : Sheet) (M : Mask) → Sound s → Laid s M → Insulated s (drawing_of s) M

-- After the list of calls demand 3 holds, and the sheet has its mask, the one laid down; in the figure of its drawing and its mask they meet where they may,
-- and nowhere else.
pub record HoldsWithMask (cs : List Call) : Type 0 where
  pub demand : Holds cs
  pub mask : Mask
  pub answered : insulation_mask_call (after_calls cs) ≡ Ok mask
  pub laid : Laid (after_calls cs) mask
  pub insulated : Insulated (after_calls cs) (drawing_of (after_calls cs)) mask

-- This holds for every list of loads and edits from the fresh sheet, whatever their texts and numbers.
abbrev pub DemandWithMask : Type 0
DemandWithMask = (cs : List Call) → HoldsWithMask cs
