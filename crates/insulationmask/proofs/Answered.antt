-- The call answers as laid down. Assumes nothing.
use Rattle.counting.proofs.Iterate.{by_bool, clash}
use Rattle.sheet.specs.Check.{sound}
use Rattle.soundness.proofs.Law.{sound_law}
use Rattle.insulationmask.specs.Laws.{accepted, refused, InsulationMaskAnsweredLaw}
use Rattle.insulationmask.specs.Mask.{returned}
use Rattle.insulationmask.proofs.Laid.{mask_laid}
use Rattle.insulationmask.proofs.Outcome.{sound_answered, other_answered}

pub insulation_mask_answered : InsulationMaskAnsweredLaw
unfolding returned
insulation_mask_answered s z = by_bool (sound s)
    (λ t. let S = (sound_law s z).0 t in rw (sound_answered s t) (accepted S (mask_laid s S)))
    (λ t. rw (other_answered s t) (refused (λ S. clash ((sound_law s z).1 S) t)))
