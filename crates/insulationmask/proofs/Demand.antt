-- Plate and mask meet only where they may, of every mask laid down for a sound sheet, and so after every list of calls. Assumes nothing.
use Rattle.std.proofs.Common.{sym, subst}
use Rattle.sheet.specs.Fresh.{fresh_sheet}
use Rattle.soundness.proofs.Fresh.{fresh_law, fresh_sized}
use Rattle.soundness.proofs.Law.{sound_law}
use Rattle.drawing.specs.Draw.{drawing_of}
use Rattle.demand.specs.Calls.{after_calls}
use Rattle.demand.proofs.Demand.{demand, after_whole}
use Rattle.insulationmask.specs.Mask.{mask_of}
use Rattle.insulationmask.specs.Insulated.{Insulated}
use Rattle.insulationmask.specs.Laws.{InsulatedLaw, DemandWithMask}
use Rattle.insulationmask.proofs.Laid.{mask_laid}
use Rattle.insulationmask.proofs.Once.{laid_law}
use Rattle.insulationmask.proofs.Outcome.{sound_answered}
use Rattle.insulationmask.proofs.Crossing.{mask_insulated}

pub insulated_law : InsulatedLaw
insulated_law s M S L = subst (Insulated s (drawing_of s)) (sym ((laid_law s S M).0 L)) (mask_insulated S)

pub demand_with_mask : DemandWithMask
demand_with_mask cs =
    let s = after_calls cs in
    let (S, z) = after_whole fresh_sheet (fresh_law, fresh_sized) cs in
    record {
      demand = demand cs;
      mask = mask_of s;
      answered = sound_answered s ((sound_law s z).1 S);
      laid = mask_laid s S;
      insulated = mask_insulated S;
    }
