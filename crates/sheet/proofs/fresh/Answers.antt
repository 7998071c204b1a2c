use Rattle.std.proofs.Common.{refl}
use Rattle.sheet.specs.Fresh.{fresh_sheet}
use Rattle.sheet.proofs.fresh.Goals as goal

-- src/lib.rt:13:1
pub returns : goal.returns
unfolding fresh_sheet
returns c = refl
