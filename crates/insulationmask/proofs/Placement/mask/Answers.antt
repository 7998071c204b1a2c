-- `Placement::mask` meets its contract. Assumes nothing.
use Rattle.insulationmask.proofs.Placed.{as_many}
use Rattle.insulationmask.proofs.Filled.{filled}
use Rattle.insulationmask.proofs.Placement.mask.Goals as goal

pub returns : goal.returns
returns c = filled c.requires.sound (as_many c.requires) c.segments-segments.ensures c.frame_of-frame.ensures
