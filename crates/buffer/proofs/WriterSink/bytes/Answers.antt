use Rattle.std.proofs.Common.{refl}
use Rattle.buffer.proofs.Writing.{part_put}
use Rattle.buffer.proofs.WriterSink.bytes.Goals as goal

pub returns : goal.returns
returns c = (record { place = refl; makes = rw c.copy_from_slice.ensures.after (part_put _ _ _ c.requires) }, refl)
