use Rattle.std.proofs.Common.{refl, arith, length-set}
use Rattle.buffer.proofs.Writing.{digits_many, digits_put}
use Rattle.buffer.proofs.WriterSink.number.Goals as goal

pub bounds-self-at : goal.bounds-self-at
bounds-self-at c = omega (arith, digits_many c.args.v _ _ c.from.ensures c.from-2.ensures)

pub bounds-self-tens : goal.bounds-self-tens
bounds-self-tens c = simp length-set (omega (arith, digits_many c.args.v _ _ c.from.ensures c.from-2.ensures))

pub bounds-self-ones : goal.bounds-self-ones
bounds-self-ones c = simp length-set (omega (arith, digits_many c.args.v _ _ c.from.ensures c.from-2.ensures))

pub returns : goal.returns
returns c = (digits_put _ _ _ c.from.ensures c.from-2.ensures _ _, refl)
