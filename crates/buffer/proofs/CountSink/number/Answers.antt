use Rattle.std.proofs.Common.{arith}
use Rattle.buffer.proofs.Writing.{digits_many}
use Rattle.buffer.proofs.CountSink.number.Goals as goal

pub overflow_add-self-3 : goal.overflow_add-self-3
overflow_add-self-3 c = omega (arith, digits_many c.args.v _ _ c.from-2.ensures c.from.ensures)

pub returns : goal.returns
returns c = record { place = omega (arith, digits_many c.args.v _ _ c.from-2.ensures c.from.ensures) }
