use Rattle.std.proofs.Common.{take}
use Rattle.buffer.proofs.Writing.{others}
use Rattle.buffer.proofs.put_line.Given as goal

abbrev pub invariant-loop-v : goal.invariant-loop-v
invariant-loop-v g l = g.S.Sink.puts l.initial.to (others (take l.v-index l.v-items)) l.to
