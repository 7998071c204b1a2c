use Rattle.std.proofs.Common.{length}
use Rattle.counting.specs.Below.{join_below}
use Rattle.writesheet.specs.Inner.{edge_text}
use Rattle.writesheet.proofs.SoundSheet.put_edges.Given as goal

abbrev pub invariant-loop-tail : goal.invariant-loop-tail
invariant-loop-tail g l = g.S.Sink.puts l.initial.to (join_below (edge_text l.self.sheet.now) (length l.yielded)) l.to
