use Rattle.counting.specs.Below.{join_below}
use Rattle.writesheet.specs.Inner.{ring_text}
use Rattle.writesheet.proofs.SoundSheet.put_rings.Given as goal

abbrev pub invariant-loop-first : goal.invariant-loop-first
invariant-loop-first g l = g.S.Sink.puts l.initial.to (join_below (ring_text l.self.sheet.now) l.first-index) l.to
