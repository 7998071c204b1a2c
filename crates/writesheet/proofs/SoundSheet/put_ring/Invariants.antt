use Rattle.std.proofs.Common.{◌<◌, ◌≤◌, ◌+◌, ◌-◌, length}
use Rattle.sheet.specs.Darts.{darts, next}
use Rattle.writesheet.proofs.Putting.{left_of}
use Rattle.writesheet.proofs.SoundSheet.put_ring.Given as goal

-- what is left of the line fits, and makes it whole
abbrev pub invariant-loop-steps : goal.invariant-loop-steps
invariant-loop-steps g l =
    let s = l.self.sheet.now in
    let left = left_of s l.first (darts s - l._steps) l.d in
    (l.d < darts s)
    × (g.S.Sink.used l.to + length left ≤ g.S.Sink.size l.to)
    × ((last : _) → g.S.Sink.puts l.to left last → g.S.Sink.puts l.initial.to (left_of s l.first (darts s - 1) (next s l.first)) last)
