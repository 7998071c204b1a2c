use Rattle.std.proofs.Common.{◌+◌, ◌-◌, ◌≤◌, length}
use Rattle.buffer.specs.Sinks.{Puts}
use Rattle.preservation.specs.Laws.{Whole}
use Rattle.program.proofs.Turns.{lines}
use Rattle.program.proofs.put_edits.Given as goal

-- what is left of the output fits, and makes it whole
abbrev pub invariant-loop-at : goal.invariant-loop-at
invariant-loop-at l =
    let left = lines l.input l.sheet l.at in
    Whole l.sheet
    × (l.to.filled + length left ≤ length l.to.out.now)
    × ((last : _) → Puts l.to left last → Puts l.initial.to (lines l.input l.initial.sheet l.start) last)

abbrev pub decreases-loop-at : goal.decreases-loop-at
decreases-loop-at l = length l.input - l.at
