use Rattle.replay.proofs.Turns.{Made}
use Rattle.replay.proofs.replay.Given as goal

abbrev pub invariant-loop-i : goal.invariant-loop-i
invariant-loop-i l = Made l.calls l.text l.fn.answers l.answers l.s l.i
