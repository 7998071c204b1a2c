-- No end so far is the second descent of its ring, and the marks are those of the bars whose rings have a descent so far.
use Rattle.std.proofs.Common.{◌≡◌, true}
use Rattle.ringorder.proofs.Marks.{marks_at, passed}
use Rattle.ringorder.proofs.in_order.Given as goal

abbrev pub invariant-loop-dart : goal.invariant-loop-dart
invariant-loop-dart l = record { once : passed l.s l.d l.dart ≡ true; marks : l.descended ≡ marks_at l.s l.d l.dart }
