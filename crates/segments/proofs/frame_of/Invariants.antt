-- What is left widens the frame to the one that all of the others widen the first one's to.
use Rattle.std.proofs.Common.{◌≡◌, drop}
use Rattle.segments.specs.Segments.{widened_by}
use Rattle.segments.proofs.frame_of.Given as goal

abbrev pub invariant-loop-segment : goal.invariant-loop-segment
invariant-loop-segment l = widened_by l.frame (drop l.segment-index l.others) ≡ widened_by l.initial.frame l.others
