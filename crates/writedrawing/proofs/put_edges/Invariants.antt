use Rattle.counting.specs.Below.{join_below}
use Rattle.writedrawing.specs.Inner.{edge_text}
use Rattle.writedrawing.proofs.put_edges.Given as goal

abbrev pub invariant-loop-e : goal.invariant-loop-e
invariant-loop-e g l = g.S.Sink.puts l.initial.to (join_below (edge_text l.edges) l.e-index) l.to
