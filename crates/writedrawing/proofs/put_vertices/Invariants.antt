use Rattle.counting.specs.Below.{join_below}
use Rattle.writedrawing.specs.Inner.{vertex_text}
use Rattle.writedrawing.proofs.put_vertices.Given as goal

abbrev pub invariant-loop-v : goal.invariant-loop-v
invariant-loop-v g l = g.S.Sink.puts l.initial.to (join_below (vertex_text l.vertices) l.v-index) l.to
