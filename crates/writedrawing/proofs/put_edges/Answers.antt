use Rattle.counting.specs.Below.{join_below}
use Rattle.buffer.proofs.Parts.{joined_more, room_more}
use Rattle.drawing.specs.Write.{edge_line}
use Rattle.writedrawing.specs.Inner.{edge_text}
use Rattle.writedrawing.proofs.put_edges.Goals as goal

pub loop-e-init : goal.loop-e-init
unfolding join_below
loop-e-init g c = g.met.S.Sink.nothing _

pub put_line-requires-clause-room : goal.put_line-requires-clause-room
unfolding edge_line
put_line-requires-clause-room g c = room_more g.met.S.Sink.counted (edge_text c.args.edges.now) _ c.loop-e.e-index c.loop-e-test.true c.requires c.loop-e.invariant

pub loop-e-preserved : goal.loop-e-preserved
unfolding edge_line
loop-e-preserved g c = joined_more g.met.S.Sink.joined (edge_text c.args.edges.now) c.loop-e.e-index c.loop-e.invariant c.put_line.ensures
