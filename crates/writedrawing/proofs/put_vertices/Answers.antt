use Rattle.counting.specs.Below.{join_below}
use Rattle.buffer.proofs.Parts.{joined_more, room_more}
use Rattle.drawing.specs.Write.{vertex_line}
use Rattle.writedrawing.specs.Inner.{vertex_text}
use Rattle.writedrawing.proofs.put_vertices.Goals as goal

pub loop-v-init : goal.loop-v-init
unfolding join_below
loop-v-init g c = g.met.S.Sink.nothing _

pub put_line-requires-clause-room : goal.put_line-requires-clause-room
unfolding vertex_line
put_line-requires-clause-room g c = room_more g.met.S.Sink.counted (vertex_text c.args.vertices.now) _ c.loop-v.v-index c.loop-v-test.true c.requires c.loop-v.invariant

pub loop-v-preserved : goal.loop-v-preserved
unfolding vertex_line
loop-v-preserved g c = joined_more g.met.S.Sink.joined (vertex_text c.args.vertices.now) c.loop-v.v-index c.loop-v.invariant c.put_line.ensures
