-- The four parts of the text are put one after the other. Assumes nothing.
use Rattle.buffer.proofs.Parts.{joined_four, room_one, room_two, room_three, room_four}
use Rattle.writedrawing.proofs.SegmentsText.put.Goals as goal

pub put_line-requires-clause-room : goal.put_line-requires-clause-room
put_line-requires-clause-room g c = room_one g.met.S.Sink.counted _ _ _ _ c.requires

pub put_line-requires-2-clause-room : goal.put_line-requires-2-clause-room
put_line-requires-2-clause-room g c = room_two g.met.S.Sink.counted _ _ _ _ c.requires c.put_line.ensures

pub put_vertices-requires : goal.put_vertices-requires
put_vertices-requires g c = room_three g.met.S.Sink.counted _ _ _ _ c.requires c.put_line.ensures c.put_line-2.ensures

pub put_edges-requires : goal.put_edges-requires
put_edges-requires g c = room_four g.met.S.Sink.counted _ _ _ _ c.requires c.put_line.ensures c.put_line-2.ensures c.put_vertices.ensures

pub returns : goal.returns
returns g c = joined_four g.met.S.Sink.joined c.put_line.ensures c.put_line-2.ensures c.put_vertices.ensures c.put_edges.ensures
