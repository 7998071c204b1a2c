-- The four parts of the text are put one after the other. Assumes nothing.
use Rattle.buffer.proofs.Parts.{joined_four, room_one, room_two, room_three, room_four}
use Rattle.writesheet.specs.Write.{sheet_text}
use Rattle.writesheet.proofs.SoundSheetText.put.Goals as goal

pub put_line-requires-clause-room : goal.put_line-requires-clause-room
unfolding sheet_text
put_line-requires-clause-room g c = room_one g.met.S.Sink.counted _ _ _ _ c.requires

pub put_line-requires-2-clause-room : goal.put_line-requires-2-clause-room
unfolding sheet_text
put_line-requires-2-clause-room g c = room_two g.met.S.Sink.counted _ _ _ _ c.requires c.put_line.ensures

pub put_edges-requires : goal.put_edges-requires
unfolding sheet_text
put_edges-requires g c = room_three g.met.S.Sink.counted _ _ _ _ c.requires c.put_line.ensures c.put_line-2.ensures

pub put_rings-requires : goal.put_rings-requires
unfolding sheet_text
put_rings-requires g c = room_four g.met.S.Sink.counted _ _ _ _ c.requires c.put_line.ensures c.put_line-2.ensures c.put_edges.ensures

pub returns : goal.returns
unfolding sheet_text
returns g c = joined_four g.met.S.Sink.joined c.put_line.ensures c.put_line-2.ensures c.put_edges.ensures c.put_rings.ensures
