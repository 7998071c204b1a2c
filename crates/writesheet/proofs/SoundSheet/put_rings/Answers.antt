use Rattle.std.proofs.Common.{◌≡◌, arith}
use Rattle.counting.specs.Below.{join_below}
use Rattle.buffer.proofs.Parts.{joined_more, room_more}
use Rattle.writesheet.specs.Inner.{ring_text}
use Rattle.writesheet.proofs.Entries.{sound_of}
use Rattle.writesheet.proofs.Firsts.{first_below}
use Rattle.writesheet.proofs.Putting.{ring_line_law}
use Rattle.writesheet.proofs.SoundSheet.put_rings.Goals as goal

pub loop-first-init : goal.loop-first-init
unfolding join_below
loop-first-init g c = g.met.S.Sink.nothing _

pub put_ring-requires-clause-inside : goal.put_ring-requires-clause-inside
put_ring-requires-clause-inside g c =
    let t = c.args.self.now in
    first_below (sound_of t.sound) t.lowest.1 _ (omega (arith, t.lowest.0, c.loop-first-test.true)) _ c.from.ensures

pub put_ring-requires-clause-room : goal.put_ring-requires-clause-room
put_ring-requires-clause-room g c =
    let t = c.args.self.now in
    rw (ring_line_law (sound_of t.sound) t.lowest.0 t.lowest.1 _ c.loop-first-test.true _ c.from.ensures)
    (room_more g.met.S.Sink.counted (ring_text t.sheet.now) _ c.loop-first.first-index (omega arith) c.requires c.loop-first.invariant)

pub loop-first-preserved : goal.loop-first-preserved
loop-first-preserved g c =
    let t = c.args.self.now in
    let lined = ring_line_law (sound_of t.sound) t.lowest.0 t.lowest.1 _ c.loop-first-test.true _ c.from.ensures in
    joined_more g.met.S.Sink.joined (ring_text t.sheet.now) c.loop-first.first-index c.loop-first.invariant (rw lined at c.put_ring.ensures)

pub returns : goal.returns
returns g c =
    let t = c.args.self.now in
    let all : c.loop-first.first-index ≡ t.sheet.now.vertices = omega (arith, t.lowest.0) in
    rw all at c.loop-first.invariant
