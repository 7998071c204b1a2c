use Rattle.std.proofs.Common.{rules, ◌≡◌, arith, length, length-take, take}
use Rattle.std.proofs.lemmas.List.{length_push}
use Rattle.std.proofs.lemmas.Slice.Zip.{zip_turn, zip_end}
use Rattle.counting.specs.Below.{join_below}
use Rattle.buffer.proofs.Parts.{joined_more, room_more}
use Rattle.writesheet.specs.Inner.{edge_text}
use Rattle.writesheet.proofs.Putting.{edge_line_law}
use Rattle.writesheet.proofs.SoundSheet.put_edges.Goals as goal

pub loop-tail-init : goal.loop-tail-init
unfolding join_below
loop-tail-init g c = g.met.S.Sink.nothing _

pub put_line-requires-clause-room : goal.put_line-requires-clause-room
put_line-requires-clause-room g c =
    let s = c.args.self.now.sheet.now in
    let (h, k, tail, head) = zip_turn (take s.edges s.tails) (take s.edges s.heads) c.loop-tail.yielded c.into_iter-tail-iterator.result c.loop-tail.tail-iterator c.next.new.self _ (search rules) (search rules) c.loop-tail.yielded_by _ c.in-Some.is c.next.ensures.steps in
    rw (edge_line_law s _ h (tail 0) (head 0)) (room_more g.met.S.Sink.counted (edge_text s) _ _ (omega (arith, length-take s.edges s.tails)) c.requires c.loop-tail.invariant)

pub loop-tail-preserved : goal.loop-tail-preserved
loop-tail-preserved g c =
    let s = c.args.self.now.sheet.now in
    let (h, k, tail, head) = zip_turn (take s.edges s.tails) (take s.edges s.heads) c.loop-tail.yielded c.into_iter-tail-iterator.result c.loop-tail.tail-iterator c.next.new.self _ (search rules) (search rules) c.loop-tail.yielded_by _ c.in-Some.is c.next.ensures.steps in
    rw (length_push c.loop-tail.yielded (c.in-Some.field-0-0, c.in-Some.field-0-1)) (joined_more g.met.S.Sink.joined (edge_text s) _ c.loop-tail.invariant (rw (edge_line_law s _ h (tail 0) (head 0)) at c.put_line.ensures))

pub returns : goal.returns
returns g c =
    let s = c.args.self.now.sheet.now in
    let h = zip_end (take s.edges s.tails) (take s.edges s.heads) c.loop-tail.yielded c.into_iter-tail-iterator.result c.loop-tail.tail-iterator c.next.new.self _ (search rules) (search rules) c.loop-tail.yielded_by c.in-None.is c.next.ensures.steps in
    let sized = c.args.self.now.sound.1 in
    let all : length c.loop-tail.yielded ≡ s.edges = omega (arith, h, length-take s.edges s.tails, length-take s.edges s.heads, sized.tails, sized.heads, c.args.self.now.limits.edges_most) in
    rw all at c.loop-tail.invariant
