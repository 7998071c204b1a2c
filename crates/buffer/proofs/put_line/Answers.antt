use Rattle.std.proofs.Common.{◌-◌, ◌∙◌, ap, length, take, drop, arith, take_all}
use Rattle.text.specs.Written.{line_end}
use Rattle.buffer.proofs.Parts.{joined_four, room_one, room_two, room_three, room_four}
use Rattle.buffer.proofs.Writing.{others, others_more, others_room, line_parts, rest_part}
use Rattle.buffer.proofs.put_line.Goals as goal

pub bytes-requires : goal.bytes-requires
bytes-requires g c = room_one g.met.S.Sink.counted _ _ _ _ (rw (line_parts _ _ c.requires.some) at c.requires.room)

pub number-requires : goal.number-requires
number-requires g c = room_two g.met.S.Sink.counted _ _ _ _ (rw (line_parts _ _ c.requires.some) at c.requires.room) c.bytes.ensures

pub loop-v-init : goal.loop-v-init
unfolding others
loop-v-init g c = g.met.S.Sink.nothing _

pub put_next-requires : goal.put_next-requires
put_next-requires g c =
    let values = c.args.values.now in
    let counted = g.met.S.Sink.counted in
    omega (
      arith,
      room_three counted _ _ _ _ (rw (line_parts _ _ c.requires.some) at c.requires.room) c.bytes.ensures c.number.ensures,
      counted _ _ _ c.loop-v.invariant,
      others_room (take (length values - 1) (drop 1 values)) c.loop-v.v-index c.loop-v-test.true,
      ap (λ t. length (others t)) (rest_part values),
    )

pub loop-v-preserved : goal.loop-v-preserved
loop-v-preserved g c = rw (others_more _ c.loop-v.v-index c.loop-v-test.true) (g.met.S.Sink.joined _ _ _ _ _ c.loop-v.invariant c.put_next.ensures)

pub byte-requires : goal.byte-requires
byte-requires g c =
    let all = take_all c.loop-v.v-index _ c.loop-v-test.false ∙ rest_part c.args.values.now in
    omega (arith, room_four g.met.S.Sink.counted _ _ _ line_end (rw (line_parts _ _ c.requires.some) at c.requires.room) c.bytes.ensures c.number.ensures (rw all at c.loop-v.invariant))

pub returns : goal.returns
returns g c =
    let all = take_all c.loop-v.v-index _ c.loop-v-test.false ∙ rest_part c.args.values.now in
    rw (line_parts _ _ c.requires.some) (joined_four g.met.S.Sink.joined c.bytes.ensures c.number.ensures (rw all at c.loop-v.invariant) c.byte.ensures)
