-- `put_ring` meets its contract: in the loop the rest of the line is left to put. Assumes nothing.
use Rattle.std.proofs.Common.{◌≡◌, ◌+◌, ◌-◌, ap, length, arith}
use Rattle.text.specs.Written.{line_end}
use Rattle.sheet.specs.Darts.{darts}
use Rattle.writesheet.proofs.Firsts.{next_below}
use Rattle.writesheet.proofs.Entries.{sound_of}
use Rattle.writesheet.proofs.Putting.{left_of, left_first, left_step, left_none, left_back, line_size, step_size}
use Rattle.writesheet.proofs.SoundSheet.put_ring.Goals as goal
use Rattle.writesheet.proofs.SoundSheet.put_ring.Goals.{else-loop-steps-test, then-loop-steps-test+then-d-first}

pub bytes-requires : goal.bytes-requires
bytes-requires g c = omega (arith, c.requires.room, line_size c.args.self.now.sheet.now c.args.first (omega arith))

pub number-requires : goal.number-requires
number-requires g c = omega (arith, c.requires.room, line_size c.args.self.now.sheet.now c.args.first (omega arith), g.met.S.Sink.counted _ _ _ c.bytes.ensures)

pub loop-steps-init : goal.loop-steps-init
loop-steps-init g c =
    let s = c.args.self.now.sheet.now in
    let first = c.args.first in
    let counted = g.met.S.Sink.counted in (
      omega (arith, c.from-d.ensures, next_below (sound_of c.args.self.now.sound) first c.requires.inside),
      omega (
        arith,
        c.requires.room,
        line_size s first (omega arith),
        ap (λ d. length (left_of s first (darts s - 1) d)) c.from-d.ensures,
        counted _ _ _ c.bytes.ensures,
        counted _ _ _ c.number.ensures,
      ),
      λ last p. rw c.from-d.ensures at p,
    )

pub put_next-requires : goal.put_next-requires
put_next-requires g c =
    let l = c.loop-steps in
    omega (arith, l.invariant.1, step_size c.args.self.now.sheet.now c.args.first l._steps l.d c.loop-steps-test.true c.if-d-first.false)

pub loop-steps-preserved : goal.loop-steps-preserved
loop-steps-preserved g c =
    let s = c.args.self.now.sheet.now in
    let first = c.args.first in
    let l = c.loop-steps in
    let h = c.loop-steps-test.true in
    let other = c.if-d-first.false in (
      omega (arith, c.from-d-in-loop-steps.ensures, next_below (sound_of c.args.self.now.sound) l.d l.invariant.0),
      omega (
        arith,
        l.invariant.1,
        step_size s first l._steps l.d h other,
        ap (λ d. length (left_of s first (darts s - (l._steps + 1)) d)) c.from-d-in-loop-steps.ensures,
        g.met.S.Sink.counted _ _ _ c.put_next.ensures,
      ),
      λ last p. l.invariant.2 last (rw (left_step s first l._steps l.d h other) (g.met.S.Sink.joined _ _ _ _ _ c.put_next.ensures (rw c.from-d-in-loop-steps.ensures at p))),
    )

pub byte-requires : goal.byte-requires
byte-requires g c =
    let l = c.loop-steps in
    let ending : left_of c.args.self.now.sheet.now c.args.first (darts c.args.self.now.sheet.now - l._steps) l.d ≡ line_end =
    elim c.loop-steps-test.branch [ else-loop-steps-test w ↦ left_none _ _ _ _ w.loop-steps-test.false | then-loop-steps-test+then-d-first w ↦ left_back _ _ _ _ w.if-d-first.true ] in
    omega (arith, l.invariant.1, ap length ending)

pub returns : goal.returns
returns g c =
    let s = c.args.self.now.sheet.now in
    let l = c.loop-steps in
    let joined = g.met.S.Sink.joined in
    let ending : left_of s c.args.first (darts s - l._steps) l.d ≡ line_end =
    elim c.loop-steps-test.branch [ else-loop-steps-test w ↦ left_none _ _ _ _ w.loop-steps-test.false | then-loop-steps-test+then-d-first w ↦ left_back _ _ _ _ w.if-d-first.true ] in
    rw (left_first s c.args.first (omega arith)) (joined _ _ _ _ _ (joined _ _ _ _ _ c.bytes.ensures c.number.ensures) (l.invariant.2 _ (rw ending c.byte.ensures)))
