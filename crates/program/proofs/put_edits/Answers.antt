-- `put_edits` meets its contract: in the loop the rest of the output is left to put. Assumes nothing.
use Rattle.std.proofs.Common.{◌∙◌, ap, length, arith}
use Rattle.buffer.specs.Sinks.{put_joined, put_size}
use Rattle.program.proofs.Edits.{lines_over}
use Rattle.program.proofs.Turns.{taken_some, taken_most, made_whole, accepted_turn, refused_turn, refused_size}
use Rattle.program.proofs.put_edits.Goals as goal
use Rattle.program.proofs.put_edits.Goals.{in-Ok, in-Err}

pub loop-at-init : goal.loop-at-init
loop-at-init c = (c.requires.sound, c.requires.room, λ last p. p)

pub put_refused-requires : goal.put_refused-requires
put_refused-requires c =
    omega (arith, c.loop-at.invariant.1, refused_size c.args.input.now _ c.loop-at-test.true _ _ c.read_edit-read.ensures _ c.apply.ensures _ c.in-Err.is)

pub overflow_add-at : goal.overflow_add-at
overflow_add-at c = omega (arith, taken_most c.args.input.now _ c.loop-at-test.true c.loop-at.sheet _ c.read_edit-read.ensures)

pub loop-at-smaller : goal.loop-at-smaller
loop-at-smaller c =
    let h = c.loop-at-test.true in
    let er = c.read_edit-read.ensures in
    omega (arith, taken_some c.args.input.now _ h c.loop-at.sheet _ er, taken_most c.args.input.now _ h c.loop-at.sheet _ er)

pub loop-at-preserved : goal.loop-at-preserved
loop-at-preserved c =
    let input = c.args.input.now in
    let h = c.loop-at-test.true in
    let er = c.read_edit-read.ensures in
    let ee = c.apply.ensures in
    let inv = c.loop-at.invariant in
    elim c.match-apply.branch [
      | in-Ok w ↦
          let left = accepted_turn input _ h _ _ er _ ee _ w.in-Ok.is in
          rw (w.sheet-is, w.to-is) (made_whole input _ h _ _ er _ ee inv.0 _ w.in-Ok.is, rw left at inv.1, λ last p. inv.2 last (rw left p))
      | in-Err w ↦
          let put = w.put_refused.ensures in
          rw (w.sheet-is, w.to-is) (
            inv.0,
            omega (arith, inv.1, refused_size input _ h _ _ er _ ee _ w.in-Err.is, put.0.place, put_size put.0),
            λ last p. inv.2 last (rw (refused_turn input _ h _ _ er _ ee _ w.in-Err.is) (put_joined put.0 p.0, p.1 ∙ put.1)),
          )
    ]

pub put_drawing-requires-clause-room : goal.put_drawing-requires-clause-room
put_drawing-requires-clause-room c = omega (arith, c.loop-at.invariant.1, ap length (lines_over c.args.input.now _ c.loop-at.sheet c.loop-at-test.false))

pub returns : goal.returns
returns c = c.loop-at.invariant.2 c.put_drawing.new.to (rw (lines_over c.args.input.now _ _ c.loop-at-test.false) c.put_drawing.ensures)
