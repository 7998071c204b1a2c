use Rattle.std.proofs.Common.{◌+◌, refl, ap, arith}
use Rattle.program.proofs.Put.{drawing_fits, drawing_count, drawing_left}
use Rattle.program.proofs.put_drawing.Goals as goal

pub unwrap-requires : goal.unwrap-requires
unwrap-requires c = rw (drawing_fits _ c.requires.sound _ _ c.requires.room _ c.write_drawing.ensures.0) refl

pub overflow_add-to : goal.overflow_add-to
overflow_add-to c =
    omega (arith, c.requires.room, drawing_count _ c.requires.sound _ _ c.requires.room _ c.write_drawing.ensures.0 _ c.unwrap.ensures)

pub returns : goal.returns
returns c =
    let count = drawing_count _ c.requires.sound _ _ c.requires.room _ c.write_drawing.ensures.0 _ c.unwrap.ensures in
    (record { place = ap (λ n. c.args.to.now.filled + n) count; makes = drawing_left _ c.requires.sound _ _ c.requires.room _ c.write_drawing.ensures.1 }, refl)
