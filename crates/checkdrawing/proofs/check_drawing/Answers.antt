-- `check_drawing` meets its contract. Assumes nothing.
use Rattle.std.proofs.Common.{arith, rules, sym, ◌∙◌}
use Rattle.sheet.specs.Darts.{Sized}
use Rattle.soundness.proofs.Law.{sound_law}
use Rattle.checkdrawing.proofs.Outcomes.{not_sound, not_shown, shown, declared}
use Rattle.checkdrawing.proofs.check_drawing.Goals as goal

pub returns-then-not-is_sound : goal.returns-then-not-is_sound
returns-then-not-is_sound c = not_sound _ _ (sym c.is_sound.ensures ∙ c.if-not-is_sound.true)

pub read_drawing-requires : goal.read_drawing-requires
read_drawing-requires c =
    let sized : Sized c.args.s = search rules in
    let S = (sound_law c.args.s sized).0 (sym c.if-not-is_sound.ensures) in
    (S.limits.vertices_most, omega (arith, S.limits.edges_most))

pub returns-in_default : goal.returns-in_default
returns-in_default c = not_shown _ _ c.read_drawing.ensures (sym c.if-not-is_sound.ensures) (search rules)

pub check_shown-requires-clause-sound : goal.check_shown-requires-clause-sound
check_shown-requires-clause-sound c = let sized : Sized c.args.s = search rules in ((sound_law c.args.s sized).0 (sym c.if-not-is_sound.ensures), sym c.if-not-is_sound.ensures)

pub check_shown-requires-clause-declared : goal.check_shown-requires-clause-declared
check_shown-requires-clause-declared c =
    let sized : Sized c.args.s = search rules in
    declared _ _ c.read_drawing.ensures ((sound_law c.args.s sized).0 (sym c.if-not-is_sound.ensures)) {D = c.in-Some.drawing} (search rules)

pub returns : goal.returns
returns c = shown _ _ c.read_drawing.ensures (search rules) c.check_shown.ensures
