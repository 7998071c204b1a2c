-- `writesheet::write_sheet` meets its contract: a sheet that is not sound, then a buffer that is too short is refused. Assumes nothing.
use Rattle.std.proofs.Common.{rules, sym, ◌∙◌, arith, length-take}
use Rattle.writesheet.proofs.Entries.{sound_of, sheet_short}
use Rattle.writesheet.proofs.Firsts.{firsts_front}
use Rattle.writesheet.proofs.Outcomes.{not_sound, front_written}
use Rattle.writesheet.proofs.write_sheet.Goals as goal

pub returns-then-not-is_sound : goal.returns-then-not-is_sound
returns-then-not-is_sound c = not_sound _ _ _ (sym c.is_sound.ensures ∙ c.if-not-is_sound.true)

pub first_darts-firsts-requires : goal.first_darts-firsts-requires
first_darts-firsts-requires c = sound_of (sym c.is_sound.ensures ∙ c.if-not-is_sound.false, search rules)

pub slice_bounds-firsts-end : goal.slice_bounds-firsts-end
slice_bounds-firsts-end c = let S = sound_of (sym c.is_sound.ensures ∙ c.if-not-is_sound.false, search rules) in omega (arith, S.limits.vertices_most)

pub slice_bounds-text-end : goal.slice_bounds-text-end
slice_bounds-text-end c =
    let S = sound_of (sym c.is_sound.ensures ∙ c.if-not-is_sound.false, search rules) in
    omega (arith, S.limits.vertices_most, length-take c.args.s.vertices c.first_darts-firsts.result)

pub invariant_of-text : goal.invariant_of-text
invariant_of-text c =
    let e = sym c.is_sound.ensures ∙ c.if-not-is_sound.false in
    let S = sound_of (e, search rules) in
    record { limits = S.limits; sound = (e, search rules); lowest = (omega (arith, length-take c.args.s.vertices c.first_darts-firsts.result), firsts_front c.first_darts-firsts.ensures) }

pub write_front-requires : goal.write_front-requires
write_front-requires c = sheet_short (sound_of (sym c.is_sound.ensures ∙ c.if-not-is_sound.false, search rules))

pub returns : goal.returns
returns c = front_written _ _ _ (sym c.is_sound.ensures ∙ c.if-not-is_sound.false) c.write_front.ensures.0 c.ok_or.ensures.value c.write_front.ensures.1
