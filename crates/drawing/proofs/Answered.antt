-- Draw answers the drawing of a sound sheet. Assumes nothing.
use Rattle.std.proofs.Common.{◌≡◌, refl, true, Ok, Err, cond}
use Rattle.answers.specs.declared.Refusal.TheVariants.{NotSound}
use Rattle.answers.specs.Refusals.{first, answering}
use Rattle.clauses.specs.declared.Sheet.{Sheet}
use Rattle.sheet.specs.Check.{sound}
use Rattle.drawing.specs.Draw.{drawing_of, draw_answer, draw_call}
use Rattle.counting.proofs.Iterate.{by_bool}

pub drawn : (s : Sheet) → draw_call s ≡ cond (sound s) (Ok (drawing_of s)) (Err NotSound)
unfolding draw_answer first answering
drawn s = by_bool (sound s) (λ t. rw t refl) (λ t. rw t refl)

pub sound_drawn : (s : Sheet) → sound s ≡ true → draw_call s ≡ Ok (drawing_of s)
sound_drawn s e = rw e at (drawn s)
