-- What draw answers, from what the check of the sheet finds. Assumes nothing.
use Rattle.std.proofs.Common.{◌≡◌, true, false, replicate, Result, Ok, Err, sym}
use Rattle.clauses.specs.declared.Sheet.{Sheet}
use Rattle.sheet.specs.declared.Findings.{Findings}
use Rattle.answers.specs.declared.Refusal.TheVariants.{NotSound}
use Rattle.answers.specs.declared.Refusal.{Refusal}
use Rattle.sheet.specs.Darts.{Sized}
use Rattle.sheet.specs.Sound.{Sound}
use Rattle.sheet.specs.Check.{sound}
use Rattle.sheet.specs.Inner.{findings_in, findings_of}
use Rattle.sheet.proofs.Found.{found_is}
use Rattle.soundness.proofs.Law.{sound_law}
use Rattle.drawing.specs.declared.Drawing.{Drawing}
use Rattle.drawing.specs.Draw.{no_vertex_segment, no_edge_segment, drawing_of, zero_drawing, draw_call}
use Rattle.drawing.proofs.Unique.{drawing_equal}
use Rattle.drawing.proofs.Answered.{drawn, sound_drawn}

-- the drawing of zeros
pub zeros : (d : Drawing) → d.rows ≡ 0 → d.columns ≡ 0 → d.vertices ≡ replicate 128 no_vertex_segment → d.edges ≡ replicate 256 no_edge_segment → d ≡ zero_drawing
unfolding zero_drawing
zeros d r c v e = drawing_equal r c v e

module _ (s : Sheet) where
  pub not_sound : sound s ≡ false → Err NotSound ≡ draw_call s
  not_sound t = rw t at (sym (drawn s))

  pub is_sound : sound s ≡ true → (d : Drawing) → d ≡ drawing_of s → Ok d ≡ draw_call s
  is_sound t d e = rw e (sym (sound_drawn s t))

-- what the check found of a sheet that it accepted
pub record Found (s : Sheet) (f : Findings) : Type 0 where
  pub is_so : sound s ≡ true
  pub has_sound : Sound s
  pub findings : f ≡ findings_in s

-- and so it is of what it returned
pub found : {s : Sheet} {f : Findings} {r : Result Findings Refusal} → Sized s → r ≡ findings_of s → r ≡ Ok f → Found s f
found {s} z e q =
    let (t, f_is) = found_is s _ e _ q in
    record { is_so = t; has_sound = (sound_law s z).0 t; findings = f_is }
