-- What write drawing answers, by what draw answered. Assumes nothing.
use Rattle.std.proofs.Common.{ℕ, ◌≡◌, true, List, Option, Result, Ok, Err, ok_or, ◌∙◌}
use Rattle.buffer.specs.Fronts.{front_filled, front_after}
use Rattle.counting.proofs.Choice as choice
use Rattle.answers.specs.declared.Refusal.TheVariants.{NotSound, BufferTooShort}
use Rattle.answers.specs.declared.Refusal.{Refusal}
use Rattle.clauses.specs.declared.Sheet.{Sheet}
use Rattle.sheet.specs.Check.{sound}
use Rattle.soundness.proofs.Judge.{passed_says}
use Rattle.sheet.specs.Sound.{Limits}
use Rattle.soundness.proofs.Clauses.{limits_law}
use Rattle.writesheet.proofs.Outcomes.{not_sound, front_written}
use Rattle.drawing.specs.declared.Drawing.{Drawing}
use Rattle.drawing.specs.Draw.{drawing_of, draw_call}
use Rattle.drawing.proofs.Answered.{drawn}
use Rattle.drawing.specs.Write.{drawing_text, write_drawing, buffer_after_drawing}

-- the answer w to a call that left `out` of the buffer
abbrev pub Outcome : Sheet → List ℕ → Result ℕ Refusal → List ℕ → Type 0
Outcome s buffer w out = (w ≡ write_drawing s buffer) × (out ≡ buffer_after_drawing s buffer)

-- the text of a drawing that has the bars and wires of a sheet
abbrev pub text_for : Sheet → Drawing → List ℕ
text_for s d = drawing_text s.vertices s.edges d

-- of a sound sheet
module _ (s : Sheet) (e : sound s ≡ true) where
  -- what the text of its drawing at the front of the buffer gives
  pub drawing_put : (d : Drawing) → d ≡ drawing_of s → (buffer : List ℕ) → {count : Option ℕ} → count ≡ front_filled (text_for s d) buffer → {w : Result ℕ Refusal} → w ≡ ok_or count BufferTooShort
      → {out : List ℕ} → out ≡ front_after (text_for s d) buffer → Outcome s buffer w out
  drawing_put d q buffer f a o = front_written s _ buffer e (rw q at f) a (rw q at o)

-- by what draw answered
module _ (s : Sheet) (r : Result Drawing Refusal) (p : r ≡ draw_call s) where
  pub refused : (q : Refusal) → r ≡ Err q → (buffer : List ℕ) → Outcome s buffer (Err q) buffer
  refused q h buffer =
      let (n, q_is) = choice.refused (sound s) (drawing_of s) NotSound (p ∙ drawn s) h in
      rw q_is (not_sound s _ buffer n)

  module _ (d : Drawing) (a : r ≡ Ok d) where
    drawn_is : (sound s ≡ true) × (d ≡ drawing_of s)
    drawn_is = choice.accepted (sound s) (drawing_of s) NotSound (p ∙ drawn s) a

    pub is_so : sound s ≡ true
    is_so = drawn_is.0

    pub limits : Limits s
    limits = (limits_law s).0 ((passed_says s).0 is_so).lined.limits

    pub is_drawing : d ≡ drawing_of s
    is_drawing = drawn_is.1
