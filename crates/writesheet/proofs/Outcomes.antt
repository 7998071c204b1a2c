-- What a writer answers, and what it leaves in the buffer. Assumes nothing.
use Rattle.std.proofs.Common.{ℕ, ◌≤◌, ◌≡◌, refl, ap, ◌∙◌, true, false, List, zero-add, length, leb, leb-true, leb-false, lt-ltb, le-ltb, Option, Result, Ok, Err, ok_or}
use Rattle.std.proofs.Math.Seq.{sets, sets-eq}
use Rattle.buffer.specs.Fronts.{front_filled, front_after}
use Rattle.counting.proofs.Iterate.{by_bool}
use Rattle.clauses.specs.declared.Sheet.{Sheet}
use Rattle.answers.specs.declared.Refusal.TheVariants.{NotSound, BufferTooShort}
use Rattle.answers.specs.Refusals.{first, answering}
use Rattle.sheet.specs.Check.{sound}
use Rattle.answers.specs.declared.Refusal.{Refusal}
use Rattle.writesheet.specs.Write.{write_answer, written, buffer_after}

-- the answer w to a call that left `out` of the buffer
abbrev pub Outcome : Sheet → List ℕ → List ℕ → Result ℕ Refusal → List ℕ → Type 0
Outcome s text buffer w out = (w ≡ written (write_answer s text buffer) text) × (out ≡ buffer_after (write_answer s text buffer) text buffer)

module _ (s : Sheet) (text buffer : List ℕ) where
  pub not_sound : sound s ≡ false → Outcome s text buffer (Err NotSound) buffer
  unfolding write_answer buffer_after first answering
  not_sound e = rw e (refl, refl)

  pub text_put : sound s ≡ true → length text ≤ length buffer → (count : ℕ) → count ≡ length text → (out : List ℕ) → out ≡ sets buffer 0 text
      → Outcome s text buffer (Ok count) out
  unfolding write_answer buffer_after first answering
  text_put e h count n out q =
      rw (e, le-ltb (length buffer) (length text) h)
      (ap Ok n, q ∙ sets-eq text buffer 0 (rw zero-add h) ∙ rw zero-add refl)

  -- what a text at the front of the buffer gives
  pub front_written : sound s ≡ true → {count : Option ℕ} → count ≡ front_filled text buffer → {w : Result ℕ Refusal} → w ≡ ok_or count BufferTooShort → {out : List ℕ} → out ≡ front_after text buffer
      → Outcome s text buffer w out
  unfolding write_answer buffer_after first answering front_filled front_after
  front_written e f a o =
      by_bool (leb (length text) (length buffer))
      (λ h. rw (e, le-ltb (length buffer) (length text) (leb-true _ _ h)) (a ∙ ap (λ c. ok_or c BufferTooShort) (rw h at f), rw h at o))
      (λ h. rw (e, lt-ltb (length buffer) (length text) (leb-false _ _ h)) (a ∙ ap (λ c. ok_or c BufferTooShort) (rw h at f), rw h at o))
