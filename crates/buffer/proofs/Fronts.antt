-- A text at the front of a buffer, by whether it fits. Assumes nothing.
use Rattle.std.proofs.Common.{ℕ, ◌≡◌, refl, sym, ap, ◌∙◌, Bool, true, false, List, zero-add, leb, length, leb-true, Some, None}
use Rattle.std.proofs.Math.Seq.{sets-eq}
use Rattle.buffer.specs.Sinks.{Put}
use Rattle.buffer.specs.Fronts.{front_filled, front_after}

module _ (text buffer : List ℕ) {b : Bool} (e : b ≡ leb (length text) (length buffer)) where
  pub front_left : b ≡ false → (None ≡ front_filled text buffer) × (buffer ≡ front_after text buffer)
  unfolding front_filled front_after
  front_left h = rw (sym e ∙ h) (refl, refl)

  -- where it was put, and the buffer left so
  pub front_put : b ≡ true → {out : List ℕ} {count : ℕ} → Put buffer 0 text out count → (after : List ℕ) → after ≡ out → (Some count ≡ front_filled text buffer) × (after ≡ front_after text buffer)
  unfolding front_filled front_after
  front_put h p after q =
      let fits = sym e ∙ h in
      rw fits (ap Some (p.place ∙ zero-add (length text)), q ∙ p.makes ∙ sets-eq text buffer 0 (rw zero-add (leb-true _ _ fits)) ∙ rw zero-add refl)
