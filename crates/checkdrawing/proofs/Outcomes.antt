-- What check drawing answers, by what the text shows. Assumes nothing.
use Rattle.std.proofs.Common.{◌≡◌, refl, sym, ◌∙◌, true, false, List, ℕ, ◌<◌, Option, Some, None, Err}
use Rattle.answers.specs.Answers.{Answer}
use Rattle.answers.specs.declared.Refusal.TheVariants.{NotSound, BadDrawing}
use Rattle.answers.specs.Refusals.{first}
use Rattle.clauses.specs.declared.Sheet.{Sheet}
use Rattle.sheet.specs.Sound.{Sound}
use Rattle.sheet.specs.Check.{sound}
use Rattle.drawing.specs.declared.Drawing.{Drawing}
use Rattle.readdrawing.specs.Reading.{drawing_of_text}
use Rattle.readdrawing.proofs.Exactly.{read_drawing_law}
use Rattle.checkdrawing.specs.Call.{passes, drawing_answer, check_drawing_call}

module _ (s : Sheet) (text : List ℕ) where
  pub not_sound : sound s ≡ false → Err NotSound ≡ check_drawing_call s text
  unfolding drawing_answer first
  not_sound t = rw t refl

  module _ {o : Option Drawing} (e : o ≡ drawing_of_text text s.vertices s.edges) where
    pub not_shown : sound s ≡ true → o ≡ None → Err BadDrawing ≡ check_drawing_call s text
    unfolding drawing_answer first passes
    not_shown t n = rw (t, sym e ∙ n) refl

    pub shown : {D : Drawing} → o ≡ Some D → {a : Answer} → a ≡ drawing_answer s (Some D) → a ≡ check_drawing_call s text
    shown d q = rw (sym e ∙ d) q

    -- the numbers declared have at most three digits
    pub declared : (S : Sound s) {D : Drawing} → o ≡ Some D → (D.rows < 1000) × (D.columns < 1000)
    declared S {D} d =
        let W = ((read_drawing_law text s.vertices s.edges S.limits.vertices_most S.limits.edges_most D).0 (sym e ∙ d)).writable in (W.rows, W.columns)
