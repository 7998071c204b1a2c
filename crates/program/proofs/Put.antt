-- What is put into the buffer. Assumes nothing.
use Rattle.std.proofs.Common.{Result, Ok, ℕ, ◌+◌, ◌-◌, ◌≤◌, ◌≡◌, refl, sym, ap, ◌∙◌, List, [], ◌∷◌, ◌++◌, append-nil, append_assoc, zero-add, arith, length, take, drop, length-drop, drop_of_length-le, take_all, drop-drop}
use Rattle.std.proofs.Math.Seq.{sets, sets-eq}
use Rattle.text.specs.Bytes.{bytes}
use Rattle.text.specs.Written.{line}
use Rattle.answers.specs.declared.Refusal.{Refusal}
use Rattle.answers.specs.Answers.{refusal_number}
use Rattle.clauses.specs.declared.Sheet.{Sheet}
use Rattle.writesheet.proofs.Outcomes.{Outcome, text_put}
use Rattle.preservation.specs.Laws.{Whole}
use Rattle.drawing.specs.Write.{drawing_text_of, write_drawing, buffer_after_drawing}
use Rattle.program.specs.Program.{refused_line}
use Rattle.program.proofs.Bound.{whole_sound}

pub refused_line_law : {number : ℕ} (r : Refusal) → number ≡ refusal_number r → line (bytes "refused=") (number ∷ []) ≡ refused_line r
unfolding refused_line
refused_line_law r e = rw e refl

-- what lies from a place of a list on, lent as a part
pub rest_part : (xs : List ℕ) (at : ℕ) → take (length xs - at) (drop at xs) ≡ drop at xs
rest_part xs at = take_all (length xs - at) (drop at xs) (omega (arith, length-drop at xs))

-- the part back in its place
part_back : (xs ys : List ℕ) (at : ℕ) → take at xs ++ (ys ++ drop (length xs - at) (drop at xs)) ≡ take at xs ++ ys
part_back xs ys at = ap (λ (l : List ℕ). take at xs ++ l) (ap (λ (l : List ℕ). ys ++ l) (drop_of_length-le (drop at xs) {i = length xs - at} (omega (arith, length-drop at xs))) ∙ append-nil ys)

-- a text put into the part
part_put : (xs text : List ℕ) (at : ℕ) → at + length text ≤ length xs → take at xs ++ sets (drop at xs) 0 text ≡ sets xs at text
part_put xs text at h =
    let inner : sets (drop at xs) 0 text ≡ text ++ drop (at + length text) xs =
    sets-eq text (drop at xs) 0 (omega (arith, length-drop at xs)) ∙ rw zero-add (ap (λ (l : List ℕ). text ++ l) (drop-drop (length text) at xs)) in
    ap (λ (l : List ℕ). take at xs ++ l) inner ∙ sym (append_assoc (take at xs) text (drop (at + length text) xs)) ∙ sym (sets-eq text xs at h)

-- a sheet's drawing is put from a place of the buffer on
module _ (s : Sheet) (w : Whole s) (out : List ℕ) (at : ℕ) (room : at + length (drawing_text_of s) ≤ length out) where
  drawn : Outcome s (drawing_text_of s) (drop at out) (Ok (length (drawing_text_of s))) (sets (drop at out) 0 (drawing_text_of s))
  drawn = text_put s (drawing_text_of s) (drop at out) (whole_sound w) (omega (arith, length-drop at out)) (length (drawing_text_of s)) refl (sets (drop at out) 0 (drawing_text_of s)) refl

  pub drawing_fits : (r : Result ℕ Refusal) → r ≡ write_drawing s (take (length out - at) (drop at out)) → r ≡ Ok (length (drawing_text_of s))
  drawing_fits r e = rw (rest_part out at) at e ∙ sym drawn.0

  pub drawing_count : (r : Result ℕ Refusal) → r ≡ write_drawing s (take (length out - at) (drop at out)) → (count : ℕ) → r ≡ Ok count → count ≡ length (drawing_text_of s)
  drawing_count r e count q = let z = drawing_fits r e in cc

  pub drawing_left : (after : List ℕ) → after ≡ buffer_after_drawing s (take (length out - at) (drop at out))
      → take at out ++ (after ++ drop (length out - at) (drop at out)) ≡ sets out at (drawing_text_of s)
  drawing_left after e =
      part_back out after at
      ∙ ap (λ (l : List ℕ). take at out ++ l) (rw (rest_part out at) at e ∙ sym drawn.1)
      ∙ part_put out (drawing_text_of s) at room
