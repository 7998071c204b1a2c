-- The line at the front of a text, and the edit that it reads as. Assumes nothing.
use Rattle.std.proofs.Common.{◌≡◌, ℕ, suc, ◌+◌, ◌<◌, cond, eqb, ltb, List, [], ◌∷◌, length, get_or, Some, None, Option, refl, ◌∙◌, arith, le-ltb, lt-ltb}
use Rattle.std.specs.List.{position_or_len}
use Rattle.std.proofs.Math.Decide.{dec_lt}
use Rattle.counting.proofs.Iterate.{by_bool}
use Rattle.std.specs.Option.{option_map_or}
use Rattle.text.specs.declared.Numbers.{Numbers}
use Rattle.text.specs.Shapes.{with_one, with_four}
use Rattle.edit.specs.Inner.{counted}
use Rattle.text.specs.Reading.{Listed, numbers_of, last_line_at}
use Rattle.text.proofs.Counted.{one_by, one_counted, four_by, four_counted}
use Rattle.edit.specs.declared.Edit.{Edit}
use Rattle.edit.specs.declared.Edit.TheVariants.{In, Run, Out, Off, Refused}
use Rattle.edit.specs.Lines.{in_key, run_key, out_key, off_key, edit_of, line_length}

-- a line of one number, and of four
module _ (bad : Edit) where
  one_is : (good : ℕ → Edit) (l : Listed) → with_one l bad (λ k _. good k) ≡ option_map_or (λ vs. good (get_or vs 0 0)) (counted 1 (numbers_of l)) bad
  one_is good l = one_counted bad (λ k _. good k) l ∙ go (numbers_of l)
    where
      go : (o : Option (Numbers × ℕ)) → one_by o bad (λ k _. good k) ≡ option_map_or (λ vs. good (get_or vs 0 0)) (counted 1 o) bad
      go None = refl
      go (Some (r, next)) = by_bool (eqb r.count 1) (λ t. rw t refl) (λ t. rw t refl)

  four_is : (good : ℕ → ℕ → ℕ → ℕ → Edit) (l : Listed) → with_four l bad (λ a p b q _. good a p b q) ≡ option_map_or (λ vs. good (get_or vs 0 0) (get_or vs 1 0) (get_or vs 2 0) (get_or vs 3 0)) (counted 4 (numbers_of l)) bad
  four_is good l = four_counted bad (λ a p b q _. good a p b q) l ∙ go (numbers_of l)
    where
      go : (o : Option (Numbers × ℕ)) → four_by o bad (λ a p b q _. good a p b q) ≡ option_map_or (λ vs. good (get_or vs 0 0) (get_or vs 1 0) (get_or vs 2 0) (get_or vs 3 0)) (counted 4 o) bad
      go None = refl
      go (Some (r, next)) = by_bool (eqb r.count 4) (λ t. rw t refl) (λ t. rw t refl)

-- the answers of the reading call, key after key
pub edit_steps : (text : List ℕ) → edit_of text ≡
    option_map_or (λ vs. In (get_or vs 0 0)) (counted 1 (numbers_of (last_line_at in_key text 0)))
    (option_map_or (λ vs. Run (get_or vs 0 0) (get_or vs 1 0) (get_or vs 2 0) (get_or vs 3 0)) (counted 4 (numbers_of (last_line_at run_key text 0)))
    (option_map_or (λ vs. Out (get_or vs 0 0)) (counted 1 (numbers_of (last_line_at out_key text 0)))
    (option_map_or (λ vs. Off (get_or vs 0 0)) (counted 1 (numbers_of (last_line_at off_key text 0))) Refused)))
unfolding edit_of
edit_steps text = rw (one_is _ In _, four_is _ Run _, one_is _ Out _, one_is _ Off _) refl

-- the bytes up to and with the first byte 10, by its place
pub length_steps : (s : List ℕ) → line_length s ≡ cond (ltb (position_or_len (λ b. eqb b 10) s) (length s)) (position_or_len (λ b. eqb b 10) s + 1) (length s)
unfolding line_length
length_steps [] = refl
length_steps (b ∷ s) = by_bool (eqb b 10) (λ t. rw (t, lt-ltb 0 (suc (length s)) (omega arith)) refl) (λ f. rw f (go (dec_lt p (length s)) (length_steps s)))
  where
    p : ℕ
    p = position_or_len (λ x. eqb x 10) s

    go : Dec (p < length s) → line_length s ≡ cond (ltb p (length s)) (p + 1) (length s) → suc (line_length s) ≡ cond (ltb (1 + p) (suc (length s))) (1 + p + 1) (suc (length s))
    go (yes l) h = rw (lt-ltb (1 + p) (suc (length s)) (omega arith)) (omega (arith, rw (lt-ltb p (length s) l) at h))
    go (no n) h = rw (le-ltb (1 + p) (suc (length s)) (omega arith)) (omega (arith, rw (le-ltb p (length s) (omega arith)) at h))
