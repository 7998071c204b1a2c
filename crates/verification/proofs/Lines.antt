-- What is printed, case by case. Assumes nothing.
use Rattle.std.proofs.Common.{Result, Ok, Err, ℕ, ◌≤◌, ◌<◌, ◌≡◌, refl, sym, ◌∙◌, List, arith, le-leb, leb, length, drop}
use Rattle.std.proofs.lemmas.Bool.{lt-leb}
use Rattle.counting.proofs.Iterate.{by_bool}
use Rattle.answers.specs.declared.Refusal.{Refusal}
use Rattle.answers.specs.declared.Refusal.TheVariants.{InputTooLong}
use Rattle.answers.specs.Answers.{Answer}
use Rattle.load.specs.declared.Loaded.{Loaded}
use Rattle.program.specs.Program.{refused_line, load_input}
use Rattle.program.proofs.Bound.{refused_short}
use Rattle.checkdrawing.specs.Call.{check_drawing_call}
use Rattle.verification.specs.Verify.{answer_line, checked_output, verify_output, longest_line}
use Rattle.verification.specs.Laws.{VerifyBound}

pub answer_short : (a : Answer) → length (answer_line a) ≤ longest_line
unfolding answer_line
answer_short (Ok u) = omega arith
answer_short (Err r) = refused_short r

module _ (input : List ℕ) where
  pub too_long : 16384 < length input → verify_output input ≡ refused_line InputTooLong
  unfolding verify_output
  too_long h = rw (lt-leb (length input) 16384 h) refl

  pub too_long_line : 16384 < length input → answer_line (Err InputTooLong) ≡ verify_output input
  unfolding answer_line
  too_long_line h = sym (too_long h)

  -- load answered
  module _ (h : length input ≤ 16384) (p : Result Loaded Refusal) (e : p ≡ load_input input) where
    pub load_refused : (r : Refusal) → p ≡ Err r → verify_output input ≡ refused_line r
    unfolding verify_output checked_output
    load_refused r q = rw (le-leb (length input) 16384 h, sym e ∙ q) refl

    pub load_accepted : (l : Loaded) → p ≡ Ok l → verify_output input ≡ answer_line (check_drawing_call l.sheet (drop l.taken input))
    unfolding verify_output checked_output
    load_accepted l q = rw (le-leb (length input) 16384 h, sym e ∙ q) refl

-- every output is the line of an answer
answered : (input : List ℕ) → (a : Answer) × (verify_output input ≡ answer_line a)
unfolding verify_output checked_output answer_line
answered input = by_bool (leb (length input) 16384) (λ t. rw t (go (load_input input))) (λ t. rw t (Err InputTooLong, refl))
  where
    go : (p : Result Loaded Refusal) → (a : Answer) × (checked_output input p ≡ answer_line a)
    go (Ok l) = (check_drawing_call l.sheet (drop l.taken input), refl)
    go (Err r) = (Err r, refl)

pub verify_bound : VerifyBound
verify_bound input = let (a, e) = answered input in rw e (answer_short a)
