-- What is printed, case by case. Assumes nothing.
use Rattle.std.proofs.Common.{Result, Ok, Err, ℕ, ◌≤◌, ◌<◌, ◌≡◌, refl, sym, ◌∙◌, List, le-leb, length}
use Rattle.std.proofs.lemmas.Bool.{lt-leb}
use Rattle.answers.specs.declared.Refusal.TheVariants.{InputTooLong}
use Rattle.answers.specs.declared.Refusal.{Refusal}
use Rattle.load.specs.declared.Loaded.{Loaded}
use Rattle.preservation.specs.Laws.{Whole}
use Rattle.program.specs.Program.{refused_line, load_input, loaded_output, plate_output}
use Rattle.program.proofs.Bound.{load_whole}
use Rattle.program.proofs.Turns.{lines}

module _ (input : List ℕ) where
  pub too_long : 16384 < length input → plate_output input ≡ refused_line InputTooLong
  unfolding plate_output
  too_long h = rw (lt-leb (length input) 16384 h) refl

  -- load answered
  module _ (h : length input ≤ 16384) (p : Result Loaded Refusal) (e : p ≡ load_input input) where
    pub load_refused : (r : Refusal) → p ≡ Err r → plate_output input ≡ refused_line r
    unfolding plate_output loaded_output
    load_refused r q = rw (le-leb (length input) 16384 h, sym e ∙ q) refl

    module _ (l : Loaded) (q : p ≡ Ok l) where
      pub loaded_whole : Whole l.sheet
      loaded_whole = load_whole input l (sym e ∙ q)

      pub load_accepted : plate_output input ≡ lines input l.sheet l.taken
      unfolding plate_output loaded_output
      load_accepted = rw (le-leb (length input) 16384 h, sym e ∙ q) refl
