-- Line ends of both kinds in one text.
use Rattle.std.specs.Prelude.{ℕ, List, [], ◌∷◌}

-- a text, and the same text with any of its line ends, byte 10, turned into 13 10
pub data MixedEnds : List ℕ → List ℕ → Type 0 where
  over : MixedEnds [] []
  kept : {b : ℕ} {text mixed : List ℕ} → MixedEnds text mixed → MixedEnds (b ∷ text) (b ∷ mixed)
  turned : {text mixed : List ℕ} → MixedEnds text mixed → MixedEnds (10 ∷ text) (13 ∷ 10 ∷ mixed)
