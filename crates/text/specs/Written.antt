-- Numbers and lines as they are written.
use Rattle.std.specs.Prelude.{ℕ, ◌+◌, ◌/◌, ◌%◌, List, [], ◌∷◌, ◌++◌, cond, ltb}

-- Numbers have one to three digits, no leading zero except 0 itself. (Of numbers below 1000.)
unfoldable pub decimal : ℕ → List ℕ
decimal v =
    cond (ltb v 10) ((v % 10 + 48) ∷ [])
    (cond (ltb v 100) ((v / 10 % 10 + 48) ∷ (v % 10 + 48) ∷ [])
    ((v / 100 % 10 + 48) ∷ (v / 10 % 10 + 48) ∷ (v % 10 + 48) ∷ []))

-- comma between
unfoldable pub separated : List ℕ → List ℕ
separated [] = []
separated (v ∷ []) = decimal v
separated (v ∷ w ∷ vs) = decimal v ++ 44 ∷ separated (w ∷ vs)

-- Written text keeps the single 10.
abbrev pub line_end : List ℕ
line_end = 10 ∷ []

-- a key, numbers with a comma between, and the line's end
unfoldable pub line : List ℕ → List ℕ → List ℕ
line key vs = key ++ separated vs ++ line_end
