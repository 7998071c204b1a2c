-- The bytes that the line at the front of a text takes. Assumes nothing.
use Rattle.std.proofs.Common.{ℕ, zero, suc, ◌<◌, ◌≡◌, ◌≢◌, List, [], ◌∷◌, arith, eq-eqb, ne_eqb, get_or, length}
use Rattle.std.proofs.Math.Logic.{by_cases}
use Rattle.std.proofs.Math.Decide.{ℕ_discrete, dec_lt}
use Rattle.edit.specs.Lines.{line_length}
use Rattle.editlines.specs.Lines.{Takes}
use Rattle.editlines.specs.Lines.Takes.{first_10, all}

-- no 10 so far, and a byte more in front
later : (b : ℕ) (text : List ℕ) (i : ℕ) → b ≢ 10 → ((j : ℕ) → j < i → get_or text j 0 ≢ 10) → (j : ℕ) → j < suc i → get_or (b ∷ text) j 0 ≢ 10
later b text i n f zero h = n
later b text i n f (suc j) h = f j (omega arith)

takes_more : (b : ℕ) (text : List ℕ) (k : ℕ) → b ≢ 10 → Takes text k → Takes (b ∷ text) (suc k)
takes_more b text k n (first_10 {i} h e f) = first_10 {i = suc i} (omega arith) e (later b text i n f)
takes_more b text k n (all f) = all (later b text (length text) n f)

pub length_takes : (text : List ℕ) → Takes text (line_length text)
unfolding line_length
length_takes [] = all (λ j h. absurd (omega arith))
length_takes (b ∷ text) = go (ℕ_discrete b 10) (length_takes text)
  where
    go : Dec (b ≡ 10) → Takes text (line_length text) → Takes (b ∷ text) (line_length (b ∷ text))
    go (yes e) t = rw (eq-eqb b 10 e) (first_10 {i = 0} (omega arith) e (λ j h. absurd (omega arith)))
    go (no n) t = rw (ne_eqb b 10 n) (takes_more b text (line_length text) n t)

pub takes_once : {text : List ℕ} {a b : ℕ} → Takes text a → Takes text b → a ≡ b
takes_once (first_10 {i} h e f) (first_10 {i = j} l q g) = by_cases (dec_lt i j) (λ m. absurd (g i m e)) (λ m. by_cases (dec_lt j i) (λ k. absurd (f j k q)) (λ k. omega arith))
takes_once (first_10 {i} h e f) (all g) = absurd (g i h e)
takes_once (all f) (first_10 {i = j} l q g) = absurd (f j l q)
takes_once (all f) (all g) = omega arith
