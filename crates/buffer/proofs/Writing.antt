-- Numbers and lines by their parts, how long they are, and how they are put. Assumes nothing.
use Rattle.std.proofs.Common.{ℕ, ◌+◌, ◌-◌, ◌*◌, ◌/◌, ◌%◌, ◌≤◌, ◌<◌, ◌≡◌, List, [], ◌∷◌, ◌++◌, refl, sym, ap, ◌∙◌, append-nil, append_assoc, add-zero, add-one, arith, length, get_or, take, drop, length-append, drop-drop, length-drop, take_all, take-append-drop, lt-ltb, le-ltb, ltb, set, set-set}
use Rattle.std.specs.Int.{from_bool}
use Rattle.std.proofs.lemmas.List.{take_more}
use Rattle.std.proofs.lemmas.List.Edits.{sets-eq}
use Rattle.std.proofs.Math.Logic.{by_cases}
use Rattle.std.proofs.Math.Decide.{dec_lt}
use Rattle.std.proofs.Math.Seq.{sets}
use Rattle.text.specs.Written.{decimal, separated, line_end, line}
use Rattle.buffer.specs.Sinks.{Put}

-- a number's digits, by how many there are
module _ (v : ℕ) where
  pub one : v < 10 → decimal v ≡ (v % 10 + 48) ∷ []
  unfolding decimal
  one h = rw (lt-ltb v 10 h)

  pub two : 10 ≤ v → v < 100 → decimal v ≡ (v / 10 % 10 + 48) ∷ (v % 10 + 48) ∷ []
  unfolding decimal
  two l h = rw (le-ltb v 10 l, lt-ltb v 100 h)

  pub three : 100 ≤ v → decimal v ≡ (v / 100 % 10 + 48) ∷ (v / 10 % 10 + 48) ∷ (v % 10 + 48) ∷ []
  unfolding decimal
  three l = rw (le-ltb v 10 (omega arith), le-ltb v 100 l)

-- the digits of a number by the places of its tens and its ones, which lie t and u places on
module _ (v t u : ℕ) (et : t ≡ from_bool (ltb 99 v)) (eu : u ≡ from_bool (ltb 9 v)) where
  data Places : Type 0 where
    ones_only : v < 10 → t ≡ 0 → u ≡ 0 → Places
    tens_too : 10 ≤ v → v < 100 → t ≡ 0 → u ≡ 1 → Places
    all_three : 100 ≤ v → t ≡ 1 → u ≡ 1 → Places

  places : Places
  places =
      by_cases (dec_lt v 10) (λ h. ones_only h (et ∙ ap from_bool (le-ltb 99 v (omega arith))) (eu ∙ ap from_bool (le-ltb 9 v (omega arith))))
      (λ h. by_cases (dec_lt v 100) (λ l. tens_too (omega arith) l (et ∙ ap from_bool (le-ltb 99 v (omega arith))) (eu ∙ ap from_bool (lt-ltb 9 v (omega arith))))
      (λ l. all_three (omega arith) (et ∙ ap from_bool (lt-ltb 99 v (omega arith))) (eu ∙ ap from_bool (lt-ltb 9 v (omega arith)))))

  pub digits_many : t + u + 1 ≡ length (decimal v)
  digits_many = go places
    where
      go : Places → t + u + 1 ≡ length (decimal v)
      go (ones_only h a b) = omega (arith, ap length (one v h))
      go (tens_too l h a b) = omega (arith, ap length (two v l h))
      go (all_three l a b) = omega (arith, ap length (three v l))

  -- what the three stores leave
  pub digits_put : (d : List ℕ) (at : ℕ) → Put d at (decimal v) (set (set (set d at (v / 100 % 10 + 48)) (at + t) (v / 10 % 10 + 48)) (at + t + u) (v % 10 + 48)) (at + t + u + 1)
  digits_put d at = record { place = omega (arith, digits_many); makes = go places }
    where
      go : Places → set (set (set d at (v / 100 % 10 + 48)) (at + t) (v / 10 % 10 + 48)) (at + t + u) (v % 10 + 48) ≡ sets d at (decimal v)
      go (ones_only h a b) = rw (one v h, a, b) (simp (add-zero, set-set))
      go (tens_too l h a b) = rw (two v l h, a, b) (simp (add-zero, set-set, add-one))
      go (all_three l a b) = rw (three v l, a, b) (simp add-one)

-- bytes copied into their place
pub part_put : (out bytes : List ℕ) (at : ℕ) → at + length bytes ≤ length out → take at out ++ (bytes ++ drop (at + length bytes - at) (drop at out)) ≡ sets out at bytes
part_put out bytes at h =
    let n : at + length bytes - at ≡ length bytes = omega arith in
    rw (n, drop-drop (length bytes) at out) (sym (append_assoc (take at out) bytes (drop (at + length bytes) out))) ∙ sym (sets-eq bytes out at h)

-- numbers with a comma before each
unfoldable pub others : List ℕ → List ℕ
others [] = []
others (v ∷ vs) = (44 ∷ decimal v) ++ others vs

others_append : (vs ws : List ℕ) → others (vs ++ ws) ≡ others vs ++ others ws
unfolding others
others_append [] ws = refl
others_append (v ∷ vs) ws = ap (λ (t : List ℕ). (44 ∷ decimal v) ++ t) (others_append vs ws) ∙ sym (append_assoc (44 ∷ decimal v) (others vs) (others ws))

separated_others : (v : ℕ) (vs : List ℕ) → separated (v ∷ vs) ≡ decimal v ++ others vs
unfolding separated others
separated_others v [] = sym (append-nil (decimal v))
separated_others v (w ∷ vs) = ap (λ (t : List ℕ). decimal v ++ 44 ∷ t) (separated_others w vs)

-- a line of some numbers, by its parts
pub line_parts : (key vs : List ℕ) → 0 < length vs → line key vs ≡ key ++ decimal (get_or vs 0 0) ++ others (drop 1 vs) ++ line_end
unfolding line
line_parts key [] h = absurd (omega arith)
line_parts key (v ∷ vs) h = rw (separated_others v vs) (simp append_assoc)

-- the numbers after the first, as the part of a slice
pub rest_part : (vs : List ℕ) → take (length vs - 1) (drop 1 vs) ≡ drop 1 vs
rest_part vs = take_all (length vs - 1) (drop 1 vs) (omega (arith, length-drop 1 vs))

-- one number more
pub others_more : (vs : List ℕ) (k : ℕ) → k < length vs → others (take (k + 1) vs) ≡ others (take k vs) ++ (44 ∷ decimal (get_or vs k 0))
unfolding others
others_more vs k h = ap others (take_more vs k 0 h) ∙ others_append (take k vs) (get_or vs k 0 ∷ []) ∙ ap (λ (t : List ℕ). others (take k vs) ++ t) (append-nil (44 ∷ decimal (get_or vs k 0)))

others_le : (vs : List ℕ) (k : ℕ) → length (others (take k vs)) ≤ length (others vs)
unfolding others
others_le vs k = omega (arith, length-append (others (take k vs)) (others (drop k vs)), ap length (sym (others_append (take k vs) (drop k vs)) ∙ ap others (take-append-drop k vs)))

pub others_room : (vs : List ℕ) (k : ℕ) → k < length vs → length (others (take k vs)) + length (44 ∷ decimal (get_or vs k 0)) ≤ length (others vs)
others_room vs k h = omega (arith, others_le vs (k + 1), ap length (others_more vs k h), length-append (others (take k vs)) (44 ∷ decimal (get_or vs k 0)))

-- a line's length: one byte more for each number than its digits
decimal_short : (v : ℕ) → length (decimal v) ≤ 3
decimal_short v =
    by_cases (dec_lt v 10) (λ a. omega (arith, ap length (one v a)))
    (λ a. by_cases (dec_lt v 100) (λ b. omega (arith, ap length (two v (omega arith) b))) (λ b. omega (arith, ap length (three v (omega arith)))))

line_size : (key vs : List ℕ) → 0 < length vs → length (line key vs) ≡ length key + length (decimal (get_or vs 0 0)) + length (others (drop 1 vs)) + 1
line_size key vs h = ap length (line_parts key vs h) ∙ simp length-append

others_short : (vs : List ℕ) → length (others vs) ≤ 4 * length vs
unfolding others
others_short [] = omega arith
others_short (v ∷ vs) = omega (arith, length-append (44 ∷ decimal v) (others vs), decimal_short v, others_short vs)

pub line_short : (key vs : List ℕ) → length (line key vs) ≤ length key + 1 + 4 * length vs
unfolding line separated
line_short key [] = let e : length (line key []) ≡ length key + 1 = length-append (key ++ []) line_end ∙ rw (append-nil key) refl in omega arith
line_short key (v ∷ vs) = omega (arith, line_size key (v ∷ vs) (omega arith), decimal_short v, others_short vs)
