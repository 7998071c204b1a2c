-- The line of a ring, put dart by dart. Assumes nothing.
use Rattle.std.proofs.Common.{ℕ, suc, ◌+◌, ◌-◌, ◌/◌, ◌≤◌, ◌<◌, ◌≡◌, refl, ap, ◌∙◌, ◌≢◌, Bool, true, false, List, [], ◌∷◌, ◌++◌, append_assoc, arith, eqb, get_or, length, length-take, get_or-take, take, length-append, eq-eqb, ne_eqb}
use Rattle.counting.specs.Choice.{pick}
use Rattle.text.specs.Keys.{wire_key, around_key}
use Rattle.text.specs.Written.{decimal, line_end, line}
use Rattle.buffer.proofs.Writing.{others, line_parts}
use Rattle.clauses.specs.declared.Sheet.{Sheet}
use Rattle.sheet.specs.Darts.{darts, next}
use Rattle.sheet.specs.Sound.{Sound}
use Rattle.writesheet.specs.Rings.{ring_from}
use Rattle.writesheet.specs.Inner.{edge_text, ring_text, ring_line, Firsts}
use Rattle.writesheet.proofs.Firsts.{ring_listed}

-- the line from a vertex's lowest dart is the vertex's
pub ring_line_law : {s : Sheet} (S : Sound s) {firsts : List ℕ} → length firsts ≡ s.vertices → Firsts s firsts → (v : ℕ) → v < length firsts → (first : ℕ) → first ≡ get_or firsts v 0
    → ring_line s first ≡ ring_text s v
ring_line_law {s} S n F v h first e = ap (line around_key) (ring_listed S F v (omega (arith, n)) first e)

-- the line of edge k, by its numbers
pub edge_line_law : (s : Sheet) (k : ℕ) → k < length (take s.edges s.tails) → {a b : ℕ} → a ≡ get_or (take s.edges s.tails) k 0 → b ≡ get_or (take s.edges s.heads) k 0
    → line wire_key (a ∷ b ∷ []) ≡ edge_text s k
edge_line_law s k h e f =
    let z : k < s.edges = omega (arith, length-take s.edges s.tails) in
    rw (e ∙ get_or-take s.edges s.tails k 0 z, f ∙ get_or-take s.edges s.heads k 0 z) refl

module _ (s : Sheet) (first : ℕ) where
  -- what is left of the line where dart d comes next and n darts may follow
  unfoldable pub left_of : ℕ → ℕ → List ℕ
  left_of n d = others (pick (eqb d first) (λ _. []) (λ _. ring_from n s first d)) ++ line_end

  pub left_first : 0 < darts s → ring_line s first ≡ around_key ++ decimal (first / 2) ++ left_of (darts s - 1) (next s first)
  unfolding left_of ring_from
  left_first h = let z : darts s ≡ suc (darts s - 1) = omega arith in ap (λ n. line around_key (ring_from n s first first)) z ∙ go (darts s - 1)
    where
      go : (n : ℕ) → line around_key (ring_from (suc n) s first first) ≡ around_key ++ decimal (first / 2) ++ left_of n (next s first)
      go n = line_parts around_key (ring_from (suc n) s first first) (omega arith) ∙ append_assoc (around_key ++ decimal (first / 2)) _ line_end

  left_next : (n d : ℕ) → d ≢ first → left_of (suc n) d ≡ (44 ∷ decimal (d / 2)) ++ left_of n (next s d)
  unfolding left_of ring_from others
  left_next n d h = rw (ne_eqb d first h) (append_assoc (44 ∷ decimal (d / 2)) _ line_end)

  left_over : (d : ℕ) → left_of 0 d ≡ line_end
  unfolding left_of ring_from others
  left_over d = go (eqb d first)
    where
      go : (b : Bool) → others (pick b (λ _. []) (λ _. [])) ++ line_end ≡ line_end
      go true = refl
      go false = refl

  -- after so many steps another dart is the next, or none is left, or the first comes again
  module _ (steps d : ℕ) where
    pub left_step : steps < darts s → d ≢ first → left_of (darts s - steps) d ≡ (44 ∷ decimal (d / 2)) ++ left_of (darts s - (steps + 1)) (next s d)
    left_step h k = let z : darts s - steps ≡ suc (darts s - (steps + 1)) = omega arith in rw z (left_next (darts s - (steps + 1)) d k)

    pub left_none : darts s ≤ steps → left_of (darts s - steps) d ≡ line_end
    left_none h = let z : darts s - steps ≡ 0 = omega arith in rw z (left_over d)

    pub left_back : d ≡ first → left_of (darts s - steps) d ≡ line_end
    unfolding left_of others
    left_back k = rw (eq-eqb d first k) refl

    pub step_size : steps < darts s → d ≢ first → length (left_of (darts s - steps) d) ≡ 1 + length (decimal (d / 2)) + length (left_of (darts s - (steps + 1)) (next s d))
    step_size h k = ap length (left_step h k) ∙ omega (arith, length-append (44 ∷ decimal (d / 2)) (left_of (darts s - (steps + 1)) (next s d)))

  -- how long the line is
  pub line_size : 0 < darts s → length (ring_line s first) ≡ 7 + length (decimal (first / 2)) + length (left_of (darts s - 1) (next s first))
  line_size h = ap length (left_first h) ∙ simp length-append
