-- A whole line by its key, its numbers and its end. Assumes nothing.
use Rattle.std.proofs.Common.{◌≡◌, ℕ, suc, ◌+◌, ◌<◌, ◌≤◌, Bool, true, false, cond, ◌&&◌, eqb, leb, List, [], ◌∷◌, length, drop, Some, None, Option, refl, arith, eq-eqb, ne_eqb, le-leb}
use Rattle.std.proofs.lemmas.Bool.{false≢true, lt-leb}
use Rattle.counting.proofs.Iterate.{by_bool}
use Rattle.text.specs.declared.Numbers.{Numbers}
use Rattle.text.specs.Reading.{starts_with, Listed, listed, unlisted, line_end_at, numbers_at, closed, last_closed, line_at, last_line_at, numbers_of}
use Rattle.text.proofs.LineEnds.{line_end_inside}

-- a key that is there is no longer than the text
pub starts_length : (ks t : List ℕ) → starts_with ks t ≡ true → length ks ≤ length t
unfolding starts_with
starts_length [] t e = omega arith
starts_length (k ∷ ks) [] e = absurd (false≢true e)
starts_length (k ∷ ks) (b ∷ t) e = go (eqb b k) e (starts_length ks t)
  where
    go : (x : Bool) → (x && starts_with ks t) ≡ true → (starts_with ks t ≡ true → length ks ≤ length t) → suc (length ks) ≤ suc (length t)
    go true u ih = omega (arith, ih u)
    go false u ih = absurd (false≢true u)

abbrev pub line_of : Bool → List ℕ → List ℕ → ℕ → Listed
line_of last key s at = cond last (last_line_at key s at) (line_at key s at)

abbrev pub closing : Bool → List ℕ → Listed → Listed
closing last s l = cond last (last_closed s l) (closed s l)

module _ (s : List ℕ) where
  pub closing_none : (last : Bool) → closing last s unlisted ≡ unlisted
  unfolding closed last_closed
  closing_none true = refl
  closing_none false = refl

  module _ (vs : List ℕ) (next : ℕ) where
    pub closing_over : length s ≤ next → closing true s (listed vs next) ≡ listed vs next
    unfolding last_closed
    closing_over h = rw (le-leb (length s) next h)

    pub closing_ended : (last : Bool) → (line_end_at s next ≡ 0 → ⊥) → closing last s (listed vs next) ≡ listed vs (next + line_end_at s next)
    unfolding closed last_closed
    closing_ended false n = rw (ne_eqb (line_end_at s next) 0 n)
    closing_ended true n = rw (lt-leb (length s) next (omega (arith, line_end_inside s next n)), ne_eqb (line_end_at s next) 0 n)

    pub closing_open : (last : Bool) → (last ≡ true → next < length s) → line_end_at s next ≡ 0 → closing last s (listed vs next) ≡ unlisted
    unfolding closed last_closed
    closing_open false h z = rw (eq-eqb (line_end_at s next) 0 z)
    closing_open true h z = rw (lt-leb (length s) next (h refl), eq-eqb (line_end_at s next) 0 z)

  pub keyed : (last : Bool) (key : List ℕ) (at : ℕ) → starts_with key (drop at s) ≡ true → line_of last key s at ≡ closing last s (numbers_at s (at + length key))
  unfolding line_at last_line_at
  keyed true key at k = rw k
  keyed false key at k = rw k

  pub keyless : (last : Bool) (key : List ℕ) (at : ℕ) → starts_with key (drop at s) ≡ false → line_of last key s at ≡ unlisted
  unfolding line_at last_line_at
  keyless true key at k = rw k
  keyless false key at k = rw k

-- a line by the numbers that were read after its key
abbrev pub ended_by : Bool → List ℕ → Option (Numbers × ℕ) → Option (Numbers × ℕ)
ended_by last s None = None
ended_by last s (Some (r, next)) =
    cond (last && leb (length s) next) (Some (r, next))
    (cond (eqb (line_end_at s next) 0) None (Some (r, next + line_end_at s next)))

closing_step : (last : Bool) (s : List ℕ) (l : Listed) → numbers_of (closing last s l) ≡ ended_by last s (numbers_of l)
unfolding numbers_of closed last_closed
closing_step false s unlisted = refl
closing_step true s unlisted = refl
closing_step false s (listed vs next) = by_bool (eqb (line_end_at s next) 0) (λ z. rw z refl) (λ z. rw z refl)
closing_step true s (listed vs next) =
    by_bool (leb (length s) next) (λ h. rw h refl) (λ h. by_bool (eqb (line_end_at s next) 0) (λ z. rw (h, z) refl) (λ z. rw (h, z) refl))

module _ (key s : List ℕ) (at : ℕ) where
  either_steps : (last : Bool) → numbers_of (line_of last key s at) ≡ cond (starts_with key (drop at s)) (ended_by last s (numbers_of (numbers_at s (at + length key)))) None
  unfolding numbers_of
  either_steps last = by_bool (starts_with key (drop at s))
      (λ t. rw (keyed s last key at t, t) (closing_step last s (numbers_at s (at + length key))))
      (λ f. rw (keyless s last key at f, f) refl)

  pub line_steps : numbers_of (line_at key s at) ≡ cond (starts_with key (drop at s)) (ended_by false s (numbers_of (numbers_at s (at + length key)))) None
  line_steps = either_steps false

  pub last_steps : numbers_of (last_line_at key s at) ≡ cond (starts_with key (drop at s)) (ended_by true s (numbers_of (numbers_at s (at + length key)))) None
  last_steps = either_steps true
