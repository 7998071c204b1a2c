-- A line that byte 10 alone ends, number by number. Assumes nothing.
use Rattle.std.proofs.Common.{◌≡◌, ℕ, ◌+◌, false, cond, eqb, List, [], ◌∷◌, length, get_or, drop, Some, None, Option, sym, refl, ◌∙◌, arith, eq-eqb, ne_eqb}
use Rattle.std.proofs.Math.Logic.{by_cases}
use Rattle.std.proofs.Math.Decide.{ℕ_discrete}
use Rattle.counting.proofs.Iterate.{by_bool}
use Rattle.text.specs.Reading.{Number, number_at, starts_with, Listed, listed, unlisted, before, numbers_at}
use Rattle.text.specs.Shapes.{with_one, with_three, one_of, three_of}
use Rattle.text.proofs.Listing.{numbers_last, numbers_more, numbers_none}
use Rattle.readdrawing.specs.Lines.{plain_closed, plain_line_at}

module _ (s : List ℕ) where
  -- where a line ends after a number that was read, or goes on
  abbrev ended_by : {A : Type 0} → ℕ → (ℕ → A) → Option A
  ended_by next f = cond (eqb (get_or s next 0) 10) (Some (f (next + 1))) None

  abbrev more_by : {A : Type 0} → ℕ → (ℕ → Option A) → Option A
  more_by next f = cond (eqb (get_or s next 0) 44) (f (next + 1)) None

  -- the number of a line of one
  abbrev one_by : Number → Option (ℕ × ℕ)
  one_by None = None
  one_by (Some (a, next)) = ended_by next (λ (to : ℕ). (a, to))

  -- the third number of a line of three, whose first are a and b; the second; the first
  abbrev third_by : ℕ → ℕ → Number → Option (ℕ × ℕ × ℕ × ℕ)
  third_by a b None = None
  third_by a b (Some (c, next)) = ended_by next (λ (to : ℕ). (a, b, c, to))

  abbrev second_by : ℕ → Number → Option (ℕ × ℕ × ℕ × ℕ)
  second_by a None = None
  second_by a (Some (b, next)) = more_by next (λ (to : ℕ). third_by a b (number_at s to))

  abbrev first_by : Number → Option (ℕ × ℕ × ℕ × ℕ)
  first_by None = None
  first_by (Some (a, next)) = more_by next (λ (to : ℕ). second_by a (number_at s to))

  -- a comma is no line end
  comma_open : (next : ℕ) → get_or s next 0 ≡ 44 → eqb (get_or s next 0) 10 ≡ false
  comma_open next q = ne_eqb (get_or s next 0) 10 (λ z. omega arith)

  -- what is made of the numbers of a line, `whole`, and of those from a place on, `from`, after others were read
  module _ {A : Type 0} (whole : Listed → Option A) (none : whole unlisted ≡ None) where
    closed_by : (vs : List ℕ) (next : ℕ) → whole (plain_closed s (listed vs next)) ≡ cond (eqb (get_or s next 0) 10) (whole (listed vs (next + 1))) None
    unfolding plain_closed
    closed_by vs next = by_bool (eqb (get_or s next 0) 10) (λ t. rw t refl) (λ f. rw f none)

    -- a line of another count
    closed_none : (vs : List ℕ) (next : ℕ) → whole (listed vs (next + 1)) ≡ None → whole (plain_closed s (listed vs next)) ≡ None
    closed_none vs next e = closed_by vs next ∙ by_bool (eqb (get_or s next 0) 10) (λ t. rw t e) (λ f. rw f refl)

    from_by : (earlier : Listed → Listed) → earlier unlisted ≡ unlisted → (at : ℕ) (g : Number → Option A) → g None ≡ None
        → ((a next : ℕ) → get_or s next 0 ≡ 44 → whole (plain_closed s (earlier (before a (numbers_at s (next + 1))))) ≡ g (Some (a, next)))
        → ((a next : ℕ) → (get_or s next 0 ≡ 44 → ⊥) → whole (plain_closed s (earlier (listed (a ∷ []) next))) ≡ g (Some (a, next)))
        → whole (plain_closed s (earlier (numbers_at s at))) ≡ g (number_at s at)
    unfolding plain_closed
    from_by earlier u at g n more last = go (number_at s at) refl
      where
        go : (r : Number) → number_at s at ≡ r → whole (plain_closed s (earlier (numbers_at s at))) ≡ g r
        go None e = rw (numbers_none s at e, u) (none ∙ sym n)
        go (Some (a, next)) e = by_cases (ℕ_discrete (get_or s next 0) 44)
            (λ c. rw (numbers_more s at a next e c) (more a next c))
            (λ c. rw (numbers_last s at a next e c) (last a next c))

  pub one_steps : (key : List ℕ) (at : ℕ) → one_of (plain_line_at key s at) ≡ cond (starts_with key (drop at s)) (one_by (number_at s (at + length key))) None
  unfolding plain_line_at plain_closed with_one before
  one_steps key at = by_bool (starts_with key (drop at s)) (λ t. rw t (first (at + length key))) (λ f. rw f refl)
    where
      two : (a b : ℕ) (l : Listed) → one_of (plain_closed s (before a (before b l))) ≡ None
      two a b unlisted = refl
      two a b (listed vs next) = closed_none one_of refl (a ∷ b ∷ vs) next refl

      second : (a at : ℕ) → one_of (plain_closed s (before a (numbers_at s at))) ≡ None
      second a at = from_by one_of refl (before a) refl at (λ _. None) refl (λ b next c. two a b (numbers_at s (next + 1))) (λ b next c. two a b (listed [] next))

      first : (at : ℕ) → one_of (plain_closed s (numbers_at s at)) ≡ one_by (number_at s at)
      first at = from_by one_of refl (λ l. l) refl at one_by refl (λ a next c. rw (comma_open next c) (second a (next + 1))) (λ a next c. closed_by one_of refl (a ∷ []) next)

  pub three_steps : (key : List ℕ) (at : ℕ) → three_of (plain_line_at key s at) ≡ cond (starts_with key (drop at s)) (first_by (number_at s (at + length key))) None
  unfolding plain_line_at plain_closed with_three before
  three_steps key at = by_bool (starts_with key (drop at s)) (λ t. rw t (first (at + length key))) (λ f. rw f refl)
    where
      four : (a b c d : ℕ) (l : Listed) → three_of (plain_closed s (before a (before b (before c (before d l))))) ≡ None
      four a b c d unlisted = refl
      four a b c d (listed vs next) = closed_none three_of refl (a ∷ b ∷ c ∷ d ∷ vs) next refl

      fourth : (a b c at : ℕ) → three_of (plain_closed s (before a (before b (before c (numbers_at s at))))) ≡ None
      fourth a b c at = from_by three_of refl (λ l. before a (before b (before c l))) refl at (λ _. None) refl (λ d next q. four a b c d (numbers_at s (next + 1))) (λ d next q. four a b c d (listed [] next))

      third : (a b at : ℕ) → three_of (plain_closed s (before a (before b (numbers_at s at)))) ≡ third_by a b (number_at s at)
      third a b at = from_by three_of refl (λ l. before a (before b l)) refl at (third_by a b) refl
          (λ c next q. rw (comma_open next q) (fourth a b c (next + 1)))
          (λ c next q. closed_by three_of refl (a ∷ b ∷ c ∷ []) next)

      second : (a at : ℕ) → three_of (plain_closed s (before a (numbers_at s at))) ≡ second_by a (number_at s at)
      second a at = from_by three_of refl (before a) refl at (second_by a) refl
          (λ b next q. rw (eq-eqb (get_or s next 0) 44 q) (third a b (next + 1)))
          (λ b next q. rw (ne_eqb (get_or s next 0) 44 q) (closed_none three_of refl (a ∷ b ∷ []) next refl))

      first : (at : ℕ) → three_of (plain_closed s (numbers_at s at)) ≡ first_by (number_at s at)
      first at = from_by three_of refl (λ l. l) refl at first_by refl
          (λ a next q. rw (eq-eqb (get_or s next 0) 44 q) (second a (next + 1)))
          (λ a next q. rw (ne_eqb (get_or s next 0) 44 q) (closed_none three_of refl (a ∷ []) next refl))
