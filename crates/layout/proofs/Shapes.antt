-- A line that is read stands there, and where none of the shape is read none stands. Assumes nothing.
use Rattle.std.proofs.Common.{◌≡◌, refl, sym, ◌∙◌, List, [], ◌∷◌, ℕ, arith}
use Rattle.text.specs.Reading.{Listed, line_at, last_line_at}
use Rattle.text.specs.Reading.Listed.{listed, unlisted}
use Rattle.text.specs.Shapes.{with_one, with_two, with_four, with_some}
use Rattle.layout.specs.Layout.{LineAt, LastLineAt}
use Rattle.layout.proofs.Back.{line_back, last_back}
use Rattle.layout.proofs.Only.{line_only, last_only}

-- what is read is what stands there
pub record Reads (read : Listed) (At : List ℕ → ℕ → Type 0) : Type 0 where
  pub back : {vs : List ℕ} {after : ℕ} → At vs after → read ≡ listed vs after
  pub only : {vs : List ℕ} {after : ℕ} → read ≡ listed vs after → At vs after

pub line_reads : (key text : List ℕ) (at : ℕ) → Reads (line_at key text at) (LineAt key text at)
line_reads key text at = record { back = λ {vs} {after}. line_back key text vs at after; only = λ {vs} {after}. line_only key text vs at after }

pub last_line_reads : (key text : List ℕ) (at : ℕ) → Reads (last_line_at key text at) (LastLineAt key text at)
last_line_reads key text at = record { back = λ {vs} {after}. last_back key text vs at after; only = λ {vs} {after}. last_only key text vs at after }

module _ {read : Listed} {At : List ℕ → ℕ → Type 0} (R : Reads read At) where
  -- another line is read there, or none
  other : {vs : List ℕ} {l : Listed} → read ≡ l → ((after : ℕ) → l ≡ listed vs after → ⊥) → (after : ℕ) → ¬ At vs after
  other e n after L = n after (sym e ∙ R.back L)

  module _ {A : Type 0} (P : A → Type 0) (bad : A) where
    pub one_shaped : (good : ℕ → ℕ → A) → (((v after : ℕ) → ¬ At (v ∷ []) after) → P bad) → ((v after : ℕ) → At (v ∷ []) after → P (good v after)) → P (with_one read bad good)
    unfolding with_one
    one_shaped good f g = go read refl
      where
        go : (l : Listed) → read ≡ l → P (with_one l bad good)
        go unlisted e = f (λ v. other e (λ after q. let z : ◌≡◌ {A = ℕ} 0 1 = cc in omega arith))
        go (listed [] next) e = f (λ v. other e (λ after q. let z : ◌≡◌ {A = ℕ} 0 1 = cc in omega arith))
        go (listed (a ∷ []) next) e = g a next (R.only e)
        go (listed (a ∷ b ∷ vs) next) e = f (λ v. other e (λ after q. let z : ◌≡◌ {A = ℕ} 0 1 = cc in omega arith))

    pub two_shaped : (good : ℕ → ℕ → ℕ → A) → (((a b after : ℕ) → ¬ At (a ∷ b ∷ []) after) → P bad) → ((a b after : ℕ) → At (a ∷ b ∷ []) after → P (good a b after)) → P (with_two read bad good)
    unfolding with_two
    two_shaped good f g = go read refl
      where
        go : (l : Listed) → read ≡ l → P (with_two l bad good)
        go unlisted e = f (λ v w. other e (λ after q. let z : ◌≡◌ {A = ℕ} 0 1 = cc in omega arith))
        go (listed [] next) e = f (λ v w. other e (λ after q. let z : ◌≡◌ {A = ℕ} 0 1 = cc in omega arith))
        go (listed (a ∷ []) next) e = f (λ v w. other e (λ after q. let z : ◌≡◌ {A = ℕ} 0 1 = cc in omega arith))
        go (listed (a ∷ b ∷ []) next) e = g a b next (R.only e)
        go (listed (a ∷ b ∷ c ∷ vs) next) e = f (λ v w. other e (λ after q. let z : ◌≡◌ {A = ℕ} 0 1 = cc in omega arith))

    pub four_shaped : (good : ℕ → ℕ → ℕ → ℕ → ℕ → A) → (((a b c d after : ℕ) → ¬ At (a ∷ b ∷ c ∷ d ∷ []) after) → P bad)
        → ((a b c d after : ℕ) → At (a ∷ b ∷ c ∷ d ∷ []) after → P (good a b c d after)) → P (with_four read bad good)
    unfolding with_four
    four_shaped good f g = go read refl
      where
        no : {l : Listed} → read ≡ l → ((x y z w after : ℕ) → l ≡ listed (x ∷ y ∷ z ∷ w ∷ []) after → ⊥) → P bad
        no e n = f (λ x y z w. other e (n x y z w))

        go : (l : Listed) → read ≡ l → P (with_four l bad good)
        go unlisted e = no e (λ x y z w after q. let n : ◌≡◌ {A = ℕ} 0 1 = cc in omega arith)
        go (listed [] next) e = no e (λ x y z w after q. let n : ◌≡◌ {A = ℕ} 0 1 = cc in omega arith)
        go (listed (a ∷ []) next) e = no e (λ x y z w after q. let n : ◌≡◌ {A = ℕ} 0 1 = cc in omega arith)
        go (listed (a ∷ b ∷ []) next) e = no e (λ x y z w after q. let n : ◌≡◌ {A = ℕ} 0 1 = cc in omega arith)
        go (listed (a ∷ b ∷ c ∷ []) next) e = no e (λ x y z w after q. let n : ◌≡◌ {A = ℕ} 0 1 = cc in omega arith)
        go (listed (a ∷ b ∷ c ∷ d ∷ []) next) e = g a b c d next (R.only e)
        go (listed (a ∷ b ∷ c ∷ d ∷ x ∷ vs) next) e = no e (λ x y z w after q. let n : ◌≡◌ {A = ℕ} 0 1 = cc in omega arith)

    pub some_shaped : (good : List ℕ → ℕ → A) → (((vs : List ℕ) (after : ℕ) → ¬ At vs after) → P bad) → ((vs : List ℕ) (after : ℕ) → At vs after → P (good vs after)) → P (with_some read bad good)
    unfolding with_some
    some_shaped good f g = go read refl
      where
        go : (l : Listed) → read ≡ l → P (with_some l bad good)
        go unlisted e = f (λ vs. other e (λ after q. let z : ◌≡◌ {A = ℕ} 0 1 = cc in omega arith))
        go (listed vs next) e = g vs next (R.only e)

    -- so where no line of the shape stands, none is read
    pub one_none : (good : ℕ → ℕ → A) → ((v after : ℕ) → ¬ At (v ∷ []) after) → P bad → P (with_one read bad good)
    one_none good n p = one_shaped good (λ _. p) (λ v after L. absurd (n v after L))

    pub two_none : (good : ℕ → ℕ → ℕ → A) → ((a b after : ℕ) → ¬ At (a ∷ b ∷ []) after) → P bad → P (with_two read bad good)
    two_none good n p = two_shaped good (λ _. p) (λ a b after L. absurd (n a b after L))

    pub four_none : (good : ℕ → ℕ → ℕ → ℕ → ℕ → A) → ((a b c d after : ℕ) → ¬ At (a ∷ b ∷ c ∷ d ∷ []) after) → P bad → P (with_four read bad good)
    four_none good n p = four_shaped good (λ _. p) (λ a b c d after L. absurd (n a b c d after L))

    pub some_none : (good : List ℕ → ℕ → A) → ((vs : List ℕ) (after : ℕ) → ¬ At vs after) → P bad → P (with_some read bad good)
    some_none good n p = some_shaped good (λ _. p) (λ vs after L. absurd (n vs after L))

    -- and a line of the shape that stands there is
    pub one_read : (good : ℕ → ℕ → A) {v after : ℕ} → At (v ∷ []) after → P (good v after) → P (with_one read bad good)
    unfolding with_one
    one_read good L p = rw (R.back L) p

    pub two_read : (good : ℕ → ℕ → ℕ → A) {a b after : ℕ} → At (a ∷ b ∷ []) after → P (good a b after) → P (with_two read bad good)
    unfolding with_two
    two_read good L p = rw (R.back L) p

    pub four_read : (good : ℕ → ℕ → ℕ → ℕ → ℕ → A) {a b c d after : ℕ} → At (a ∷ b ∷ c ∷ d ∷ []) after → P (good a b c d after) → P (with_four read bad good)
    unfolding with_four
    four_read good L p = rw (R.back L) p

    pub some_read : (good : List ℕ → ℕ → A) {vs : List ℕ} {after : ℕ} → At vs after → P (good vs after) → P (with_some read bad good)
    unfolding with_some
    some_read good L p = rw (R.back L) p
