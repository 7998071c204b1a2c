-- Tests in order and statements in order give the same number.
use Rattle.std.proofs.Common.{ℕ, ◌≡◌, refl, sym, ◌∙◌, inl, inr, ◌↔◌, Bool, true, false, List, [], ◌∷◌}
use Rattle.std.proofs.lemmas.Bool.{false≢true}
use Rattle.answers.specs.declared.Refusal.{Refusal}
use Rattle.answers.specs.Answers.{refusal_number, answer_number}
use Rattle.answers.specs.Refusals.{Test, ◌if◌, first}
use Rattle.answers.specs.Clauses.{Clause, ◌when◌, First}

-- each test says what its statement says, where none before it holds; and the answers have the statements' numbers
pub data Agree : List Test → List Clause → Type 1 where
  none : Agree [] []
  then : {r : Refusal} {b : Bool} {n : ℕ} {p : Type 0} {ts : List Test} {cs : List Clause}
      → refusal_number r ≡ n → (b ≡ true ↔ p) → (b ≡ false → Agree ts cs) → Agree (r if b ∷ ts) (n when p ∷ cs)

pub first_number : {ts : List Test} {cs : List Clause} → Agree ts cs → First cs (answer_number (first ts))
unfolding first First answer_number
first_number none = refl
first_number (then {r} {b} {n} {p} {ts} {cs} e i later) = go b refl (λ t. first_number (later t))
  where
    go : (c : Bool) → b ≡ c → (b ≡ false → First cs (answer_number (first ts))) → First (n when p ∷ cs) (answer_number (first (r if b ∷ ts)))
    go true t f = rw t (inl (i.0 t, e))
    go false t f = rw t (inr ((λ h. false≢true (sym t ∙ i.1 h)), f t))

-- no two numbers are the first
pub first_once : (cs : List Clause) (a b : ℕ) → First cs a → First cs b → a ≡ b
unfolding First
first_once [] a b p q = p ∙ sym q
first_once (c ∷ cs) a b (inl (h, p)) (inl (k, q)) = p ∙ sym q
first_once (c ∷ cs) a b (inl (h, p)) (inr (n, q)) = absurd (n h)
first_once (c ∷ cs) a b (inr (n, p)) (inl (k, q)) = absurd (n k)
first_once (c ∷ cs) a b (inr (n, p)) (inr (m, q)) = first_once cs a b p q

-- the same numbers, on statements that hold alike
pub data Matched : List Clause → List Clause → Type 1 where
  no_more : Matched [] []
  before : {n : ℕ} {p q : Type 0} {cs ds : List Clause} → p ↔ q → Matched cs ds → Matched (n when p ∷ cs) (n when q ∷ ds)

-- have the same first number
pub first_matched : {cs ds : List Clause} → Matched cs ds → (a : ℕ) → First cs a → First ds a
unfolding First
first_matched no_more a f = f
first_matched (before e m) a (inl (h, q)) = inl (e.0 h, q)
first_matched (before e m) a (inr (n, f)) = inr ((λ h. n (e.1 h)), first_matched m a f)
