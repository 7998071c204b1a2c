-- What stands at a place of a text, and what reading and writing owe each other.
use Rattle.std.specs.Prelude.{ℕ, ◌+◌, ◌≤◌, ◌<◌, ◌≡◌, ◌≢◌, ◌⊎◌, List, [], ◌∷◌, ◌++◌, Some, get_or, length}
use Rattle.std.proofs.lemmas.List.Edits.{sets}
use Rattle.text.specs.Written.{decimal, separated, line}
use Rattle.text.specs.Reading.{digit_at, number_at, listed, line_end_at, numbers_at, line_at, last_line_at}

-- the bytes ds stand at a place of the text s
pub record Stands (s : List ℕ) (at : ℕ) (ds : List ℕ) : Type 0 where
  pub room : at + length ds ≤ length s
  pub each : (i : ℕ) → i < length ds → get_or s (at + i) 0 ≡ get_or ds i 0

-- one to three digits, no leading zero except 0 itself
pub record Digits (ds : List ℕ) : Type 0 where
  pub some : 0 < length ds
  pub few : length ds ≤ 3
  pub each : (i : ℕ) → i < length ds → (48 ≤ get_or ds i 0) × (get_or ds i 0 ≤ 57)
  pub leading : 1 < length ds → get_or ds 0 0 ≡ 48 → ⊥

-- the numbers of a line: at least one, each of at most three digits
pub record Numerals (vs : List ℕ) : Type 0 where
  pub some : 0 < length vs
  pub small : (i : ℕ) → i < length vs → get_or vs i 0 < 1000

-- numbers that were read at a place: a single one, or one with a comma and more of them after it
pub data Walk (s : List ℕ) (at : ℕ) : List ℕ → ℕ → Type 0 where
  single : {v next : ℕ} → number_at s at ≡ Some (v, next) → (get_or s next 0 ≡ 44 → ⊥) → Walk s at (v ∷ []) next
  more : {v to next : ℕ} {vs : List ℕ} → number_at s at ≡ Some (v, to) → get_or s to 0 ≡ 44 → numbers_at s (to + 1) ≡ listed vs next → Walk s at (v ∷ vs) next

-- a text of numbers, and what is read, are the same: the numbers vs, from a place up to the place next
pub record Same (s : List ℕ) (at : ℕ) (vs ds : List ℕ) (next : ℕ) : Type 0 where
  pub numerals : Numerals vs
  pub holds : Stands s at ds
  pub place : next ≡ at + length ds

-- A line may end in 10 alone or in 13 followed by 10.
pub data LineEnd : List ℕ → Type 0 where
  alone : LineEnd (10 ∷ [])
  after_13 : LineEnd (13 ∷ 10 ∷ [])

-- a line of the layout stands in the text at a place: its key, the numbers vs with a comma between, a line end; `next` is the place after it
pub record LineAt (key text : List ℕ) (at : ℕ) (vs : List ℕ) (next : ℕ) : Type 0 where
  pub end : List ℕ
  pub ends : LineEnd end
  pub same : Same text at vs (key ++ separated vs ++ end) next

-- the same of a line that may be the text's last and lack its end
pub data LastLineAt (key text : List ℕ) (at : ℕ) (vs : List ℕ) (next : ℕ) : Type 0 where
  whole : LineAt key text at vs next → LastLineAt key text at vs next
  bare : Same text at vs (key ++ separated vs) next → next ≡ length text → LastLineAt key text at vs next

-- What is written reads back, and nothing but what is written is read.
pub record Layout : Type 0 where
  -- a writer leaves what it wrote, and every other byte as it was
  pub written : (d : List ℕ) (at : ℕ) (ds : List ℕ) → at + length ds ≤ length d → Stands (sets d at ds) at ds
  pub elsewhere : (d : List ℕ) (at : ℕ) (ds : List ℕ) (i : ℕ) → (i < at) ⊎ (at + length ds ≤ i) → get_or (sets d at ds) i 0 ≡ get_or d i 0
  pub decimal_digits : (v : ℕ) → v < 1000 → Digits (decimal v)
  -- no digit and no comma after the numbers
  pub numbers_back : (s vs : List ℕ) (at : ℕ) → Numerals vs → Stands s at (separated vs) → 10 ≤ digit_at s (at + length (separated vs)) → (get_or s (at + length (separated vs)) 0 ≡ 44 → ⊥) → numbers_at s at ≡ listed vs (at + length (separated vs))
  pub numbers_only : (s vs : List ℕ) (at next : ℕ) → numbers_at s at ≡ listed vs next → Same s at vs (separated vs) next
  pub numbers_walk : (s vs : List ℕ) (at next : ℕ) → numbers_at s at ≡ listed vs next → Walk s at vs next
  -- a line end is one of the two, and so many bytes
  pub line_end_back : (s end : List ℕ) (at : ℕ) → LineEnd end → Stands s at end → line_end_at s at ≡ length end
  pub line_end_only : (s : List ℕ) (at : ℕ) → line_end_at s at ≢ 0 → (end : List ℕ) × LineEnd end × Stands s at end × (line_end_at s at ≡ length end)
  -- a written line is a line of the layout
  pub line_written : (key s vs : List ℕ) (at : ℕ) → Numerals vs → Stands s at (line key vs) → LineAt key s at vs (at + length (line key vs))
  pub line_back : (key s vs : List ℕ) (at next : ℕ) → LineAt key s at vs next → line_at key s at ≡ listed vs next
  pub line_only : (key s vs : List ℕ) (at next : ℕ) → line_at key s at ≡ listed vs next → LineAt key s at vs next
  -- the last line, with its end and without
  pub last_back : (key s vs : List ℕ) (at next : ℕ) → LastLineAt key s at vs next → last_line_at key s at ≡ listed vs next
  pub last_only : (key s vs : List ℕ) (at next : ℕ) → last_line_at key s at ≡ listed vs next → LastLineAt key s at vs next
