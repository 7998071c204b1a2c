-- The table of the faces of a sheet as C-15 lays it down, and what the call answers, with no definition that computes.
use Rattle.std.specs.Prelude.{ℕ, ◌≤◌, ◌<◌, ◌≡◌, ◌↔◌, List, length, replicate, Result, Ok, Err}
use Rattle.answers.specs.declared.Refusal.{Refusal}
use Rattle.answers.specs.declared.Refusal.TheVariants.{NotSound}
use Rattle.counting.specs.Orbits.{Reach}
use Rattle.orbits.specs.Meaning.{entries}
use Rattle.clauses.specs.declared.Sheet.{Sheet}
use Rattle.sheet.specs.Darts.{darts, walk}
use Rattle.sheet.specs.Sound.{Sound}

-- A trace stops at the walk it started from; that ring is a face. The walks that leave their bars by ends d and e lie in one face: the trace from d comes to e.
abbrev pub InOneFace : Sheet → ℕ → ℕ → Type 0
InOneFace s d e = Reach (walk s) d e

-- d is the lowest end that a walk of its face leaves its bar by
pub record Lowest (s : Sheet) (d : ℕ) : Type 0 where
  pub inside : d < darts s
  pub least : (e : ℕ) → InOneFace s d e → d ≤ e

-- The table holds for each end, as its entry, the number of the face whose walk leaves its bar by that end:
pub record FaceTable (s : Sheet) (table : List ℕ) : Type 0 where
  -- two ends have the same number exactly when their walks lie in one face;
  pub same : (d e : ℕ) → d < darts s → e < darts s → (entries table d ≡ entries table e) ↔ InOneFace s d e
  -- faces are numbered from 0, and no number is left out,
  pub from_0 : (d : ℕ) → d < darts s → (c : ℕ) → c < entries table d → (e : ℕ) × (e < darts s) × (entries table e ≡ c)
  -- in the order of their lowest such end;
  pub in_order : (d e : ℕ) → Lowest s d → Lowest s e → d < e → entries table d < entries table e
  -- entries past the last end are 0.
  pub past : (d : ℕ) → darts s ≤ d → entries table d ≡ 0
  pub full : length table ≡ 512

-- what is laid down for the answer and the table returned: of a sheet that isn't sound 9, and 512 zeros
pub data TraceFacesAnswered (s : Sheet) : Result (List ℕ) Refusal → List ℕ → Type 0 where
  accepted : {table : List ℕ} → Sound s → FaceTable s table → TraceFacesAnswered s (Ok table) table
  refused : ¬ Sound s → TraceFacesAnswered s (Err NotSound) (replicate 512 0)
