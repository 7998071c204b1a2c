-- What `traced` and `is_permutation` mean, in the words of `counting`. `proofs/Numbering.antt` and `proofs/Distinct.antt` prove the statements.
use Rattle.std.specs.Prelude.{ℕ, ◌≤◌, ◌<◌, ◌≡◌, ◌↔◌, true, List, get_or, length}
use Rattle.counting.specs.Orbits.{Perm, Reach, Orbits}
use Rattle.orbits.specs.declared.Traced.{Traced}
use Rattle.orbits.specs.Tables.{traced, is_permutation}

-- the table as a function
abbrev pub entries : List ℕ → ℕ → ℕ
entries table d = get_or table d 0

-- the lowest element with the number c: every element below it has a lower number
pub record Lead (size : ℕ) (label : ℕ → ℕ) (c : ℕ) : Type 0 where
  pub first : ℕ
  pub inside : first < size
  pub has : label first ≡ c
  pub least : (d : ℕ) → d < first → label d < c

-- r has the orbits of the step, in the order of their lowest elements
pub record Numbering (size : ℕ) (step : ℕ → ℕ) (r : Traced) : Type 0 where
  pub orbits : Orbits size step (entries r.orbit) r.count
  -- two elements have one number exactly where one is reached from the other
  pub same : (d e : ℕ) → d < size → e < size → (entries r.orbit d ≡ entries r.orbit e) ↔ Reach step d e
  pub lead : (c : ℕ) → c < r.count → Lead size (entries r.orbit) c
  pub past : (d : ℕ) → size ≤ d → entries r.orbit d ≡ 0
  pub full : length r.orbit ≡ 512

-- of a permutation `traced` has the orbits
abbrev pub TracedLaw : Type 0
TracedLaw = (size : ℕ) (step : ℕ → ℕ) → size ≤ 512 → Perm size step → Numbering size step (traced size step)

-- and of every step it has no more than the elements
abbrev pub CountLaw : Type 0
CountLaw = (size : ℕ) (step : ℕ → ℕ) → (traced size step).count ≤ size

-- `is_permutation` says whether the table permutes the elements below `size`, and they fit it
abbrev pub PermutationLaw : Type 0
PermutationLaw = (size : ℕ) (table : List ℕ) → (is_permutation size table ≡ true) ↔ ((size ≤ 512) × Perm size (entries table))
