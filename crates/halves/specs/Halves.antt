-- A level less or plus a half as a 32-bit float, what twice a float is, and a float beside a fraction.
use Rattle.std.specs.Prelude.{ℕ, suc, ◌+◌, ◌*◌, ◌≤◌, ◌<◌, ◌≡◌, ◌↔◌, true, false, ℤ, pos, negsuc, ◌-ℤ◌, ◌≤ℤ◌}
use Rattle.std.specs.Float.{◌≤ᶠ◌}
use Rattle.std.specs.Float.Ieee.{Float, nan, inf, fin, up, down, binary32, of_int, add, sub}
use Rattle.std.specs.Float.Ieee.Exact.{HasValue}

-- 1 · 2 ^ -1
abbrev pub half : Float
half = fin false 1 (negsuc 0)

-- A level becomes f32, then 0.5 is subtracted or added.
unfoldable pub half_below : ℕ → Float
half_below level = sub binary32 (of_int binary32 (pos level)) half

unfoldable pub half_above : ℕ → Float
half_above level = add binary32 (of_int binary32 (pos level)) half

-- Twice the float x is the whole number t.
abbrev pub Twice : Float → ℤ → Type 0
Twice x (pos n) = HasValue x false n 2
Twice x (negsuc n) = HasValue x true (suc n) 2

-- All halves come out exact: of every level below 256, twice the float half a step below is twice the level less 1, and twice the one half a step above twice
-- the level plus 1.
abbrev pub BelowExactLaw : Type 0
BelowExactLaw = (level : ℕ) → level < 256 → Twice (half_below level) (pos (2 * level) -ℤ pos 1)

abbrev pub AboveExactLaw : Type 0
AboveExactLaw = (level : ℕ) → level < 256 → Twice (half_above level) (pos (2 * level + 1))

-- Such floats are in the order of the whole numbers.
abbrev pub OrderLaw : Type 0
OrderLaw = (x y : Float) (t u : ℤ) → Twice x t → Twice y u → (x ≤ᶠ y) ↔ (t ≤ℤ u)

-- ---- a float beside the fraction a / c

-- it is the fraction
abbrev pub Is : Float → ℕ → ℕ → Type 0
Is x a c = HasValue x false a c

-- it is at most the fraction
abbrev pub AtMost : Float → ℕ → ℕ → Type 0
AtMost nan a c = ⊥
AtMost (inf false) a c = ⊥
AtMost (inf true) a c = Unit {0}
AtMost (fin false m e) a c = m * up e * c ≤ a * down e
AtMost (fin true m e) a c = Unit {0}

-- it is at least the fraction
abbrev pub AtLeast : Float → ℕ → ℕ → Type 0
AtLeast nan a c = ⊥
AtLeast (inf false) a c = Unit {0}
AtLeast (inf true) a c = ⊥
AtLeast (fin false m e) a c = a * down e ≤ m * up e * c
AtLeast (fin true m e) a c = (m ≡ 0) × (a ≡ 0)
