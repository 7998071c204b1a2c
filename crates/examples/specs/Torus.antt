-- A 4 by 4 grid wrapped round a torus: 16 bars, 32 wires, every face a simple cycle. Bar v stands in column v mod 4 of row v / 4; wire v goes from it to the
-- right, wire 16 + v upwards.
use Rattle.std.specs.Prelude.{ℕ, ◌+◌, ◌*◌, ◌/◌, ◌%◌, ◌≡◌, ◌++◌, true, false, cond, eqb, ltb, replicate}
use Rattle.counting.specs.Below.{tabulate}
use Rattle.clauses.specs.declared.Sheet.{Sheet}
use Rattle.sheet.specs.Check.{sound, in_rings, planar, face_count}

-- the neighbour to the right, above, to the left, below
abbrev right : ℕ → ℕ
right v = v / 4 * 4 + (v + 1) % 4

abbrev above : ℕ → ℕ
above v = (v + 4) % 16

abbrev left : ℕ → ℕ
left v = v / 4 * 4 + (v + 3) % 4

abbrev below : ℕ → ℕ
below v = (v + 12) % 16

abbrev tail_of : ℕ → ℕ
tail_of k = k % 16

abbrev head_of : ℕ → ℕ
head_of k = cond (ltb k 16) (right k) (above (k % 16))

-- clockwise at a bar: the wire upwards, to the right, from below, from the left. After end d of wire k = d / 2 comes:
abbrev next_of : ℕ → ℕ
next_of d =
    let k = d / 2 in
    cond (eqb (d % 2) 0)
    (cond (ltb k 16) (2 * (16 + below k) + 1) (2 * (k % 16)))
    (cond (ltb k 16) (2 * (16 + right k)) (2 * left (above (k % 16)) + 1))

unfoldable pub torus : Sheet
torus = record {
  vertices = 16;
  edges = 32;
  tails = tabulate tail_of 32 ++ replicate 224 0;
  heads = tabulate head_of 32 ++ replicate 224 0;
  nexts = tabulate next_of 64 ++ replicate 448 0;
}

-- It has 16 faces, and its rings are rings; but bars less wires plus faces is 0, and it is not sound.
pub record TorusFound : Type 0 where
  pub faces : face_count torus ≡ 16
  pub rings : in_rings torus ≡ true
  pub count : planar torus ≡ false
  pub unsound : sound torus ≡ false
