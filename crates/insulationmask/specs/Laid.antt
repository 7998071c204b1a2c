-- The insulation mask of a sheet as C-17 lays it down, with no definition that computes.
use Rattle.std.specs.Prelude.{ℕ, ◌+◌, ◌-◌, ◌*◌, ◌≤◌, ◌<◌, ◌≡◌, ◌≢◌, ◌⊎◌, List, get_or, length, take, replicate, pos, ◌-ℤ◌}
use Rattle.std.specs.Float.{Float, ◌≤ᶠ◌, float_zero}
use Rattle.orbits.specs.Meaning.{entries}
use Rattle.clauses.specs.declared.Sheet.{Sheet}
use Rattle.sheet.specs.Darts.{tail}
use Rattle.sheet.specs.Sound.{Faces}
use Rattle.sheet.specs.Levels.{Row, Column, left_face, right_face}
use Rattle.tracefaces.specs.Table.{FaceTable}
use Rattle.halves.specs.Halves.{half_below, half_above, Twice}
use Rattle.segments.specs.declared.Segment.{Segment}
use Rattle.segments.specs.declared.Segment.TheVariants.{Upright, Level}
use Rattle.segments.specs.Framed.{no_frame, Framed}
use Rattle.insulationmask.specs.declared.Mask.{Mask}

-- an entry past the last segment: an upright of three zeros
abbrev pub no_segment : Segment
no_segment = Upright float_zero float_zero float_zero

-- no segments and a frame of four zeros
abbrev pub no_mask : Mask
no_mask = record { count = 0; segments = replicate 511 no_segment; frame = no_frame }

abbrev pub segment_of : Mask → ℕ → Segment
segment_of M i = get_or M.segments i no_segment

-- The level segment of wire k ends on the segment of face g: k is not wire 0, and g is its left or its right face.
pub record EndsOn (s : Sheet) (face : ℕ → ℕ) (g k : ℕ) : Type 0 where
  pub inside : k < s.edges
  pub not_0 : k ≢ 0
  pub beside : (left_face face k ≡ g) ⊎ (right_face face k ≡ g)

-- x is the float half a column left of column c, y the one half a row above row r. Twice each is the whole number it stands for.
pub record HalfLeft (c : ℕ) (x : Float) : Type 0 where
  pub is : x ≡ half_below c
  pub twice : Twice x (pos (2 * c) -ℤ pos 1)

pub record HalfAbove (r : ℕ) (y : Float) : Type 0 where
  pub is : y ≡ half_above r
  pub twice : Twice y (pos (2 * r + 1))

-- Level segments lie at these heights: h is the lowest, or the highest, of those that end on the segment of face g.
pub record Lowest (s : Sheet) (face : ℕ → ℕ) (height : ℕ → Float) (g : ℕ) (h : Float) : Type 0 where
  pub edge : ℕ
  pub ends_on : EndsOn s face g edge
  pub is_there : height edge ≡ h
  pub lowest : (k : ℕ) → EndsOn s face g k → h ≤ᶠ height k

pub record Highest (s : Sheet) (face : ℕ → ℕ) (height : ℕ → Float) (g : ℕ) (h : Float) : Type 0 where
  pub edge : ℕ
  pub ends_on : EndsOn s face g edge
  pub is_there : height edge ≡ h
  pub highest : (k : ℕ) → EndsOn s face g k → height k ≤ᶠ h

pub record Laid (s : Sheet) (M : Mask) : Type 0 where
  -- The faces are numbered by the lowest end that a walk of theirs leaves its bar by, as C-15 lays down.
  pub table : List ℕ
  pub face_table : FaceTable s table
  pub faces : ℕ
  pub are_faces : Faces s (entries table) faces
  -- Face g has its segment at x g, wire k at height k.
  pub x : ℕ → Float
  pub height : ℕ → Float
  pub low : ℕ → Float
  pub high : ℕ → Float
  -- Segments come in this order: faces first. For each face there is an upright segment
  pub upright : (g : ℕ) → g < faces → segment_of M g ≡ Upright (x g) (low g) (high g)
  -- half a column left of its column;
  pub column : (g : ℕ) → g < faces → (c : ℕ) × Column s (entries table) g c × HalfLeft c (x g)
  -- it runs from the lowest to the highest of the level segments that end on it.
  pub lowest : (g : ℕ) → g < faces → Lowest s (entries table) height g (low g)
  pub highest : (g : ℕ) → g < faces → Highest s (entries table) height g (high g)
  -- Then wires from 1 up. For each there is a level segment, from its left face's segment to its right face's,
  pub level : (k : ℕ) → k < s.edges → k ≢ 0
      → segment_of M (faces + (k - 1)) ≡ Level (height k) (x (left_face (entries table) k)) (x (right_face (entries table) k))
  -- half a row above the tail's row.
  pub row : (k : ℕ) → k < s.edges → k ≢ 0 → (r : ℕ) × Row s (tail s k) r × HalfAbove r (height k)
  -- There are no others, and wire 0 has none; entries past the last segment are uprights of zeros.
  pub count : M.count + 1 ≡ faces + s.edges
  pub segment_entries : length M.segments ≡ 511
  pub unused : (i : ℕ) → M.count ≤ i → segment_of M i ≡ no_segment
  -- The frame holds the least and greatest x and y of all mask segments.
  pub frame : Framed (take M.count M.segments) M.frame
