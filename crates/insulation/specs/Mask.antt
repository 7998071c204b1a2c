-- The insulation mask of a plane map: for each face an upright half a column left of its column, and for each edge but the root a level half a row above
-- its tail, from the upright of its left face to that of its right face. An upright runs from the lowest to the highest of the levels that end on it.
use Rattle.std.specs.Prelude.{◌≡◌, ◌≢◌, ◌⊎◌, ◌↔◌, ℕ, ◌+◌, ◌*◌, ◌≤◌, ◌<◌}
use Rattle.planarmap.specs.Map.{Map}
use Rattle.planarmap.specs.Order.{Edge}
use Rattle.planarmap.specs.Contact.{OnVertical, OnHorizontal}

-- the edge e, not the root, has the face f on one side: its level ends on the upright of f
pub record Beside (M : Map) (f e : ℕ) : Type 0 where
  pub edge : Edge M e
  pub not_root : e ≢ M.root
  pub side : (M.face e ≡ f) ⊎ (M.face (M.opposite e) ≡ f)

-- every face has such an edge
abbrev pub AllBeside : Map → Type 0
AllBeside M = (f : ℕ) → f < M.faces → (e : ℕ) × Beside M f e

-- k is the least, or the greatest, row of the tails of the edges beside f
pub record Lowest (M : Map) (f k : ℕ) : Type 0 where
  pub found : (e : ℕ) × Beside M f e × (k ≡ M.row (M.vertex e))
  pub lowest : (e : ℕ) → Beside M f e → k ≤ M.row (M.vertex e)

pub record Highest (M : Map) (f k : ℕ) : Type 0 where
  pub found : (e : ℕ) × Beside M f e × (k ≡ M.row (M.vertex e))
  pub highest : (e : ℕ) → Beside M f e → M.row (M.vertex e) ≤ k

-- the upright of each face f runs from half a row above the row low f to half a row above the row high f
pub record Uprights (M : Map) (low high : ℕ → ℕ) : Type 0 where
  pub begins : {f : ℕ} → f < M.faces → Lowest M f (low f)
  pub ends : {f : ℕ} → f < M.faces → Highest M f (high f)

-- ---- plate and mask in whole numbers

pub record MaskApart (M : Map) (column first last low high : ℕ → ℕ) : Type 0 where
  -- no edge but e itself stands across the level of e
  pub edge_level : {d e : ℕ} → Edge M d → Edge M e → e ≢ M.root → d ≢ e → column (M.face e) ≤ column (M.face d)
      → column (M.face d) < column (M.face (M.opposite e)) → M.row (M.vertex d) ≤ M.row (M.vertex e) → M.row (M.vertex e) < M.row (M.vertex (M.opposite d)) → ⊥
  -- no vertex lies across the upright of a face
  pub vertex_upright : {v f : ℕ} → v < M.vertices → f < M.faces → first v < column f → column f ≤ last v → low f < M.row v → M.row v ≤ high f → ⊥

-- ---- plate and mask at all points of the plane

-- Coordinates are counted in halves: upwards from row 0, and to the right from half a column left of column 0, where the mask begins. So a point at the
-- column p and the row q, which need not be whole, is (x / unit, y / unit) with x / unit = 2 p + 1 and y / unit = 2 q. All points of plate and mask have one.
abbrev pub at_column : ℕ → ℕ
at_column c = 2 * c + 1

-- half a column left of a column
abbrev pub left_of : ℕ → ℕ
left_of c = 2 * c

abbrev pub at_row : ℕ → ℕ
at_row r = 2 * r

-- half a row above a row
abbrev pub above : ℕ → ℕ
above r = 2 * r + 1

abbrev pub OnEdge : Map → (ℕ → ℕ) → ℕ → ℕ → ℕ → ℕ → Type 0
OnEdge M column e x y unit = OnVertical (at_column (column (M.face e))) (at_row (M.row (M.vertex e))) (at_row (M.row (M.vertex (M.opposite e)))) x y unit

abbrev pub OnVertex : Map → (ℕ → ℕ) → (ℕ → ℕ) → ℕ → ℕ → ℕ → ℕ → Type 0
OnVertex M first last v x y unit = OnHorizontal (at_row (M.row v)) (at_column (first v)) (at_column (last v)) x y unit

abbrev pub OnUpright : (ℕ → ℕ) → (ℕ → ℕ) → (ℕ → ℕ) → ℕ → ℕ → ℕ → ℕ → Type 0
OnUpright column low high f x y unit = OnVertical (left_of (column f)) (above (low f)) (above (high f)) x y unit

abbrev pub OnLevel : Map → (ℕ → ℕ) → ℕ → ℕ → ℕ → ℕ → Type 0
OnLevel M column e x y unit = OnHorizontal (above (M.row (M.vertex e))) (left_of (column (M.face e))) (left_of (column (M.face (M.opposite e)))) x y unit

-- a point of an edge and of its own level
pub record OnBoth (M : Map) (column : ℕ → ℕ) (e x y unit : ℕ) : Type 0 where
  pub edge : OnEdge M column e x y unit
  pub level : OnLevel M column e x y unit

-- the point in the column of the edge e, half a row above its tail
pub record Crossing (M : Map) (column : ℕ → ℕ) (e x y unit : ℕ) : Type 0 where
  pub across : x ≡ at_column (column (M.face e)) * unit
  pub up : y ≡ above (M.row (M.vertex e)) * unit

pub record NoMaskContact (M : Map) (column first last low high : ℕ → ℕ) : Type 0 where
  -- an edge other than the root and its own level share that point, and no other
  pub own : {e x y unit : ℕ} → Edge M e → e ≢ M.root → OnBoth M column e x y unit ↔ Crossing M column e x y unit
  -- no other segments of plate and mask share a point
  pub edge_level : {d e x y unit : ℕ} → 0 < unit → Edge M d → Edge M e → e ≢ M.root → d ≢ e → OnEdge M column d x y unit → OnLevel M column e x y unit → ⊥
  pub edge_upright : {e f x y unit : ℕ} → 0 < unit → Edge M e → f < M.faces → OnEdge M column e x y unit → OnUpright column low high f x y unit → ⊥
  pub vertex_level : {v e x y unit : ℕ} → 0 < unit → v < M.vertices → Edge M e → e ≢ M.root → OnVertex M first last v x y unit → OnLevel M column e x y unit → ⊥
  pub vertex_upright : {v f x y unit : ℕ} → 0 < unit → v < M.vertices → f < M.faces → OnVertex M first last v x y unit → OnUpright column low high f x y unit → ⊥
