-- Where edges and vertices may touch: an edge stands in the column of its left face, from its tail's row to its head's; a vertex lies in its row,
-- from its first to its last column.
use Rattle.std.specs.Prelude.{◌≡◌, ◌≢◌, ◌⊎◌, Bool, true, false, cond, ℕ, suc, ◌*◌, ◌≤◌, ◌<◌}
use Rattle.planarmap.specs.Map.{Map}
use Rattle.planarmap.specs.Corners.{Left, Right, corner_face}
use Rattle.planarmap.specs.Order.{Edge}

-- vertex 0 is alone in the least row, and vertex 1 alone in the greatest
pub record RowEnds (M : Map) : Type 0 where
  pub lowest : {v : ℕ} → v < M.vertices → v ≢ 0 → M.row 0 < M.row v
  pub highest : {v : ℕ} → v < M.vertices → v ≢ 1 → M.row v < M.row 1

-- ---- the chain lemma

-- an edge other than the root crosses c where its left face is in column c or left of it, and its right face right of c
pub record Cross (M : Map) (column : ℕ → ℕ) (c e : ℕ) : Type 0 where
  pub edge : Edge M e
  pub not_root : e ≢ M.root
  pub left : column (M.face e) ≤ c
  pub right : c < column (M.face (M.opposite e))

-- the edge d ends no higher than the edge e begins, and in the same row only at the same vertex
pub record Under (M : Map) (d e : ℕ) : Type 0 where
  pub not_above : M.row (M.vertex (M.opposite d)) ≤ M.row (M.vertex e)
  pub meeting : M.row (M.vertex (M.opposite d)) ≡ M.row (M.vertex e) → M.vertex (M.opposite d) ≡ M.vertex e

-- the edges that cross c stand one above the other
abbrev pub Chain : Map → (ℕ → ℕ) → Type 0
Chain M column = (c d e : ℕ) → Cross M column c d → Cross M column c e → M.row (M.vertex d) ≤ M.row (M.vertex e) → (d ≡ e) ⊎ Under M d e

-- ---- how far a vertex reaches

-- first and last columns that keep each vertex between the faces to its left and to its right; vertices 0 and 1, which have no such corners, are free
pub record Extent (M : Map) (column first last : ℕ → ℕ) : Type 0 where
  pub from_left : {l : ℕ} → Left M l → column (corner_face M l) ≤ first (M.vertex l)
  pub to_right : {k : ℕ} → Right M k → last (M.vertex k) < column (corner_face M k)

-- the column of the edge of a dart
unfoldable pub edge_column : Map → (ℕ → ℕ) → ℕ → ℕ
edge_column M column d = cond (M.out d) (column (M.face d)) (column (M.face (M.opposite d)))

-- k is the least, or the greatest, column of the edges of v
pub record Least (M : Map) (column : ℕ → ℕ) (v k : ℕ) : Type 0 where
  pub found : (d : ℕ) × (d < M.darts) × (M.vertex d ≡ v) × (k ≡ edge_column M column d)
  pub least : (d : ℕ) → d < M.darts → M.vertex d ≡ v → k ≤ edge_column M column d

pub record Greatest (M : Map) (column : ℕ → ℕ) (v k : ℕ) : Type 0 where
  pub found : (d : ℕ) × (d < M.darts) × (M.vertex d ≡ v) × (k ≡ edge_column M column d)
  pub greatest : (d : ℕ) → d < M.darts → M.vertex d ≡ v → edge_column M column d ≤ k

-- the face to the right of the edge of a dart
unfoldable pub right_face : Map → ℕ → ℕ
right_face M d = cond (M.out d) (M.face (M.opposite d)) (M.face d)

-- of the edges that leave v, where b is true, or enter it, that of the dart d is the rightmost: it stands in the greatest column
pub record Rightmost (M : Map) (column : ℕ → ℕ) (v : ℕ) (b : Bool) (d : ℕ) : Type 0 where
  pub below : d < M.darts
  pub at_v : M.vertex d ≡ v
  pub kind : M.out d ≡ b
  pub greatest : (e : ℕ) → e < M.darts → M.vertex e ≡ v → M.out e ≡ b → edge_column M column e ≤ edge_column M column d

-- the right corner k of a vertex lies between its rightmost outgoing and its rightmost incoming edge: the face to the right of both is that of the
-- corner, and no face to the right of an edge of the vertex is in a greater column
pub record RightSide (M : Map) (column : ℕ → ℕ) (k : ℕ) : Type 0 where
  pub outgoing : Rightmost M column (M.vertex k) true k
  pub incoming : Rightmost M column (M.vertex k) false (M.next k)
  pub one_face : (b : Bool) (d : ℕ) → Rightmost M column (M.vertex k) b d → right_face M d ≡ corner_face M k
  pub greatest : (d : ℕ) → d < M.darts → M.vertex d ≡ M.vertex k → column (right_face M d) ≤ column (corner_face M k)

-- an edge stands to the right of a vertex with the right corner k: the corner's face is to its left, and its rows hold the vertex's
pub record Neighbour (M : Map) (k e : ℕ) : Type 0 where
  pub edge : Edge M e
  pub beside : M.face e ≡ corner_face M k
  pub from : M.row (M.vertex e) ≤ M.row (M.vertex k)
  pub to : M.row (M.vertex k) ≤ M.row (M.vertex (M.opposite e))

-- each vertex from the least column of its edges: vertices 0 and 1 to the greatest, every other on to the column before the face to its right
pub record Long (M : Map) (column first last : ℕ → ℕ) : Type 0 where
  pub begins : {v : ℕ} → v < M.vertices → Least M column v (first v)
  pub ends : {k : ℕ} → Right M k → suc (last (M.vertex k)) ≡ column (corner_face M k)
  pub source : Greatest M column 0 (last 0)
  pub sink : Greatest M column 1 (last 1)

-- each vertex reaches all its edges
abbrev pub Reaches : Map → (ℕ → ℕ) → (ℕ → ℕ) → (ℕ → ℕ) → Type 0
Reaches M column first last = (d : ℕ) → d < M.darts → (first (M.vertex d) ≤ edge_column M column d) × (edge_column M column d ≤ last (M.vertex d))

-- ---- no contact, in whole numbers

pub record Apart (M : Map) (column first last : ℕ → ℕ) : Type 0 where
  -- of two edges in one column one stands under the other
  pub edges : {d e : ℕ} → Edge M d → Edge M e → d ≢ e → column (M.face d) ≡ column (M.face e) → Under M d e ⊎ Under M e d
  -- a vertex that an edge's column and rows hold is the edge's tail or head
  pub vertex_edge : {v e : ℕ} → v < M.vertices → Edge M e → first v ≤ column (M.face e) → column (M.face e) ≤ last v
      → M.row (M.vertex e) ≤ M.row v → M.row v ≤ M.row (M.vertex (M.opposite e)) → (v ≡ M.vertex e) ⊎ (v ≡ M.vertex (M.opposite e))
  -- two vertices in one row have no column in common
  pub vertices : {v w : ℕ} → v < M.vertices → w < M.vertices → v ≢ w → M.row v ≡ M.row w
      → (c : ℕ) → first v ≤ c → c ≤ last v → first w ≤ c → c ≤ last w → ⊥

-- ---- no contact, at all points of the plane: the point (x / unit, y / unit)

-- it lies on the vertical segment in a column, from row low to row high
pub record OnVertical (column low high x y unit : ℕ) : Type 0 where
  pub here : x ≡ column * unit
  pub from : low * unit ≤ y
  pub to : y ≤ high * unit

-- it lies on the horizontal segment in a row, from column first to column last
pub record OnHorizontal (row first last x y unit : ℕ) : Type 0 where
  pub here : y ≡ row * unit
  pub from : first * unit ≤ x
  pub to : x ≤ last * unit

abbrev pub OnEdge : Map → (ℕ → ℕ) → ℕ → ℕ → ℕ → ℕ → Type 0
OnEdge M column e x y unit = OnVertical (column (M.face e)) (M.row (M.vertex e)) (M.row (M.vertex (M.opposite e))) x y unit

abbrev pub OnVertex : Map → (ℕ → ℕ) → (ℕ → ℕ) → ℕ → ℕ → ℕ → ℕ → Type 0
OnVertex M first last v x y unit = OnHorizontal (M.row v) (first v) (last v) x y unit

-- the head of d is the tail of e, and the point is in the row of that vertex
pub record Joins (M : Map) (d e y unit : ℕ) : Type 0 where
  pub joint : M.vertex (M.opposite d) ≡ M.vertex e
  pub there : y ≡ M.row (M.vertex e) * unit

-- v is the vertex of the dart d, and the point is in its row
pub record IsEnd (M : Map) (v d y unit : ℕ) : Type 0 where
  pub end : v ≡ M.vertex d
  pub there : y ≡ M.row (M.vertex d) * unit

pub record NoContact (M : Map) (column first last : ℕ → ℕ) : Type 0 where
  -- a point of two edges is the head of one and the tail of the other
  pub edges : {d e x y unit : ℕ} → 0 < unit → Edge M d → Edge M e → d ≢ e → OnEdge M column d x y unit → OnEdge M column e x y unit
      → Joins M d e y unit ⊎ Joins M e d y unit
  -- a point of a vertex and an edge is an end of the edge at that vertex
  pub vertex_edge : {v e x y unit : ℕ} → 0 < unit → v < M.vertices → Edge M e → OnVertex M first last v x y unit → OnEdge M column e x y unit
      → IsEnd M v e y unit ⊎ IsEnd M v (M.opposite e) y unit
  -- two vertices have no point in common
  pub vertices : {v w x y unit : ℕ} → 0 < unit → v < M.vertices → w < M.vertices → v ≢ w
      → OnVertex M first last v x y unit → OnVertex M first last w x y unit → ⊥
