-- Corners: the corner of the dart d lies between d and the next dart clockwise at its vertex.
use Rattle.std.specs.Prelude.{◌≡◌, ◌≢◌, Bool, true, false, ◌&&◌, ℕ, ◌+◌, ◌≤◌, ◌<◌}
use Rattle.std.specs.Bool.{beq}
use Rattle.counting.specs.Counts.{bit}
use Rattle.planarmap.specs.Map.{Map}

-- the corner of d, of the kind given by whether d, and whether the next dart, is a tail
pub record Corner (M : Map) (a b : Bool) (d : ℕ) : Type 0 where
  pub below : d < M.darts
  pub first : M.out d ≡ a
  pub second : M.out (M.next d) ≡ b

-- the incoming edges end and the outgoing begin: the left side of the vertex
abbrev pub Left : Map → ℕ → Type 0
Left M d = Corner M false true d

-- the outgoing edges end and the incoming begin: the right side
abbrev pub Right : Map → ℕ → Type 0
Right M d = Corner M true false d

-- the walk comes up to the vertex and goes down again: a top of its face
abbrev pub Top : Map → ℕ → Type 0
Top M d = Corner M false false d

-- the walk comes down and goes up again: a bottom of its face
abbrev pub Bottom : Map → ℕ → Type 0
Bottom M d = Corner M true true d

-- the face in which the corner of d lies
abbrev pub corner_face : Map → ℕ → ℕ
corner_face M d = M.face (M.next d)

-- whether the corner of d is of the kind a b
unfoldable pub is_corner : Map → Bool → Bool → ℕ → Bool
is_corner M a b d = beq a (M.out d) && beq b (M.out (M.next d))

-- each corner is of one of the four kinds
abbrev pub OneKind : Map → Type 0
OneKind M = (d : ℕ) → bit (is_corner M false true d) + bit (is_corner M true false d) + bit (is_corner M false false d) + bit (is_corner M true true d) ≡ 1

-- every vertex but 0 and 1 has a left and a right corner, every face a top and a bottom one
pub record HasCorners (M : Map) : Type 0 where
  pub left : {v : ℕ} → v < M.vertices → v ≢ 0 → v ≢ 1 → (d : ℕ) × Left M d × (M.vertex d ≡ v)
  pub right : {v : ℕ} → v < M.vertices → v ≢ 0 → v ≢ 1 → (d : ℕ) × Right M d × (M.vertex d ≡ v)
  pub top : {c : ℕ} → c < M.faces → (d : ℕ) × Top M d × (corner_face M d ≡ c)
  pub bottom : {c : ℕ} → c < M.faces → (d : ℕ) × Bottom M d × (corner_face M d ≡ c)

-- so vertices less edges plus faces is at most 2
abbrev pub EulerMost : Map → Type 0
EulerMost M = M.vertices + M.faces ≤ M.edges + 2

-- in the plane no vertex has two left or two right corners, and no face two top or two bottom corners
pub record OneCorner (M : Map) : Type 0 where
  pub left : {d e : ℕ} → Left M d → Left M e → M.vertex d ≡ M.vertex e → d ≡ e
  pub right : {d e : ℕ} → Right M d → Right M e → M.vertex d ≡ M.vertex e → d ≡ e
  pub top : {d e : ℕ} → Top M d → Top M e → corner_face M d ≡ corner_face M e → d ≡ e
  pub bottom : {d e : ℕ} → Bottom M d → Bottom M e → corner_face M d ≡ corner_face M e → d ≡ e
