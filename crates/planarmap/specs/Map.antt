-- A map of darts: a directed graph with a clockwise order of the darts (half-edges) at each vertex. Darts, vertices and faces are numbered from 0.
use Rattle.std.specs.Prelude.{◌≡◌, ◌≢◌, Bool, true, false, not, ℕ, ◌+◌, ◌<◌}
use Rattle.counting.specs.Orbits.{Perm, Reach, Orbits}

-- the data
pub record Map : Type 0 where
  pub darts : ℕ
  pub vertices : ℕ
  pub edges : ℕ
  pub faces : ℕ
  -- the tail dart of the root edge, which leads from vertex 0 to vertex 1
  pub root : ℕ
  -- the other dart of the same edge; the next dart clockwise at the same vertex; whether the dart is its edge's tail
  pub opposite : ℕ → ℕ
  pub next : ℕ → ℕ
  pub out : ℕ → Bool
  pub vertex : ℕ → ℕ
  -- the face whose walk leaves the vertex by the dart: of an edge's tail dart its left face, of its head dart its right face
  pub face : ℕ → ℕ
  pub row : ℕ → ℕ

-- the face walk: leave by d, arrive by the other dart of its edge, leave by the next dart clockwise
abbrev pub walk : Map → ℕ → ℕ
walk M d = M.next (M.opposite d)

-- The laws of a map whose edges all rise, with vertex 0 its only source and vertex 1 its only sink: a bipolar orientation.
pub record Bipolar (M : Map) : Type 0 where
  pub two_darts : M.darts ≡ M.edges + M.edges
  pub opposite_below : {d : ℕ} → d < M.darts → M.opposite d < M.darts
  pub opposite_opposite : {d : ℕ} → d < M.darts → M.opposite (M.opposite d) ≡ d
  pub opposite_out : {d : ℕ} → d < M.darts → M.out (M.opposite d) ≡ not (M.out d)
  pub vertex_below : {d : ℕ} → d < M.darts → M.vertex d < M.vertices
  -- the darts of a vertex are one cycle of `next`
  pub rotation : Perm M.darts M.next
  pub next_vertex : {d : ℕ} → d < M.darts → M.vertex (M.next d) ≡ M.vertex d
  pub ring : {d e : ℕ} → d < M.darts → e < M.darts → M.vertex d ≡ M.vertex e → Reach M.next d e
  -- the faces are the orbits of the walk
  pub walks : Orbits M.darts (walk M) M.face M.faces
  -- no circle: every edge rises
  pub rises : {d : ℕ} → d < M.darts → M.out d ≡ true → M.row (M.vertex d) < M.row (M.vertex (M.opposite d))
  pub root_below : M.root < M.darts
  pub root_out : M.out M.root ≡ true
  pub root_tail : M.vertex M.root ≡ 0
  pub root_head : M.vertex (M.opposite M.root) ≡ 1
  pub source : {d : ℕ} → d < M.darts → M.vertex d ≡ 0 → M.out d ≡ true
  pub sink : {d : ℕ} → d < M.darts → M.vertex d ≡ 1 → M.out d ≡ false
  pub has_out : {v : ℕ} → v < M.vertices → v ≢ 1 → (d : ℕ) × (d < M.darts) × (M.vertex d ≡ v) × (M.out d ≡ true)
  pub has_in : {v : ℕ} → v < M.vertices → v ≢ 0 → (d : ℕ) × (d < M.darts) × (M.vertex d ≡ v) × (M.out d ≡ false)

-- and drawn in the plane: vertices less edges plus faces is 2
pub record Plane (M : Map) : Type 0 where
  pub bipolar : Bipolar M
  pub euler : M.vertices + M.faces ≡ M.edges + 2
