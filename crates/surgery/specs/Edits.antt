-- The four edits of a map, as equations between the map M of fewer darts and the map M' of two darts more.
-- Nothing is said of faces and rows: each map has its own.
use Rattle.std.specs.Prelude.{◌≡◌, ◌≢◌, true, false, ℕ, suc, ◌<◌}
use Rattle.planarmap.specs.Map.{Map}
use Rattle.surgery.specs.Darts.{Inserted, Removed, Paired}

-- M' has one edge more, from its tail dart N to its head dart N + 1, where N is the number of M's darts
pub record Grown (M M' : Map) : Type 0 where
  pub darts : M'.darts ≡ suc (suc M.darts)
  pub edges : M'.edges ≡ suc M.edges
  pub root : M'.root ≡ M.root
  pub paired : Paired M.darts M.opposite M'.opposite
  pub tail_out : M'.out M.darts ≡ true
  pub head_in : M'.out (suc M.darts) ≡ false
  pub out_rest : {d : ℕ} → d < M.darts → M'.out d ≡ M.out d

-- run: the new edge goes from the corner after p to the corner after q
pub record Added (M M' : Map) (p q : ℕ) : Type 0 where
  pub grown : Grown M M'
  pub vertices : M'.vertices ≡ M.vertices
  pub next : Inserted M.darts p q M.next M'.next
  pub vertex_tail : M'.vertex M.darts ≡ M.vertex p
  pub vertex_head : M'.vertex (suc M.darts) ≡ M.vertex q
  pub vertex_rest : {d : ℕ} → d < M.darts → M'.vertex d ≡ M.vertex d

-- put in: the head dart b comes to a new vertex, where the new edge begins; the new edge's head dart takes the place of b
pub record Subdivided (M M' : Map) (b : ℕ) : Type 0 where
  pub grown : Grown M M'
  pub vertices : M'.vertices ≡ suc M.vertices
  pub b_below : b < M.darts
  pub b_head : M.out b ≡ false
  pub b_other : b ≢ M.opposite M.root
  pub next_b : M'.next b ≡ M.darts
  pub next_tail : M'.next M.darts ≡ b
  pub next_head : M'.next (suc M.darts) ≡ M.next b
  pub next_before : {d : ℕ} → d < M.darts → d ≢ b → M.next d ≡ b → M'.next d ≡ suc M.darts
  pub next_rest : {d : ℕ} → d < M.darts → d ≢ b → M.next d ≢ b → M'.next d ≡ M.next d
  pub vertex_b : M'.vertex b ≡ M.vertices
  pub vertex_tail : M'.vertex M.darts ≡ M.vertices
  pub vertex_head : M'.vertex (suc M.darts) ≡ M.vertex b
  pub vertex_rest : {d : ℕ} → d < M.darts → d ≢ b → M'.vertex d ≡ M.vertex d

-- take out a wire: M is M' without its last edge, which is not the root edge, nor the last out of its tail, nor the last into its head
pub record Deleted (M M' : Map) : Type 0 where
  pub grown : Grown M M'
  pub vertices : M.vertices ≡ M'.vertices
  pub root_below : M.root < M.darts
  pub next : Removed M.darts M.next M'.next
  pub vertex : {d : ℕ} → d < M.darts → M.vertex d ≡ M'.vertex d
  pub other_out : (d : ℕ) × (d < M.darts) × (M'.vertex d ≡ M'.vertex M.darts) × (M'.out d ≡ true)
  pub other_in : (d : ℕ) × (d < M.darts) × (M'.vertex d ≡ M'.vertex (suc M.darts)) × (M'.out d ≡ false)

-- take out a bar: the last vertex of M' has the darts b, incoming, and the tail of the last edge alone. It goes, with that edge, and b takes the place of the edge's head dart
pub record Smoothed (M M' : Map) (b : ℕ) : Type 0 where
  pub grown : Grown M M'
  pub vertices : M'.vertices ≡ suc M.vertices
  pub b_below : b < M.darts
  pub b_head : M'.out b ≡ false
  pub ring_b : M'.next b ≡ M.darts
  pub ring_tail : M'.next M.darts ≡ b
  pub vertex_tail : M'.vertex M.darts ≡ M.vertices
  pub next_b : M.next b ≡ M'.next (suc M.darts)
  pub next_before : {d : ℕ} → d < M.darts → d ≢ b → M'.next d ≡ suc M.darts → M.next d ≡ b
  pub next_rest : {d : ℕ} → d < M.darts → d ≢ b → M'.next d ≢ suc M.darts → M.next d ≡ M'.next d
  pub vertex_b : M.vertex b ≡ M'.vertex (suc M.darts)
  pub vertex_rest : {d : ℕ} → d < M.darts → d ≢ b → M.vertex d ≡ M'.vertex d
