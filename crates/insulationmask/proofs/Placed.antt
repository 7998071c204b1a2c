-- Where the parts of a sound sheet lie: what the arrays hold, and how many parts there are. Assumes nothing.
use Rattle.std.proofs.Common.{◌≡◌, ℕ, ◌+◌, ◌-◌, ◌*◌, ◌≤◌, ◌<◌, get_or, arith, refl}
use Rattle.soundness.proofs.Columns.{columns_within}
use Rattle.clauses.specs.declared.Sheet.{Sheet}
use Rattle.sheet.specs.Levels.{left_face, right_face}
use Rattle.sheet.specs.Check.{face, face_count, column}
use Rattle.sheet.specs.Inner.{findings_in}
use Rattle.draw.proofs.Columns.{beside}
use Rattle.insulationmask.specs.declared.Placement.{Placement}
use Rattle.insulationmask.specs.Mask.{level_row}
use Rattle.insulationmask.specs.Inner.{Placed}

module _ {p : Placement} (P : Placed p) where
  abbrev s : Sheet
  s = p.sheet.now

  -- how many faces were found; there are at most 256, and as many edges
  pub count_is : p.found.now.count ≡ face_count s
  unfolding findings_in
  count_is = rw P.found refl

  pub faces_fit : face_count s ≤ 256
  faces_fit = (columns_within P.sound).few_nodes

  pub edges_fit : s.edges ≤ 256
  edges_fit = (columns_within P.sound).few_edges

  -- one segment for each face, and for each edge but edge 0
  pub as_many : p.found.now.count + s.edges - 1 + 1 ≡ face_count s + s.edges
  as_many = omega (arith, count_is, P.sound.limits.edges_least)

  pub parts_fit : p.found.now.count + s.edges ≤ 512
  parts_fit = omega (arith, count_is, faces_fit, edges_fit)

  -- the row of an edge's tail
  pub row_at : (k : ℕ) → get_or p.found.now.rows (get_or s.tails k 0) 0 ≡ level_row s k
  unfolding findings_in
  row_at k = rw P.found refl

  -- the column of a face
  pub column_at : (g : ℕ) → get_or p.columns.now g 0 ≡ column s g
  column_at g = rw P.columns refl

  -- the face of an end of edge k, which is the number of an entry
  pub left_at : (k : ℕ) → get_or p.found.now.faces (2 * k) 0 ≡ left_face (face s) k
  unfolding findings_in
  left_at k = rw P.found refl

  pub right_at : (k : ℕ) → get_or p.found.now.faces (2 * k + 1) 0 ≡ right_face (face s) k
  unfolding findings_in
  right_at k = rw P.found refl

  pub left_below : (k : ℕ) → k < s.edges → get_or p.found.now.faces (2 * k) 0 < 256
  unfolding findings_in
  left_below k h = rw P.found ((beside P.sound).left_in k h)

  pub right_below : (k : ℕ) → k < s.edges → get_or p.found.now.faces (2 * k + 1) 0 < 256
  unfolding findings_in
  right_below k h = rw P.found ((beside P.sound).right_in k h)
