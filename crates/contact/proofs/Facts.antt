-- What the tests say of whole numbers. Assumes nothing.
use Rattle.std.proofs.Common.{◌≡◌, sym, Bool, not, ℕ, ◌≤◌, ◌<◌, arith}
use Rattle.std.proofs.Math.Logic.{by_cases}
use Rattle.std.proofs.Math.Decide.{ℕ_discrete, dec_lt}
use Rattle.counting.specs.Below.{all_below}
use Rattle.clauses.specs.declared.Sheet.{Sheet}
use Rattle.sheet.specs.Darts.{tail, head}
use Rattle.soundness.proofs.Tests.{Says, le_says, lt_says, eq_says, and_says, not_says, all_says, reworded}
use Rattle.drawing.specs.declared.VertexSegment.{VertexSegment}
use Rattle.drawing.specs.declared.EdgeSegment.{EdgeSegment}
use Rattle.drawing.specs.declared.Drawing.{Drawing}
use Rattle.drawing.specs.Points.{vertex_of, edge_of}
use Rattle.contact.specs.Tests.{covers, ends_on, touching, crossing, stacked, all_ends_on, vertices_apart, uncrossed, unstacked, no_contact, is_clear}

-- ---- of two segments

-- a point of the grid is on a bar
pub record Covers (b : VertexSegment) (column row : ℕ) : Type 0 where
  pub level : b.row ≡ row
  pub from : b.first ≤ column
  pub to : column ≤ b.last

-- two bars share a point
pub record Touching (a b : VertexSegment) : Type 0 where
  pub level : a.row ≡ b.row
  pub left : a.first ≤ b.last
  pub right : b.first ≤ a.last

-- a bar and a wire share a point between the wire's ends
pub record Crossing (b : VertexSegment) (w : EdgeSegment) : Type 0 where
  pub from : b.first ≤ w.column
  pub to : w.column ≤ b.last
  pub above : w.low < b.row
  pub below : b.row < w.high

-- two wires of one tail stand in one column
pub record Stacked (s : Sheet) (D : Drawing) (k l : ℕ) : Type 0 where
  pub bar : tail s k ≡ tail s l
  pub column : (edge_of D k).column ≡ (edge_of D l).column

covers_says : (b : VertexSegment) (column row : ℕ) → Says (covers b column row) (Covers b column row)
unfolding covers
covers_says b column row = reworded (and_says (and_says (eq_says _ _) (le_says _ _)) (le_says _ _))
    (λ ((e, l), r). record { level = e; from = l; to = r }) (λ c. ((c.level, c.from), c.to))

ends_on_says : (a b : VertexSegment) (w : EdgeSegment) → Says (ends_on a b w) (Covers a w.column w.low × Covers b w.column w.high)
unfolding ends_on
ends_on_says a b w = and_says (covers_says a w.column w.low) (covers_says b w.column w.high)

touching_says : (a b : VertexSegment) → Says (touching a b) (Touching a b)
unfolding touching
touching_says a b = reworded (and_says (and_says (eq_says _ _) (le_says _ _)) (le_says _ _))
    (λ ((e, l), r). record { level = e; left = l; right = r }) (λ c. ((c.level, c.left), c.right))

crossing_says : (b : VertexSegment) (w : EdgeSegment) → Says (crossing b w) (Crossing b w)
unfolding crossing
crossing_says b w = reworded (and_says (and_says (and_says (le_says _ _) (le_says _ _)) (lt_says _ _)) (lt_says _ _))
    (λ (((l, r), u), o). record { from = l; to = r; above = u; below = o }) (λ c. (((c.from, c.to), c.above), c.below))

stacked_says : (s : Sheet) (D : Drawing) (k l : ℕ) → Says (stacked (tail s k) (tail s l) (edge_of D k) (edge_of D l)) (Stacked s D k l)
unfolding stacked
stacked_says s D k l = reworded (and_says (eq_says _ _) (eq_says _ _)) (λ (p, q). record { bar = p; column = q }) (λ c. (c.bar, c.column))

touching_turned : (a b : VertexSegment) → Touching a b → Touching b a
touching_turned a b t = record { level = sym t.level; left = t.right; right = t.left }

stacked_turned : (s : Sheet) (D : Drawing) (k l : ℕ) → Stacked s D k l → Stacked s D l k
stacked_turned s D k l t = record { bar = sym t.bar; column = sym t.column }

-- ---- of a drawing

-- the lower end of each wire is on its tail bar, the upper one on its head bar
pub record EndsOn (s : Sheet) (D : Drawing) : Type 0 where
  pub on_tail : (k : ℕ) → k < s.edges → Covers (vertex_of D (tail s k)) (edge_of D k).column (edge_of D k).low
  pub on_head : (k : ℕ) → k < s.edges → Covers (vertex_of D (head s k)) (edge_of D k).column (edge_of D k).high

-- no two of n bars share a point
abbrev pub Apart : ℕ → Drawing → Type 0
Apart n D = (v w : ℕ) → v < n → w < n → Touching (vertex_of D v) (vertex_of D w) → v ≡ w

-- no bar of n has a point between the ends of a wire of m
abbrev pub Uncrossed : ℕ → ℕ → Drawing → Type 0
Uncrossed n m D = (v : ℕ) → v < n → (k : ℕ) → k < m → ¬ Crossing (vertex_of D v) (edge_of D k)

-- no two wires of one tail stand in one column
abbrev pub Unstacked : Sheet → Drawing → Type 0
Unstacked s D = (k l : ℕ) → k < s.edges → l < s.edges → Stacked s D k l → k ≡ l

-- no forbidden point is shared
pub record Uncontacted (s : Sheet) (D : Drawing) : Type 0 where
  pub vertices : Apart s.vertices D
  pub crossings : Uncrossed s.vertices s.edges D
  pub stacks : Unstacked s D

pub all_ends_on_says : (s : Sheet) (D : Drawing) → Says (all_ends_on s D) (EndsOn s D)
unfolding all_ends_on
all_ends_on_says s D = reworded (all_says s.edges (λ k _. ends_on_says _ _ (edge_of D k)))
    (λ f. record { on_tail = λ k h. (f k h).0; on_head = λ k h. (f k h).1 }) (λ e k h. (e.on_tail k h, e.on_head k h))

-- of a test of two: no two different numbers below n pass
module _ {p : ℕ → ℕ → Bool} {P : ℕ → ℕ → Type 0} (says : (v w : ℕ) → Says (p v w) (P v w)) (turned : (v w : ℕ) → P v w → P w v) where
  none_say : (n : ℕ) → Says (all_below (λ w. all_below (λ v. not (p v w)) w) n) ((v w : ℕ) → v < n → w < n → P v w → v ≡ w)
  none_say n =
      reworded (all_says n (λ w _. all_says w (λ v _. not_says (says v w))))
      (λ f v w h k q. by_cases (ℕ_discrete v w) (λ e. e) (λ e. by_cases (dec_lt v w) (λ l. absurd (f w k v l q)) (λ l. absurd (f v h w (omega arith) (turned v w q)))))
      (λ g w k v l q. omega (arith, g v w (omega arith) k q))

vertices_apart_says : (n : ℕ) (D : Drawing) → Says (vertices_apart n D) (Apart n D)
unfolding vertices_apart
vertices_apart_says n D = none_say (λ v w. touching_says (vertex_of D v) (vertex_of D w)) (λ v w. touching_turned (vertex_of D v) (vertex_of D w)) n

uncrossed_says : (n m : ℕ) (D : Drawing) → Says (uncrossed n m D) (Uncrossed n m D)
unfolding uncrossed
uncrossed_says n m D = all_says n (λ v _. all_says m (λ k _. not_says (crossing_says (vertex_of D v) (edge_of D k))))

unstacked_says : (s : Sheet) (D : Drawing) → Says (unstacked s D) (Unstacked s D)
unfolding unstacked
unstacked_says s D = none_say (stacked_says s D) (stacked_turned s D) s.edges

pub no_contact_says : (s : Sheet) (D : Drawing) → Says (no_contact s D) (Uncontacted s D)
unfolding no_contact
no_contact_says s D = reworded (and_says (and_says (vertices_apart_says s.vertices D) (uncrossed_says s.vertices s.edges D)) (unstacked_says s D))
    (λ ((v, c), t). record { vertices = v; crossings = c; stacks = t }) (λ u. ((u.vertices, u.crossings), u.stacks))

pub is_clear_says : (s : Sheet) (D : Drawing) → Says (is_clear s D) (EndsOn s D × Uncontacted s D)
unfolding is_clear
is_clear_says s D = and_says (all_ends_on_says s D) (no_contact_says s D)
