-- Demand 3's drawing: nothing touches that may not, every ring stands in its order, and all lies in rows and columns whose numbers are bounded.
use Rattle.std.specs.Prelude.{ℕ, ◌+◌, ◌/◌, ◌≤◌, ◌<◌, ◌≡◌, Bool, true, false, ◌≢◌, ◌⊎◌, ◌↔◌, get_or}
use mathlib.Core.List.{List, [], ◌∷◌, ◌++◌, Memᴰ}
use Rattle.clauses.specs.declared.Sheet.{Sheet}
use Rattle.clauses.specs.Darts.{is_tail}
use Rattle.sheet.specs.Darts.{tail, head, darts, vertex, next}
use Rattle.drawing.specs.declared.Drawing.{Drawing}
use Rattle.drawing.specs.Points.{Point, OnVertex, OnEdge, TailEnd, HeadEnd, vertex_of, edge_of}

-- wires k and l meet where one ends and the other begins, on one bar
pub record Meet (s : Sheet) (D : Drawing) (k l : ℕ) (p : Point) : Type 0 where
  pub bar : head s k ≡ tail s l
  pub ends : HeadEnd D k p
  pub begins : TailEnd D l p

-- the no-contact property
pub record Clear (s : Sheet) (D : Drawing) : Type 0 where
  -- no point is on two bars
  pub vertices_apart : (v w : ℕ) (p : Point) → v < s.vertices → w < s.vertices → OnVertex D v p → OnVertex D w p → v ≡ w
  -- a point of a bar and a wire is the wire's end on that bar, its own
  pub vertex_edge : (v k : ℕ) (p : Point) → v < s.vertices → k < s.edges → OnVertex D v p → OnEdge D k p
      → ((v ≡ tail s k) × TailEnd D k p) ⊎ ((v ≡ head s k) × HeadEnd D k p)
  -- a point of two wires is an end of both, on one bar
  pub edges_apart : (k l : ℕ) (p : Point) → k < s.edges → l < s.edges → k ≢ l → OnEdge D k p → OnEdge D l p → Meet s D k l p ⊎ Meet s D l k p
  -- each wire rises from its own tail bar to its own head bar
  pub rises : (k : ℕ) → k < s.edges → (edge_of D k).low < (edge_of D k).high
  pub on_tail : (k : ℕ) (p : Point) → k < s.edges → TailEnd D k p → OnVertex D (tail s k) p
  pub on_head : (k : ℕ) (p : Point) → k < s.edges → HeadEnd D k p → OnVertex D (head s k) p

-- each number's value is below the next one's
pub data Rising (value : ℕ → ℕ) : List ℕ → Type 0 where
  none : Rising value []
  one : {d : ℕ} → Rising value (d ∷ [])
  more : {d e : ℕ} {ds : List ℕ} → value d < value e → Rising value (e ∷ ds) → Rising value (d ∷ e ∷ ds)

-- each number's value is above the next one's
pub data Falling (value : ℕ → ℕ) : List ℕ → Type 0 where
  none : Falling value []
  one : {d : ℕ} → Falling value (d ∷ [])
  more : {d e : ℕ} {ds : List ℕ} → value e < value d → Falling value (e ∷ ds) → Falling value (d ∷ e ∷ ds)

-- each dart's next dart is the one after it in the list, and the last one's next is `first`
pub data Cycle (s : Sheet) (first : ℕ) : List ℕ → Type 0 where
  last : {d : ℕ} → next s d ≡ first → Cycle s first (d ∷ [])
  then : {d e : ℕ} {ds : List ℕ} → next s d ≡ e → Cycle s first (e ∷ ds) → Cycle s first (d ∷ e ∷ ds)

-- the upward darts of a bar are the tails at it, the downward ones the heads at it: `ds` has exactly those
abbrev pub Exactly : Sheet → ℕ → Bool → List ℕ → Type 0
Exactly s v up ds = (d : ℕ) → Memᴰ d ds ↔ ((d < darts s) × (vertex s d ≡ v) × (is_tail d ≡ up))

-- the column of a dart's wire in the drawing
abbrev pub dart_column : Drawing → ℕ → ℕ
dart_column D d = (edge_of D (d / 2)).column

-- Clockwise at bar v: upward wires by rising column, then downward wires by falling column, is the ring of next-ends, wherever one starts.
pub record Clockwise (s : Sheet) (D : Drawing) (v : ℕ) : Type 0 where
  pub up : List ℕ
  pub down : List ℕ
  pub all_up : Exactly s v true up
  pub all_down : Exactly s v false down
  pub rising : Rising (dart_column D) up
  pub falling : Falling (dart_column D) down
  pub ring : Cycle s (get_or (up ++ down) 0 0) (up ++ down)

-- every ring is in clockwise order
abbrev pub InOrder : Sheet → Drawing → Type 0
InOrder s D = (v : ℕ) → v < s.vertices → Clockwise s D v

-- every bar and wire lies in the rows and columns; these are at most n rows and m − n + 2 columns
pub record Fits (s : Sheet) (D : Drawing) : Type 0 where
  pub vertex_row : (v : ℕ) → v < s.vertices → (vertex_of D v).row < D.rows
  pub vertex_first : (v : ℕ) → v < s.vertices → (vertex_of D v).first < D.columns
  pub vertex_last : (v : ℕ) → v < s.vertices → (vertex_of D v).last < D.columns
  pub edge_column : (k : ℕ) → k < s.edges → (edge_of D k).column < D.columns
  pub edge_high : (k : ℕ) → k < s.edges → (edge_of D k).high < D.rows
  pub rows : D.rows ≤ s.vertices
  pub columns : D.columns + s.vertices ≤ s.edges + 2

-- nothing touches that may not, every ring stands in its order, all lies in at most n rows and m − n + 2 columns
pub record Correct (s : Sheet) (D : Drawing) : Type 0 where
  pub clear : Clear s D
  pub ordered : InOrder s D
  pub fits : Fits s D
