-- Bars and wires of a drawing that are free of contact.
use Rattle.std.specs.Prelude.{ℕ, ◌≤◌, ◌<◌, ◌≡◌}
use Rattle.drawing.specs.declared.Drawing.{Drawing}
use Rattle.drawing.specs.Points.{vertex_of, edge_of}
use Rattle.contact.specs.Laws.{WellFormed}

abbrev pub row_of : Drawing → ℕ → ℕ
row_of D v = (vertex_of D v).row

abbrev pub high_of : Drawing → ℕ → ℕ
high_of D k = (edge_of D k).high

abbrev pub column_of : Drawing → ℕ → ℕ
column_of D k = (edge_of D k).column

-- bar v lies in column x
pub record Spans (D : Drawing) (v x : ℕ) : Type 0 where
  pub from : (vertex_of D v).first ≤ x
  pub to : x ≤ (vertex_of D v).last

-- wire k stands in column x
abbrev pub Stands : Drawing → ℕ → ℕ → Type 0
Stands D k x = column_of D k ≡ x

-- no two of these bars share a point, none of n bars has a point between the ends of one of these wires, and no two of these wires have the same upper end
pub record Free (n : ℕ) (D : Drawing) (Bar Wire : ℕ → Type 0) : Type 0 where
  pub apart : (v w x : ℕ) → Bar v → Bar w → row_of D v ≡ row_of D w → Spans D v x → Spans D w x → v ≡ w
  pub uncrossed : (v k : ℕ) → v < n → Wire k → Spans D v (column_of D k) → (edge_of D k).low < row_of D v → high_of D k ≤ row_of D v
  pub ends_apart : (k l : ℕ) → Wire k → Wire l → column_of D k ≡ column_of D l → high_of D k ≡ high_of D l → k ≡ l

-- so with all n bars and m wires
abbrev pub AllFree : (n m : ℕ) → Drawing → Type 0
AllFree n m D = Free n D (λ v. v < n) (λ k. k < m)

-- what a sweep asks of a drawing of n bars and m wires: its numbers are small, and the lower end of each wire is on a bar
pub record Sweepable (n m : ℕ) (D : Drawing) : Type 0 where
  pub few_vertices : n ≤ 128
  pub few_edges : m ≤ 256
  pub few_rows : D.rows ≤ 1000
  pub few_columns : D.columns ≤ 1000
  pub formed : WellFormed n m D
  pub on_bar : (k : ℕ) → k < m → (v : ℕ) × (v < n) × (row_of D v ≡ (edge_of D k).low) × Spans D v (column_of D k)
