-- Plate and mask at all points of the plane: their coordinates in halves are whole numbers, so it follows from whole numbers; edges and uprights, and
-- vertices and levels, differ by an odd number of halves. Assumes nothing.
use Rattle.std.proofs.Common.{◌≢◌, ◌↔◌, ℕ, ◌+◌, ◌*◌, ◌≤◌, mul-le-mul_right, arith}
use Rattle.planarmap.specs.Map.{Map, Plane}
use Rattle.planarmap.specs.Order.{Edge}
use Rattle.planarmap.specs.Columns.{ColumnLaws}
use Rattle.planarmap.specs.Contact.{Extent, Long, OnVertical, OnHorizontal}
use Rattle.planarmap.proofs.Spans.{long_extent}
use Rattle.planarmap.proofs.Points.{le_off}
use Rattle.insulation.specs.Mask.{Uprights, MaskApart, at_column, left_of, at_row, above, OnBoth, Crossing, NoMaskContact}
use Rattle.insulation.proofs.Apart.{mask_apart}

-- a point of the plane in columns and rows, counted in halves: on the plate's segments it is where it was
pub vertical_halves : (c low high x y unit : ℕ) → OnVertical c low high x y unit ↔ OnVertical (at_column c) (at_row low) (at_row high) (2 * x + unit) (2 * y) unit
vertical_halves c low high x y unit = (λ p. omega arith, λ p. omega arith)

pub horizontal_halves : (r first last x y unit : ℕ) → OnHorizontal r first last x y unit ↔ OnHorizontal (at_row r) (at_column first) (at_column last) (2 * x + unit) (2 * y) unit
horizontal_halves r first last x y unit = (λ p. omega arith, λ p. omega arith)

module _ {M : Map} (P : Plane M) {column : ℕ → ℕ} (L : ColumnLaws M column) where
  own : {e x y unit : ℕ} → Edge M e → e ≢ M.root → OnBoth M column e x y unit ↔ Crossing M column e x y unit
  own {e} {x} {y} {unit} E n = (
    λ p. record { across = p.edge.here; up = p.level.here },
    λ p.
        let up : above (M.row (M.vertex e)) ≤ at_row (M.row (M.vertex (M.opposite e))) = omega (arith, P.bipolar.rises E.below E.is_out) in
        let over : at_column (column (M.face e)) ≤ left_of (column (M.face (M.opposite e))) = omega (arith, L.rises e E n) in
        record { edge = omega (arith, mul-le-mul_right unit up); level = omega (arith, mul-le-mul_right unit over) },
  )

  module _ {first last : ℕ → ℕ} (X : Extent M column first last) {low high : ℕ → ℕ} (U : Uprights M low high) where
    A : MaskApart M column first last low high
    A = mask_apart P L X U

    pub no_mask_contact : NoMaskContact M column first last low high
    no_mask_contact = record {
      own = own;
      edge_level = λ {d} {e} u D E n other p q.
          let l = le_off u (left_of (column (M.face e))) (at_column (column (M.face d))) (omega arith) in
          let r = le_off u (at_column (column (M.face d))) (left_of (column (M.face (M.opposite e)))) (omega arith) in
          let low = le_off u (at_row (M.row (M.vertex d))) (above (M.row (M.vertex e))) (omega arith) in
          let high = le_off u (above (M.row (M.vertex e))) (at_row (M.row (M.vertex (M.opposite d)))) (omega arith) in
          A.edge_level D E n other (omega arith) (omega arith) (omega arith) (omega arith);
      edge_upright = λ {e} {f} u E k p q.
          let l = le_off u (left_of (column f)) (at_column (column (M.face e))) (omega arith) in
          let r = le_off u (at_column (column (M.face e))) (left_of (column f)) (omega arith) in
          omega arith;
      vertex_level = λ {v} {e} u h E n p q.
          let l = le_off u (at_row (M.row v)) (above (M.row (M.vertex e))) (omega arith) in
          let r = le_off u (above (M.row (M.vertex e))) (at_row (M.row v)) (omega arith) in
          omega arith;
      vertex_upright = λ {v} {f} u h k p q.
          let l = le_off u (at_column (first v)) (left_of (column f)) (omega arith) in
          let r = le_off u (left_of (column f)) (at_column (last v)) (omega arith) in
          let up = le_off u (above (low f)) (at_row (M.row v)) (omega arith) in
          let down = le_off u (at_row (M.row v)) (above (high f)) (omega arith) in
          A.vertex_upright h k (omega arith) (omega arith) (omega arith) (omega arith);
    }

  -- so it holds of vertices that reach on to the face to their right
  pub long_no_mask_contact : {first last low high : ℕ → ℕ} → Long M column first last → Uprights M low high → NoMaskContact M column first last low high
  long_no_mask_contact F U = no_mask_contact (long_extent P L F) U
