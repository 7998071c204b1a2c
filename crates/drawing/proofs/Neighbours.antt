-- A bar but 0 and 1 goes up to its right neighbour, in the drawing of a sound sheet.
use Rattle.std.proofs.Common.{◌≡◌, sym, ◌∙◌, ap, true, ◌/◌, arith}
use Rattle.planarmap.proofs.Corners.{has_corners}
use Rattle.planarmap.proofs.Neighbours.{neighbour}
use Rattle.clauses.specs.Darts.{opposite}
use Rattle.sheet.specs.Darts.{vertex}
use Rattle.sheet.specs.Check.{row, face, column}
use Rattle.sheet.proofs.Darts.{dart, dart_is, edge_below}
use Rattle.soundness.proofs.Plane.{plane_of}
use Rattle.drawing.specs.Draw.{edge_column, last_column}
use Rattle.drawing.specs.Laid.{NeighbourLaw}
use Rattle.drawing.proofs.Segments.{vertex_row, edge_stands, long_of}
use Rattle.drawing.proofs.Contact.{edge_low, edge_high}
use Rattle.drawing.proofs.Sides.{last_is}

pub neighbour_law : NeighbourLaw
unfolding edge_column
neighbour_law s S v h n0 n1 =
    let (q, R, p) = (has_corners (plane_of S).bipolar).right h n0 n1 in
    let (e, N) = neighbour (plane_of S) R in
    let k = e / 2 in
    let i = edge_below s N.edge.below in
    let is : dart true k ≡ e = ap (λ b. dart b k) (sym N.edge.is_out) ∙ dart_is e in
    let here = ap (row s) p ∙ sym (vertex_row s v h) in (
      k,
      record {
        inside = i;
        next_column = omega (arith, edge_stands s k i, ap (λ d. column s (face s d)) is, ap (column s) N.beside, (long_of S).ends R, ap (last_column s) p, last_is S v h);
        low = omega (arith, edge_low S k i, ap (λ d. row s (vertex s d)) is, N.from, here);
        high = omega (arith, edge_high S k i, ap (λ d. row s (vertex s (opposite d))) is, N.to, here);
      },
    )
