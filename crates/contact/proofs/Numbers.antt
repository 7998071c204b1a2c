-- What the test of the numbers says. Assumes nothing.
use Rattle.std.proofs.Common.{ℕ, ◌≡◌, arith, length, take}
use Rattle.std.specs.List.{list_all}
use Rattle.soundness.proofs.Tests.{Says, le_says, lt_says, and_says, all_says, reworded}
use Rattle.counting.specs.Below.{all_below}
use Rattle.drawing.specs.declared.Drawing.{Drawing}
use Rattle.drawing.specs.Draw.{no_vertex_segment, no_edge_segment}
use Rattle.drawing.specs.Points.{vertex_of, edge_of}
use Rattle.contact.specs.Tests.{vertex_formed, edge_formed, well_formed}
use Rattle.contact.specs.Laws.{VertexFormed, EdgeFormed, WellFormedLaw}
use Rattle.contact.proofs.Entries.{all_entries}

vertex_formed_says : (D : Drawing) (v : ℕ) → Says (vertex_formed D.rows D.columns (vertex_of D v)) (VertexFormed D v)
unfolding vertex_formed
vertex_formed_says D v = reworded (and_says (and_says (le_says _ _) (lt_says _ _)) (lt_says _ _))
    (λ ((f, r), l). record { rightward = f; row = r; first = omega arith; last = l }) (λ b. ((b.rightward, b.row), b.last))

edge_formed_says : (D : Drawing) (k : ℕ) → Says (edge_formed D.rows D.columns (edge_of D k)) (EdgeFormed D k)
unfolding edge_formed
edge_formed_says D k = reworded (and_says (and_says (lt_says _ _) (lt_says _ _)) (lt_says _ _))
    (λ ((u, h), c). record { upward = u; low = omega arith; high = h; column = c }) (λ w. ((w.upward, w.high), w.column))

pub well_formed_law : WellFormedLaw
unfolding well_formed
well_formed_law n m D = reworded (and_says (all_says n (λ v _. vertex_formed_says D v)) (all_says m (λ k _. edge_formed_says D k)))
    (λ (f, g). record { vertices = f; edges = g }) (λ F. (F.vertices, F.edges))

-- the tests of the first bars and of the first wires, as lists
module _ (D : Drawing) where
  pub vertices_listed : (n : ℕ) → length (take n D.vertices) ≡ n
      → list_all (vertex_formed D.rows D.columns) (take n D.vertices) ≡ all_below (λ v. vertex_formed D.rows D.columns (vertex_of D v)) n
  vertices_listed n h = all_entries no_vertex_segment (vertex_formed D.rows D.columns) n D.vertices h

  pub edges_listed : (m : ℕ) → length (take m D.edges) ≡ m
      → list_all (edge_formed D.rows D.columns) (take m D.edges) ≡ all_below (λ k. edge_formed D.rows D.columns (edge_of D k)) m
  edges_listed m h = all_entries no_edge_segment (edge_formed D.rows D.columns) m D.edges h
