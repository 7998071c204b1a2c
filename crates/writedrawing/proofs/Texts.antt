-- The lines of a drawing, by their numbers; how long they and the whole text are. Assumes nothing.
use Rattle.std.proofs.Common.{ℕ, ◌≤◌, ◌≡◌, [], ◌∷◌, ap, arith, length, take, length-take-le, get_or-take, refl}
use Rattle.counting.specs.Below.{join_below}
use Rattle.text.specs.Written.{line}
use Rattle.text.specs.Keys.{wire_key}
use Rattle.buffer.proofs.Writing.{line_short}
use Rattle.buffer.proofs.Parts.{four_size}
use Rattle.counting.proofs.Joined.{join_short, join_agree}
use Rattle.drawing.specs.declared.VertexSegment.{VertexSegment}
use Rattle.drawing.specs.declared.EdgeSegment.{EdgeSegment}
use Rattle.drawing.specs.declared.Drawing.{Drawing}
use Rattle.drawing.specs.Draw.{no_vertex_segment, no_edge_segment}
use Rattle.drawing.specs.Write.{rows_key, columns_key, bar_key, vertex_line, edge_line, drawing_text}
use Rattle.writedrawing.specs.Inner.{vertex_text, edge_text, vertices_text, edges_text, segments_text}

vertex_short : (v : VertexSegment) → length (vertex_line v) ≤ 17
unfolding vertex_line
vertex_short v = line_short bar_key (v.row ∷ v.first ∷ v.last ∷ [])

edge_short : (e : EdgeSegment) → length (edge_line e) ≤ 18
unfolding edge_line
edge_short e = line_short wire_key (e.column ∷ e.low ∷ e.high ∷ [])

module _ (d : Drawing) where
  pub drawing_short : (n m : ℕ) → n ≤ 128 → m ≤ 256 → length (drawing_text n m d) ≤ 6807
  unfolding drawing_text
  drawing_short n m hn hm =
      let size = four_size (line rows_key (d.rows ∷ [])) (line columns_key (d.columns ∷ [])) (join_below (vertex_text d.vertices) n) (join_below (edge_text d.edges) m) in
      let vertices = join_short (vertex_text d.vertices) 17 n (λ v h. vertex_short _) in
      let edges = join_short (edge_text d.edges) 18 m (λ k h. edge_short _) in
      omega (arith, size, line_short rows_key (d.rows ∷ []), line_short columns_key (d.columns ∷ []), vertices, edges)

  -- the text of its first n and m segments
  pub segments_are : (n m : ℕ) → n ≤ length d.vertices → m ≤ length d.edges → segments_text d.rows d.columns (take n d.vertices) (take m d.edges) ≡ drawing_text n m d
  unfolding drawing_text
  segments_are n m hn hm =
      let vertices : vertices_text (take n d.vertices) ≡ join_below (vertex_text d.vertices) n =
      rw (length-take-le n d.vertices hn) (join_agree _ _ n (λ v h. ap vertex_line (get_or-take n d.vertices v no_vertex_segment h))) in
      let edges : edges_text (take m d.edges) ≡ join_below (edge_text d.edges) m =
      rw (length-take-le m d.edges hm) (join_agree _ _ m (λ k h. ap edge_line (get_or-take m d.edges k no_edge_segment h))) in
      rw (vertices, edges) refl
