-- What is laid down of a sound sheet's drawing leaves no choice: a drawing that meets it is the computed one.
use Rattle.std.proofs.Common.{◌≡◌, refl, sym, ◌∙◌, ap, subst, ◌≢◌, List, ℕ, ◌+◌, ◌<◌, arith, ext_get_or}
use Rattle.std.proofs.Math.Logic.{by_cases}
use Rattle.std.proofs.Math.Decide.{ℕ_discrete, dec_lt}
use Rattle.counting.proofs.Paths.{longest_unique}
use Rattle.clauses.specs.declared.Sheet.{Sheet}
use Rattle.sheet.specs.Darts.{tail, head}
use Rattle.sheet.specs.Sound.{Sound}
use Rattle.drawing.specs.declared.VertexSegment.{VertexSegment}
use Rattle.drawing.specs.declared.EdgeSegment.{EdgeSegment}
use Rattle.drawing.specs.declared.Drawing.{Drawing}
use Rattle.drawing.specs.Draw.{no_vertex_segment, no_edge_segment, drawing_of}
use Rattle.drawing.specs.Points.{vertex_of, edge_of}
use Rattle.drawing.specs.Laid.{GreatestColumn, Rightmost, Laid, LaidLaw}
use Rattle.drawing.proofs.Sides.{one_face_law}
use Rattle.drawing.proofs.Laid.{drawing_laid}

-- records with equal parts are equal
vertex_equal : {r r' f f' l l' : ℕ} → r ≡ r' → f ≡ f' → l ≡ l' → ◌≡◌ {A = VertexSegment} (record { row = r; first = f; last = l }) (record { row = r'; first = f'; last = l' })
vertex_equal a b c = rw (a, b, c) refl

edge_equal : {c c' l l' h h' : ℕ} → c ≡ c' → l ≡ l' → h ≡ h' → ◌≡◌ {A = EdgeSegment} (record { column = c; low = l; high = h }) (record { column = c'; low = l'; high = h' })
edge_equal a b c = rw (a, b, c) refl

pub drawing_equal : {r r' c c' : ℕ} {vs vs' : List VertexSegment} {es es' : List EdgeSegment} → r ≡ r' → c ≡ c' → vs ≡ vs' → es ≡ es'
    → ◌≡◌ {A = Drawing} (record { rows = r; columns = c; vertices = vs; edges = es }) (record { rows = r'; columns = c'; vertices = vs'; edges = es' })
drawing_equal a b c d = rw (a, b, c, d) refl

module _ {s : Sheet} (S : Sound s) {D : Drawing} (L : Laid s D) where
  abbrev E : Drawing
  E = drawing_of s

  M : Laid s E
  M = drawing_laid S

  same_row : (v : ℕ) → v < s.vertices → (vertex_of D v).row ≡ (vertex_of E v).row
  same_row v h = longest_unique (L.row v h) (M.row v h)

  same_column : (k : ℕ) → k < s.edges → (edge_of D k).column ≡ (edge_of E k).column
  same_column k h = let e = S.euler in longest_unique (L.column e.face e.faces e.numbered k h) (M.column e.face e.faces e.numbered k h)

  same_first : (v : ℕ) → v < s.vertices → (vertex_of D v).first ≡ (vertex_of E v).first
  same_first v h =
      let a = L.first v h in
      let b = M.first v h in
      omega (arith, a.stands, b.stands, a.least b.edge b.edge_at, b.least a.edge a.edge_at, same_column a.edge a.edge_at.0, same_column b.edge b.edge_at.0)

  same_greatest : {v c c' : ℕ} → GreatestColumn s D v c → GreatestColumn s E v c' → c ≡ c'
  same_greatest a b =
      omega (arith, a.stands, b.stands, a.greatest b.edge b.edge_at, b.greatest a.edge a.edge_at, same_column a.edge a.edge_at.0, same_column b.edge b.edge_at.0)

  same_rightmost : {end : Sheet → ℕ → ℕ} {v k : ℕ} → Rightmost s D end v k → Rightmost s E end v k
  same_rightmost {k = k} F = record { inside = F.inside; at_bar = F.at_bar; greatest = λ j h p. omega (arith, F.greatest j h p, same_column j h, same_column k F.inside) }

  same_right : (v : ℕ) → v < s.vertices → v ≢ 0 → v ≢ 1 → (vertex_of D v).last ≡ (vertex_of E v).last
  same_right v h n0 n1 =
      let e = S.euler in
      let (c, F, a) = L.last e.face e.faces e.numbered v h n0 n1 in
      let (c', G, b) = M.last e.face e.faces e.numbered v h n0 n1 in
      let one : c ≡ c' = sym F.right_of_upward
      ∙ one_face_law s S e.face e.faces e.numbered v F.upward G.downward (same_rightmost F.upward_rightmost) G.downward_rightmost ∙ G.right_of_downward in
      omega (arith, longest_unique (rw one at a) b)

  same_last : (v : ℕ) → v < s.vertices → (vertex_of D v).last ≡ (vertex_of E v).last
  same_last v h =
      by_cases (ℕ_discrete v 0) (λ e. rw e (same_greatest L.last_0 M.last_0))
      (λ n0. by_cases (ℕ_discrete v 1) (λ e. rw e (same_greatest L.last_1 M.last_1)) (same_right v h n0))

  same_vertex : (v : ℕ) → vertex_of D v ≡ vertex_of E v
  same_vertex v = by_cases (dec_lt v s.vertices)
      (λ h. vertex_equal (same_row v h) (same_first v h) (same_last v h))
      (λ h. L.unused_vertices v (omega arith) ∙ sym (M.unused_vertices v (omega arith)))

  same_edge : (k : ℕ) → edge_of D k ≡ edge_of E k
  same_edge k = by_cases (dec_lt k s.edges)
      (λ h. edge_equal (same_column k h)
      (L.low k h ∙ same_row (tail s k) (S.joins k h).tail_in ∙ sym (M.low k h))
      (L.high k h ∙ same_row (head s k) (S.joins k h).head_in ∙ sym (M.high k h)))
      (λ h. L.unused_edges k (omega arith) ∙ sym (M.unused_edges k (omega arith)))

  laid_unique : D ≡ E
  laid_unique = drawing_equal
      (L.rows ∙ ap (λ v. v.row + 1) (same_vertex 1) ∙ sym M.rows)
      (L.columns ∙ ap (λ k. k.column + 1) (same_edge 0) ∙ sym M.columns)
      (ext_get_or no_vertex_segment D.vertices E.vertices (L.vertex_entries ∙ sym M.vertex_entries) (λ v _. same_vertex v))
      (ext_get_or no_edge_segment D.edges E.edges (L.edge_entries ∙ sym M.edge_entries) (λ k _. same_edge k))

pub laid_law : LaidLaw
laid_law s S D = (λ L. laid_unique S L, λ e. subst (Laid s) (sym e) (drawing_laid S))
