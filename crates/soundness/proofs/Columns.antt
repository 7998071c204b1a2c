-- Columns of a sound sheet.
use Rattle.std.proofs.Common.{◌≡◌, refl, sym, ◌∙◌, ap, ◌≢◌, Bool, true, false, ℕ, ◌/◌, ◌<◌, arith, get_or, ne_eqb}
use Rattle.std.proofs.Math.Logic.{by_cases}
use Rattle.std.proofs.Math.Decide.{ℕ_discrete}
use Rattle.digraph.specs.Digraph.{Within}
use Rattle.digraph.specs.Digraph as digraph
use Rattle.planarmap.specs.Columns.{FaceStep, FaceGraph}
use Rattle.planarmap.specs.Columns as plane
use Rattle.planarmap.specs.Columns.FaceStep.{across, over_root}
use Rattle.planarmap.proofs.Columns.{face_graph, column_laws}
use Rattle.clauses.specs.declared.Sheet.{Sheet}
use Rattle.clauses.specs.Darts.{tail_dart, head_dart, opposite}
use Rattle.sheet.specs.Sound.{Sound, Faces}
use Rattle.sheet.specs.Levels.{FaceLeads, Column, left_face, right_face}
use Rattle.sheet.specs.Levels.FaceLeads.{across as left_to_right, root as right_to_left}
use Rattle.sheet.specs.Check.{face, face_count, face_from, face_to, edge_table, column_levels, column}
use Rattle.soundness.specs.Maps.{map_of}
use Rattle.soundness.specs.Laws.{Columns}
use Rattle.counting.proofs.Tables as tables
use Rattle.counting.proofs.Paths.{carry}
use Rattle.sheet.proofs.Darts.{dart, dart_is, dart_kind, dart_below, dart_opposite, edge_below}
use Rattle.soundness.proofs.Levels.{circle_over, longest_over, acyclic_says, level_longest}
use Rattle.soundness.proofs.Faces.{faces_numbered}
use Rattle.soundness.proofs.Law.{rotation_of}
use Rattle.soundness.proofs.Plane.{plane_of}

module _ (s : Sheet) where
  -- an edge table's entry at a wire
  pub table_at : (g : ℕ → ℕ) (k : ℕ) → k < s.edges → get_or (edge_table g s) k 0 ≡ g k
  unfolding edge_table
  table_at g k h = tables.table_at g 256 0 0 s.edges k h

  to_step : (b c : ℕ) → FaceLeads s (face s) b c → FaceStep (map_of s) b c
  to_step b c (left_to_right k h n p q) = across (record { below = dart_below true h; is_out = dart_kind true k }) (omega arith) p (ap (face s) (dart_opposite true k) ∙ q)
  to_step b c (right_to_left p q) = over_root (ap (face s) (dart_opposite true 0) ∙ p) q

  to_lead : (b c : ℕ) → FaceStep (map_of s) b c → FaceLeads s (face s) b c
  to_lead b c (across {e} E n p q) =
      let is : dart true (e / 2) ≡ e = ap (λ b. dart b (e / 2)) (sym E.is_out) ∙ dart_is e in
      let other : opposite e ≡ head_dart (e / 2) = ap opposite (sym is) ∙ dart_opposite true (e / 2) in
      left_to_right (e / 2) (edge_below s E.below) (omega arith) (ap (face s) is ∙ p) (ap (face s) (sym other) ∙ q)
  to_lead b c (over_root p q) = right_to_left (ap (face s) (sym (dart_opposite true 0)) ∙ p) q

  -- the faces between which wire k leads
  pub ends_root : (face_from s 0 ≡ right_face (face s) 0) × (face_to s 0 ≡ left_face (face s) 0)
  unfolding face_from face_to
  ends_root = (refl, refl)

  pub ends_other : (k : ℕ) → k ≢ 0 → (face_from s k ≡ left_face (face s) k) × (face_to s k ≡ right_face (face s) k)
  unfolding face_from face_to
  ends_other k n = rw (ne_eqb k 0 n) (refl, refl)

  Listed : ℕ → ℕ → Type 0
  Listed = digraph.Leads s.edges (edge_table (face_from s) s) (edge_table (face_to s) s)

  listed : 0 < s.edges → (b c : ℕ) → FaceLeads s (face s) b c → Listed b c
  unfolding Listed
  listed _ b c (left_to_right k h n p q) =
      record { edge = k; inside = h; source = table_at (face_from s) k h ∙ (ends_other k n).0 ∙ p; target = table_at (face_to s) k h ∙ (ends_other k n).1 ∙ q }
  listed h b c (right_to_left p q) =
      record { edge = 0; inside = h; source = table_at (face_from s) 0 h ∙ ends_root.0 ∙ p; target = table_at (face_to s) 0 h ∙ ends_root.1 ∙ q }

  unlisted : (b c : ℕ) → Listed b c → FaceLeads s (face s) b c
  unfolding Listed
  unlisted b c t =
      let k = t.edge in
      let p = sym (table_at (face_from s) k t.inside) ∙ t.source in
      let q = sym (table_at (face_to s) k t.inside) ∙ t.target in
      by_cases (ℕ_discrete k 0)
      (λ e. right_to_left (sym ends_root.0 ∙ ap (face_from s) (sym e) ∙ p) (sym ends_root.1 ∙ ap (face_to s) (sym e) ∙ q))
      (λ n. left_to_right k t.inside n (sym (ends_other k n).0 ∙ p) (sym (ends_other k n).1 ∙ q))

module _ {s : Sheet} (S : Sound s) where
  faces_of : Faces s (face s) (face_count s)
  faces_of = faces_numbered s S.limits.edges_most (rotation_of S)

  -- the faces of a wire
  face_below : (b : Bool) (k : ℕ) → k < s.edges → face s (dart b k) < face_count s
  face_below b k h = faces_of.inside (dart b k) (dart_below b h)

  ends_below : (k : ℕ) → k < s.edges → (face_from s k < face_count s) × (face_to s k < face_count s)
  ends_below k h = by_cases (ℕ_discrete k 0)
      (λ e. let (p, q) = ends_root s in rw (e, p, q) (face_below false 0 (omega arith), face_below true 0 (omega arith)))
      (λ n. let (p, q) = ends_other s k n in rw (p, q) (face_below true k h, face_below false k h))

  pub columns_within : Within (face_count s) s.edges (edge_table (face_from s) s) (edge_table (face_to s) s)
  columns_within = record {
    few_nodes = omega (arith, S.limits.edges_most, S.limits.vertices_least, (plane_of S).euler);
    few_edges = S.limits.edges_most;
    from_in = λ k h. rw (table_at s (face_from s) k h) (ends_below k h).0;
    to_in = λ k h. rw (table_at s (face_to s) k h) (ends_below k h).1;
  }

  graph : FaceGraph (map_of s)
  graph = face_graph (plane_of S) S.limits.edges_least

  pub columns_acyclic : (column_levels s).acyclic ≡ true
  unfolding column_levels Listed
  columns_acyclic =
      (acyclic_says (FaceLeads s (face s)) (face_count s) s.edges (edge_table (face_from s) s) (edge_table (face_to s) s)
      columns_within (listed s (omega (arith, S.limits.edges_least))) (unlisted s)).1
      (λ z. graph.no_circle (circle_over (to_step s) z))

  column_longest : (c : ℕ) → c < face_count s → Column s (face s) c (column s c)
  unfolding column_levels Listed opposite
  column_longest = level_longest (FaceLeads s (face s)) (face_count s) s.edges (edge_table (face_from s) s) (edge_table (face_to s) s)
      columns_within (listed s (omega (arith, S.limits.edges_least))) (unlisted s)
      (λ z. graph.no_circle (circle_over (to_step s) z)) (right_face (face s) 0)
      (λ c h. let (k, p) = graph.reached c h in (k, carry (to_lead s) p))

  pub columns_of : plane.Column (map_of s) (column s)
  unfolding opposite
  columns_of c h = longest_over (to_step s) (to_lead s) (column_longest c h)

pub column_law : {s : Sheet} → Sound s → Columns s
unfolding opposite
column_law {s} S =
    let laws = column_laws (plane_of S) (columns_of S) in
    record {
      faces = faces_of S;
      longest = column_longest S;
      rises = λ k h n. rw (dart_opposite true k) at (laws.rises (tail_dart k) (record { below = dart_below true h; is_out = dart_kind true k }) (omega arith));
      first = laws.first;
      last = λ c h. laws.last h;
      fewer = λ c h. laws.fewer h;
    }
