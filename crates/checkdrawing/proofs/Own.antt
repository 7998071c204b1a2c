-- Every drawing that our program makes is accepted. Assumes nothing.
use Rattle.std.proofs.Common.{refl, inl, inr, ℕ, ◌≤◌, ◌<◌, arith}
use Rattle.clauses.specs.declared.Sheet.{Sheet}
use Rattle.sheet.specs.Sound.{Sound}
use Rattle.drawing.specs.declared.Drawing.{Drawing}
use Rattle.drawing.specs.Draw.{drawing_of}
use Rattle.drawing.specs.Points.{vertex_of}
use Rattle.drawing.specs.Laid.{Laid}
use Rattle.drawing.specs.Clear.{Clear, Fits}
use Rattle.drawing.specs.Write.{drawing_text_of}
use Rattle.drawing.proofs.Laid.{drawing_laid}
use Rattle.drawing.proofs.Correct.{drawing_correct}
use Rattle.readdrawing.specs.Laws.{Writable}
use Rattle.contact.specs.Laws.{WellFormed}
use Rattle.contact.proofs.Clear.{clear_ends}
use Rattle.checkdrawing.specs.Answered.{Accepted}

module _ {s : Sheet} (S : Sound s) where
  abbrev own : Drawing
  own = drawing_of s

  L : Laid s own
  L = drawing_laid S

  C : Clear s own
  C = (drawing_correct S).clear

  F : Fits s own
  F = (drawing_correct S).fits

  -- a wire's end is on its bar, so that the bar's first column doesn't exceed its last
  rightward : (v : ℕ) → v < s.vertices → (vertex_of own v).first ≤ (vertex_of own v).last
  rightward v h =
      let c = L.first v h in
      elim c.edge_at.1 [
        | inl e ↦ let p = rw e at ((clear_ends C).on_tail c.edge c.edge_at.0) in omega (arith, p.from, p.to)
        | inr e ↦ let p = rw e at ((clear_ends C).on_head c.edge c.edge_at.0) in omega (arith, p.from, p.to)
      ]

  formed : WellFormed s.vertices s.edges own
  formed = record {
    vertices = λ v h. record { rightward = rightward v h; row = F.vertex_row v h; first = F.vertex_first v h; last = F.vertex_last v h };
    edges = λ k h. record { upward = C.rises k h; low = omega (arith, C.rises k h, F.edge_high k h); high = F.edge_high k h; column = F.edge_column k h };
  }

  -- the numbers are below 1000: there are at most 128 rows and 256 columns
  writable : Writable s.vertices s.edges own
  writable =
      let rows : own.rows ≤ 128 = omega (arith, F.rows, S.limits.vertices_most) in
      let columns : own.columns ≤ 256 = omega (arith, F.columns, S.limits.vertices_least, S.limits.edges_most) in
      record {
        vertex_entries = L.vertex_entries;
        edge_entries = L.edge_entries;
        rows = omega (arith, rows);
        columns = omega (arith, columns);
        vertices = λ v h. record { row = omega (arith, F.vertex_row v h, rows); first = omega (arith, F.vertex_first v h, columns); last = omega (arith, F.vertex_last v h, columns) };
        edges = λ k h. record { column = omega (arith, F.edge_column k h, columns); low = omega (arith, C.rises k h, F.edge_high k h, rows); high = omega (arith, F.edge_high k h, rows) };
        unused_vertices = L.unused_vertices;
        unused_edges = L.unused_edges;
      }

  pub own_accepted : Accepted s (drawing_text_of s)
  own_accepted = record {
    sound = S;
    drawing = drawing_of s;
    shows = record { shows = record { written = refl; writable = writable }; formed = formed };
    clear = C;
    ordered = (drawing_correct S).ordered;
  }
