-- The drawing of a sound sheet, laid out step by step from its rows and faces. Assumes nothing.
use Rattle.std.proofs.Common.{ℕ, ◌<◌, ◌≡◌, refl, ◌∙◌, List, get_or, Option, Some}
use Rattle.digraph.specs.Digraph.{Within}
use Rattle.digraph.specs.Relaxed.{found, levels_of}
use Rattle.soundness.proofs.Columns.{columns_within, columns_acyclic}
use Rattle.clauses.specs.declared.Sheet.{Sheet}
use Rattle.sheet.specs.declared.Findings.{Findings}
use Rattle.sheet.specs.Sound.{Sound}
use Rattle.sheet.specs.Check.{face_from, face_to, edge_table, column_levels}
use Rattle.drawing.specs.declared.Drawing.{Drawing}
use Rattle.drawing.specs.Draw.{edge_column, drawing_of}
use Rattle.counting.specs.Below.{table}
use Rattle.counting.proofs.Tables.{table_agree}
use Rattle.sheet.specs.Inner.{findings_in}
use Rattle.draw.specs.Inner.{leading_faces, Beside, column_from, end_from, drawing_from}
use Rattle.draw.proofs.Columns.{from_table, to_table, beside, columns_are, ends_are}
use Rattle.draw.proofs.Ends.{end_column}
use Rattle.draw.proofs.Segments.{small, drawing_is}

-- from what was found of a sound sheet
module _ {s : Sheet} (S : Sound s) {f : Findings} (q : f ≡ findings_in s) where
  module _ {from to : List ℕ} (e : from ≡ leading_faces s.edges 0 f.faces) (t : to ≡ leading_faces s.edges 1 f.faces) where
    from_are : from ≡ edge_table (face_from s) s
    unfolding findings_in
    from_are = e ∙ rw q (from_table s)

    to_are : to ≡ edge_table (face_to s) s
    unfolding findings_in
    to_are = t ∙ rw q (to_table s)

    -- each edge joins two faces
    pub all_within : Within f.count s.edges from to
    unfolding findings_in
    all_within = rw (q, from_are, to_are) (columns_within S)

    -- the faces make no circle
    pub levels_found : {levels : Option (List ℕ)} → levels ≡ found (levels_of f.count s.edges from to) → levels ≡ Some (column_levels s).level
    unfolding findings_in column_levels
    levels_found l = l ∙ rw (q, from_are, to_are, columns_acyclic S) refl

  module _ {level : List ℕ} (l : level ≡ (column_levels s).level) where
    -- the faces beside its edges have columns
    pub all_beside : Beside s.edges level f.faces
    unfolding findings_in
    all_beside = rw (q, l) (beside S)

    module _ {columns : List ℕ} (ke : columns ≡ table (column_from level f.faces) s.edges 256 0) where
      listed : columns ≡ table (edge_column s) s.edges 256 0
      unfolding findings_in
      listed = ke ∙ rw (q, l) (table_agree _ 256 0 (edge_column s) s.edges (λ k _. columns_are s k))

      -- one more than the greatest row, and than the greatest column, fits an entry
      pub all_small : Sound s × (get_or f.rows 1 0 < 256) × (get_or columns 0 0 < 256)
      unfolding findings_in
      all_small = let (r, k) = small S in rw (q, listed) (S, r, k)

      -- the drawing that is composed is the sheet's
      pub all_laid : {ends : List ℕ} → ends ≡ table (end_from level f.faces) s.edges 256 0 → {d : Drawing} → d ≡ drawing_from s f.rows columns ends → d ≡ drawing_of s
      unfolding findings_in
      all_laid {ends} ee e =
          let ended : ends ≡ table (end_column s) s.edges 256 0 = ee ∙ rw (q, l) (table_agree _ 256 0 (end_column s) s.edges (λ k _. ends_are s k)) in
          e ∙ rw (q, listed, ended) (drawing_is S)
