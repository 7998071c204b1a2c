-- A drawing whose wire ends are on their bars is clear where all its bars and wires are free. Assumes nothing.
use Rattle.std.proofs.Common.{◌≡◌, sym, ap, ◌∙◌, ◌↔◌, Bool, true, false, ℕ, ◌≤◌, ◌<◌, max, arith}
use Rattle.std.proofs.Math.Logic.{by_cases}
use Rattle.std.proofs.Math.Decide.{dec_lt}
use Rattle.clauses.specs.declared.Sheet.{Sheet}
use Rattle.sheet.specs.Darts.{tail, head}
use Rattle.sheet.specs.Sound.{Sound}
use Rattle.soundness.proofs.Tests.{reworded, says_once}
use Rattle.drawing.specs.declared.Drawing.{Drawing}
use Rattle.drawing.specs.Points.{vertex_of, edge_of}
use Rattle.contact.specs.Tests.{all_ends_on, is_clear}
use Rattle.contact.specs.Laws.{WellFormed}
use Rattle.contact.specs.Free.{row_of, high_of, column_of, Spans, AllFree, Sweepable}
use Rattle.contact.proofs.Facts.{Stacked, EndsOn, Uncontacted, no_contact_says}

module _ {s : Sheet} {D : Drawing} (S : Sound s) (F : WellFormed s.vertices s.edges D) (E : EndsOn s D) where
  -- nothing touches
  module _ (U : Uncontacted s D) where
    -- of two wires with one upper end neither begins above the other: its tail bar would cross that one
    level : (k l : ℕ) → k < s.edges → l < s.edges → column_of D k ≡ column_of D l → high_of D k ≡ high_of D l → (edge_of D k).low ≤ (edge_of D l).low
    level k l h g e f = by_cases (dec_lt (edge_of D l).low (edge_of D k).low)
        (λ o. let C = E.on_tail k h in
        absurd (U.crossings (tail s k) (S.joins k h).tail_in l g
        (record { from = omega (arith, C.from, e); to = omega (arith, C.to, e); above = omega (arith, C.level); below = omega (arith, C.level, f, (F.edges k h).upward) })))
        (λ o. omega arith)

    free : AllFree s.vertices s.edges D
    free = record {
      apart = λ v w x h g e a b. U.vertices v w h g (record { level = e; left = omega (arith, a.from, b.to); right = omega (arith, b.from, a.to) });
      uncrossed = λ v k h g a o. by_cases (dec_lt (row_of D v) (high_of D k))
          (λ l. absurd (U.crossings v h k g (record { from = a.from; to = a.to; above = o; below = l })))
          (λ l. omega arith);
      ends_apart = λ k l h g e f.
          let A = E.on_tail k h in
          let B = E.on_tail l g in
          let at : (edge_of D k).low ≡ (edge_of D l).low = omega (arith, level k l h g e f, level l k g h (sym e) (sym f)) in
          let same = U.vertices (tail s k) (tail s l) (S.joins k h).tail_in (S.joins l g).tail_in
          (record { level = A.level ∙ at ∙ sym B.level; left = omega (arith, A.from, B.to, e); right = omega (arith, B.from, A.to, e) }) in
          U.stacks k l h g (record { bar = same; column = e });
    }

  -- all is free
  module _ (A : AllFree s.vertices s.edges D) where
    -- of two wires of one tail and one column neither ends below the other: its head bar would cross that one
    no_higher : (k l : ℕ) → k < s.edges → l < s.edges → Stacked s D k l → high_of D l ≤ high_of D k
    no_higher k l h g t =
        let C = E.on_head k h in
        let low : (edge_of D k).low ≡ (edge_of D l).low = omega (arith, ap (row_of D) t.bar, (E.on_tail k h).level, (E.on_tail l g).level) in
        let on : Spans D (head s k) (column_of D l) = record { from = omega (arith, C.from, t.column); to = omega (arith, C.to, t.column) } in
        omega (arith, C.level, A.uncrossed (head s k) l (S.joins k h).head_in g on (omega (arith, C.level, (F.edges k h).upward)))

    untouched : Uncontacted s D
    untouched = record {
      vertices = λ v w h g t.
          let x = max (vertex_of D v).first (vertex_of D w).first in
          A.apart v w x h g t.level
          (record { from = omega arith; to = omega (arith, t.left, t.right, (F.vertices v h).rightward, (F.vertices w g).rightward) })
          (record { from = omega arith; to = omega (arith, t.left, t.right, (F.vertices v h).rightward, (F.vertices w g).rightward) });
      crossings = λ v h k g c. omega (arith, c.below, A.uncrossed v k h g (record { from = c.from; to = c.to }) c.above);
      stacks = λ k l h g t. A.ends_apart k l h g t.column (omega (arith, no_higher k l h g t, no_higher l k g h (record { bar = sym t.bar; column = sym t.column })));
    }

  -- what finds whether all is free finds whether the drawing is clear
  pub swept_clear : (r : Bool) → r ≡ true ↔ AllFree s.vertices s.edges D → all_ends_on s D ≡ true → r ≡ is_clear s D
  unfolding is_clear
  swept_clear r f e = rw e (says_once (reworded f untouched free) (no_contact_says s D))

  -- and a sweep may be asked
  pub sweepable : D.rows ≤ 1000 → D.columns ≤ 1000 → Sweepable s.vertices s.edges D
  sweepable r c = record {
    few_vertices = S.limits.vertices_most;
    few_edges = S.limits.edges_most;
    few_rows = r;
    few_columns = c;
    formed = F;
    on_bar = λ k h. let C = E.on_tail k h in (tail s k, (S.joins k h).tail_in, C.level, record { from = C.from; to = C.to });
  }

-- where an end is off its bar the drawing is not clear
pub ends_off : (s : Sheet) (D : Drawing) (r : Bool) → r ≡ all_ends_on s D → r ≡ false → r ≡ is_clear s D
unfolding is_clear
ends_off s D r e f = rw (sym e ∙ f) f
