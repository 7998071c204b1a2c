-- The mask of a sound sheet is as laid down. Assumes nothing.
use Rattle.std.proofs.Common.{◌≡◌, refl, sym, ◌∙◌, ap, ◌↔◌, Float, List, length, length-append, take, take_at, replicate, ℕ, ◌-◌, ◌≤◌, ◌<◌, arith}
use Rattle.std.specs.Float.{◌≤ᶠ◌}
use Rattle.std.proofs.Math.ListN.{length-replicate}
use Rattle.std.proofs.Math.Seq.{get_or-append_right}
use Rattle.counting.proofs.Stores.{replicate_at}
use Rattle.clauses.specs.declared.Sheet.{Sheet}
use Rattle.sheet.specs.Darts.{tail}
use Rattle.sheet.specs.Sound.{Sound}
use Rattle.sheet.specs.Check.{face, face_table, face_count, column}
use Rattle.soundness.proofs.Rows.{row_law}
use Rattle.soundness.proofs.Columns.{column_law}
use Rattle.tracefaces.proofs.Answered.{sound_table}
use Rattle.drawing.proofs.Extremes.{Extreme, least_extreme, greatest_extreme}
use Rattle.drawing.specs.Draw.{edge_column, right_column, least, greatest}
use Rattle.halves.specs.Halves.{half_below, half_above}
use Rattle.halves.proofs.Exact.{below_exact, above_exact}
use Rattle.halves.proofs.Order.{above_order}
use Rattle.segments.specs.Framed.{Framed}
use Rattle.insulationmask.specs.Laid.{no_segment, segment_of, EndsOn, Lowest, Highest, Laid}
use Rattle.insulationmask.specs.Mask.{level_row, rows_beside, upright_of, level_of, segments_of, mask_with, mask_of}
use Rattle.insulationmask.proofs.Places.{mask_count, upright_at, level_at}
use Rattle.insulationmask.proofs.Uprights.{row_bound, row_found}
use Rattle.insulationmask.proofs.Coordinates.{few_faces, few_columns, few_rows, frame_found}

-- The best of rows is the least or the greatest. R says how it stands to each, and F how heights stand half a row above rows that stand so.
pub record ExtremeHeight (best : List ℕ → ℕ) (R : ℕ → ℕ → Type 0) (F : Float → Float → Type 0) : Type 0 where
  pub extreme : Extreme R best
  pub order : (r t : ℕ) → r < 256 → t < 256 → F (half_above r) (half_above t) ↔ R r t
  pub one : (r t : ℕ) → R r t → R t r → r ≡ t

pub lowest_height : ExtremeHeight least (λ r t. r ≤ t) (λ x y. x ≤ᶠ y)
lowest_height = record { extreme = least_extreme; order = above_order; one = λ r t h k. omega arith }

pub highest_height : ExtremeHeight greatest (λ r t. t ≤ r) (λ x y. y ≤ᶠ x)
highest_height = record { extreme = greatest_extreme; order = λ r t h k. above_order t r k h; one = λ r t h k. omega arith }

module _ {s : Sheet} (S : Sound s) where
  -- the level segment in the best row of those that end on the segment of face g, and how its height stands to theirs
  module _ {best : List ℕ → ℕ} {R : ℕ → ℕ → Type 0} {F : Float → Float → Type 0} (H : ExtremeHeight best R F) {g : ℕ} (h : g < face_count s) where
    best_at : (j : ℕ) × EndsOn s (face s) g j × (half_above (level_row s j) ≡ half_above (best (rows_beside s g)))
        × ((k : ℕ) → EndsOn s (face s) g k → F (half_above (best (rows_beside s g))) (half_above (level_row s k)))
    best_at =
        let (j, J, e) = row_found H.extreme S h in (
          j,
          J,
          ap half_above (sym e),
          λ k K. (H.order _ _ (omega (arith, e, few_rows S j J.inside)) (few_rows S k K.inside)).1 (row_bound H.extreme k K),
        )

  -- the lowest and the highest
  lowest_at : (g : ℕ) → g < face_count s → Lowest s (face s) (λ k. half_above (level_row s k)) g (half_above (least (rows_beside s g)))
  lowest_at g h = let (j, J, e, b) = best_at lowest_height h in record { edge = j; ends_on = J; is_there = e; lowest = b }

  highest_at : (g : ℕ) → g < face_count s → Highest s (face s) (λ k. half_above (level_row s k)) g (half_above (greatest (rows_beside s g)))
  highest_at g h = let (j, J, e, b) = best_at highest_height h in record { edge = j; ends_on = J; is_there = e; highest = b }

  -- the entries in use are the segments, there are 511, and past those in use are uprights of zeros
  pub used : take (mask_of s).count (mask_of s).segments ≡ segments_of s
  unfolding mask_with
  used = take_at (segments_of s) _ _ refl

  pub full : length (mask_of s).segments ≡ 511
  unfolding mask_with
  full = length-append (segments_of s) _ ∙ omega (arith, length-replicate (511 - length (segments_of s)) no_segment, mask_count S, few_faces S, S.limits.edges_most)

  pub past : (i : ℕ) → (mask_of s).count ≤ i → segment_of (mask_of s) i ≡ no_segment
  unfolding mask_with
  past i h =
      let ss = segments_of s in
      get_or-append_right ss (replicate (511 - length ss) no_segment) i no_segment h ∙ replicate_at no_segment (511 - length ss) (i - length ss)

  -- the frame is that of the entries in use
  framed : Framed (take (mask_of s).count (mask_of s).segments) (mask_of s).frame
  unfolding mask_with
  framed = rw used (frame_found S)

pub mask_laid : (s : Sheet) → Sound s → Laid s (mask_of s)
unfolding upright_of level_of edge_column right_column
mask_laid s S = record {
  table = (face_table s).orbit;
  face_table = sound_table S;
  faces = face_count s;
  are_faces = (column_law S).faces;
  x = λ g. half_below (column s g);
  height = λ k. half_above (level_row s k);
  low = λ g. half_above (least (rows_beside s g));
  high = λ g. half_above (greatest (rows_beside s g));
  upright = λ g h. upright_at s h;
  column = λ g h. (column s g, (column_law S).longest g h, record { is = refl; twice = below_exact (column s g) (few_columns S g h) });
  lowest = lowest_at S;
  highest = highest_at S;
  level = λ k h n. level_at s h n;
  row = λ k h n. (level_row s k, (row_law S).longest (tail s k) (S.joins k h).tail_in, record { is = refl; twice = above_exact (level_row s k) (few_rows S k h) });
  count = mask_count S;
  segment_entries = full S;
  unused = past S;
  frame = framed S;
}
