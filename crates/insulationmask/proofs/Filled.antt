-- The mask, from an array that is filled segment by segment. Assumes nothing.
use Rattle.std.proofs.Common.{◌≡◌, refl, sym, ◌∙◌, ap, ℕ, ◌+◌, ◌-◌, ◌≤◌, List, ◌++◌, replicate, take, length, length-take-le, arith}
use Rattle.std.proofs.lemmas.List.{take_at}
use Rattle.counting.specs.Below.{tabulate, table}
use Rattle.counting.proofs.Tables.{table_sized}
use Rattle.clauses.specs.declared.Sheet.{Sheet}
use Rattle.sheet.specs.Sound.{Sound}
use Rattle.sheet.specs.Check.{face_count}
use Rattle.segments.specs.declared.Frame.{Frame}
use Rattle.segments.specs.declared.Segment.{Segment}
use Rattle.segments.specs.Segments.{frame_of}
use Rattle.insulationmask.specs.Laid.{no_segment}
use Rattle.insulationmask.specs.Mask.{nth_segment, segments_of, mask_with, mask_of}
use Rattle.insulationmask.proofs.Places.{segments_count}

module _ {s : Sheet} (S : Sound s) where
  -- an array with these as its first n entries
  module _ {n : ℕ} (e : n + 1 ≡ face_count s + s.edges) {ss : List Segment} (q : ss ≡ table (nth_segment s) n 511 no_segment) where
    pub in_use : n ≤ 511 → n ≤ length ss
    in_use h = rw (q, table_sized (nth_segment s) 511 no_segment n h) h

    pub taken : n ≤ 511 → length (take n ss) ≡ n
    taken h = length-take-le n ss (in_use h)

    -- is the mask's
    pub filled : {f : Frame} → f ≡ frame_of (take n ss) → record { count = n; segments = ss; frame = f } ≡ mask_of s
    unfolding table mask_with segments_of
    filled {f} g =
        let m : n ≡ face_count s + (s.edges - 1) = omega (arith, S.limits.edges_least) in
        let sized : length (segments_of s) ≡ n = segments_count s ∙ sym m in
        let whole : ss ≡ segments_of s ++ replicate (511 - n) no_segment = q ∙ ap (λ k. tabulate (nth_segment s) k ++ replicate (511 - n) no_segment) m in
        rw (g, whole, sized, take_at (segments_of s) (replicate (511 - n) no_segment) n sized) refl
