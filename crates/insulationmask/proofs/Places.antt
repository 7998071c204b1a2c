-- Which segment of the mask is which: faces first, then wires from 1 up. Assumes nothing.
use Rattle.std.proofs.Common.{◌≡◌, refl, ◌∙◌, ◌≢◌, ℕ, ◌+◌, ◌-◌, ◌<◌, replicate, length, lt-ltb, le-ltb, arith}
use Rattle.std.proofs.Math.Decide.{dec_lt}
use Rattle.std.proofs.Math.ListN.{get_or-append}
use Rattle.counting.proofs.Below.{length_tabulate, get_d_tabulate}
use Rattle.clauses.specs.declared.Sheet.{Sheet}
use Rattle.sheet.specs.Sound.{Sound}
use Rattle.sheet.specs.Check.{face_count}
use Rattle.insulationmask.specs.Laid.{no_segment, segment_of}
use Rattle.insulationmask.specs.Insulated.{Own}
use Rattle.insulationmask.specs.Mask.{upright_of, level_of, nth_segment, segments_of, mask_with, mask_of}

module _ (s : Sheet) where
  -- there are as many as faces, and wires but wire 0
  pub segments_count : length (segments_of s) ≡ face_count s + (s.edges - 1)
  unfolding segments_of
  segments_count = length_tabulate (nth_segment s) (face_count s + (s.edges - 1))

  -- entries of the mask before its count are these
  entry : {i : ℕ} → i < face_count s + (s.edges - 1) → segment_of (mask_of s) i ≡ nth_segment s i
  unfolding mask_with segments_of
  entry {i} h =
      get_or-append (segments_of s) (replicate (511 - length (segments_of s)) no_segment) no_segment i (omega (arith, segments_count))
      ∙ get_d_tabulate (nth_segment s) no_segment (face_count s + (s.edges - 1)) i h

  -- face g's upright segment is entry g
  pub upright_at : {g : ℕ} → g < face_count s → segment_of (mask_of s) g ≡ upright_of s g
  unfolding nth_segment
  upright_at {g} h = entry (omega arith) ∙ rw (lt-ltb g (face_count s) h) refl

  -- wire k's level segment is as many entries after the faces as k is after 1
  pub level_at : {k : ℕ} → k < s.edges → k ≢ 0 → segment_of (mask_of s) (face_count s + (k - 1)) ≡ level_of s k
  unfolding nth_segment
  level_at {k} h n =
      let i = face_count s + (k - 1) in
      let wire : i - face_count s + 1 ≡ k = omega arith in
      entry (omega arith) ∙ rw (le-ltb i (face_count s) (omega arith), wire) refl

-- entry i is the upright segment of face i, or the level segment of a wire
pub data Entry (s : Sheet) (i : ℕ) : Type 0 where
  upright : i < face_count s → segment_of (mask_of s) i ≡ upright_of s i → Entry s i
  level : (k : ℕ) → k < s.edges → Own s (mask_of s) k i → Entry s i

module _ {s : Sheet} (S : Sound s) where
  -- one fewer than faces and wires, as wire 0 has none
  pub mask_count : (mask_of s).count + 1 ≡ face_count s + s.edges
  unfolding mask_with
  mask_count = omega (arith, segments_count s, S.limits.edges_least)

  -- a wire's own level segment is where `Own` has it
  pub own_level : {k i : ℕ} → k < s.edges → Own s (mask_of s) k i → segment_of (mask_of s) i ≡ level_of s k
  own_level {k} {i} h o =
      let there : i ≡ face_count s + (k - 1) = omega (arith, mask_count, o.place, o.not_0) in
      rw there (level_at s h o.not_0)

  -- each entry is one of these
  pub entry_is : {i : ℕ} → i < (mask_of s).count → Entry s i
  entry_is {i} h = elim (dec_lt i (face_count s)) [
    | yes l ↦ upright l (upright_at s l)
    | no l ↦ level (i - face_count s + 1) (omega (arith, mask_count)) (record { not_0 = omega arith; place = omega (arith, mask_count) })
  ]
