-- The coordinates of a sound sheet's mask are halves beside levels below 256, and the frame of its segments is the only one. Assumes nothing.
use Rattle.std.proofs.Common.{◌≡◌, refl, sym, ◌∙◌, ap, subst, ◌≢◌, ◌↔◌, inl, inr, false, List, [], ◌∷◌, length, ℕ, zero, suc, ◌+◌, ◌-◌, ◌≤◌, ◌<◌, le_antisymm, lt-ltb, le-ltb, arith}
use Rattle.std.proofs.Math.Logic.{by_cases}
use Rattle.std.proofs.Math.Decide.{dec_lt}
use mathlib.Core.List.Memᴰ
use mathlib.Core.List.{Memᴰ}
use Rattle.std.specs.Float.{Float, ◌≤ᶠ◌}
use Rattle.counting.specs.Below.{tabulate}
use Rattle.clauses.specs.declared.Sheet.{Sheet}
use Rattle.clauses.specs.Darts.{tail_dart, head_dart}
use Rattle.sheet.specs.Darts.{tail}
use Rattle.sheet.specs.Sound.{Sound}
use Rattle.sheet.specs.Check.{face, face_count, column}
use Rattle.sheet.proofs.Darts.{dart_below}
use Rattle.soundness.proofs.Law.{rotation_of}
use Rattle.soundness.proofs.Faces.{faces_unique}
use Rattle.soundness.proofs.Rows.{row_law}
use Rattle.soundness.proofs.Columns.{column_law}
use Rattle.drawing.specs.Draw.{edge_column, right_column, least, greatest}
use Rattle.drawing.proofs.Extremes.{least_extreme, greatest_extreme}
use Rattle.halves.specs.Halves.{half_below, half_above}
use Rattle.halves.proofs.Order.{below_order, above_order, below_number, above_number}
use Rattle.segments.specs.declared.Segment.{Segment}
use Rattle.segments.specs.declared.Segment.TheVariants.{Upright, Level}
use Rattle.segments.specs.declared.Frame.{Frame}
use Rattle.segments.specs.Segments.{frame_of}
use Rattle.segments.specs.Framed.{xs_of, ys_of, all_of, Framed}
use Rattle.segments.specs.Laws.{Runs, OneEach}
use Rattle.segments.proofs.Frames.{frame_law, one_frame_law}
use Rattle.insulationmask.specs.Mask.{level_row, rows_beside, upright_of, level_of, nth_segment, segments_of}
use Rattle.insulationmask.proofs.Places.{segments_count}
use Rattle.insulationmask.proofs.Uprights.{row_bound, row_found}

-- ---- lists

module _ {A : Type 0} (P : A → Type 0) where
  -- what holds of each value holds of what stands in the table
  tabulated : (f : ℕ → A) (n : ℕ) → ((k : ℕ) → k < n → P (f k)) → {x : A} → Memᴰ x (tabulate f n) → P x
  unfolding tabulate
  tabulated f zero h m = absurd (Memᴰ.not-nil m)
  tabulated f (suc n) h m = elim (Memᴰ.append_cases (tabulate f n) m) [
    | inl l ↦ tabulated f n (λ k i. h k (omega arith)) l
    | inr r ↦ subst P (sym (Memᴰ.eq_of_singleton r)) (h n (omega arith))
  ]

-- what holds of the numbers of each segment holds of all
each : (P : Float → Type 0) (of : Segment → List Float) (ss : List Segment) → ((r : Segment) → Memᴰ r ss → (x : Float) → Memᴰ x (of r) → P x)
    → (x : Float) → Memᴰ x (all_of of ss) → P x
unfolding all_of
each P of [] h x m = absurd (Memᴰ.not-nil m)
each P of (s ∷ ss) h x m = elim (Memᴰ.append_cases (of s) m) [
  | inl l ↦ h s (Memᴰ.head refl) x l
  | inr r ↦ each P of ss (λ t i. h t (Memᴰ.tail i)) x r
]

-- ---- halves

-- the coordinates are halves beside levels below 256, from the lesser to the greater
data Halved : Segment → Type 0 where
  upright : (c low high : ℕ) → c < 256 → low ≤ high → high < 256 → Halved (Upright (half_below c) (half_above low) (half_above high))
  level : (r left right : ℕ) → r < 256 → left ≤ right → right < 256 → Halved (Level (half_above r) (half_below left) (half_below right))

runs : {r : Segment} → Halved r → Runs r
runs (upright c low high h l k) = (below_number c h, (above_order low high (omega arith) k).1 l)
runs (level r left right h l k) = (above_number r h, (below_order left right (omega arith) k).1 l)

-- x is the half beside a level below 256
record Half (half : ℕ → Float) (x : Float) : Type 0 where
  level : ℕ
  below : level < 256
  is : x ≡ half level

-- so of one coordinate, or two, each is
one : (half : ℕ → Float) (c : ℕ) → c < 256 → {x : Float} → Memᴰ x (half c ∷ []) → Half half x
one half c h m = record { level = c; below = h; is = Memᴰ.eq_of_singleton m }

two : (half : ℕ → Float) (c d : ℕ) → c ≤ d → d < 256 → {x : Float} → Memᴰ x (half c ∷ half d ∷ []) → Half half x
two half c d l h m = elim (Memᴰ.cases_cons m) [ inl e ↦ record { level = c; below = omega arith; is = e } | inr i ↦ one half d h i ]

-- each x of such a segment, and each y
half_xs : {r : Segment} → Halved r → (x : Float) → Memᴰ x (xs_of r) → Half half_below x
half_xs (upright c low high h l k) x m = one half_below c h m
half_xs (level r left right h l k) x m = two half_below left right l k m

half_ys : {r : Segment} → Halved r → (y : Float) → Memᴰ y (ys_of r) → Half half_above y
half_ys (upright c low high h l k) y m = two half_above low high l k m
half_ys (level r left right h l k) y m = one half_above r h m

-- of two such floats, each at most the other, both are one
halves_one : (half : ℕ → Float) → ((c d : ℕ) → c < 256 → d < 256 → (half c ≤ᶠ half d) ↔ (c ≤ d)) → (xs : List Float) → ((x : Float) → Memᴰ x xs → Half half x) → OneEach xs
halves_one half order xs h x y m n l k =
    let a = h x m in
    let b = h y n in
    a.is ∙ ap half (le_antisymm ((order a.level b.level a.below b.below).0 (rw (a.is, b.is) at l)) ((order b.level a.level b.below a.below).0 (rw (a.is, b.is) at k))) ∙ sym b.is

-- ---- the mask's segments

module _ {s : Sheet} (S : Sound s) where
  -- there are at most as many faces as wires
  pub few_faces : face_count s ≤ s.edges
  few_faces = omega (arith, S.euler.two, faces_unique s S.limits.edges_most (rotation_of S) S.euler.numbered, S.limits.vertices_least)

  -- columns and rows are below 256
  pub few_columns : (g : ℕ) → g < face_count s → column s g < 256
  few_columns g h = omega (arith, (column_law S).fewer g h, few_faces, S.limits.edges_most)

  pub few_rows : (k : ℕ) → k < s.edges → level_row s k < 256
  few_rows k h = omega (arith, (row_law S).fewer (tail s k) (S.joins k h).tail_in, S.limits.vertices_most)

  -- each segment has halves
  upright_halved : (g : ℕ) → g < face_count s → Halved (upright_of s g)
  unfolding upright_of
  upright_halved g h =
      let (j, J, low) = row_found least_extreme S h in
      let (k, K, high) = row_found greatest_extreme S h in
      upright (column s g) (least (rows_beside s g)) (greatest (rows_beside s g)) (few_columns g h)
      (omega (arith, low, row_bound greatest_extreme j J)) (omega (arith, high, few_rows k K.inside))

  level_halved : (k : ℕ) → k < s.edges → k ≢ 0 → Halved (level_of s k)
  unfolding level_of edge_column right_column
  level_halved k h n =
      level (level_row s k) (column s (face s (tail_dart k))) (column s (face s (head_dart k))) (few_rows k h)
      (omega (arith, (column_law S).rises k h n))
      (few_columns (face s (head_dart k)) ((column_law S).faces.inside (head_dart k) (dart_below false h)))

  halved : {r : Segment} → Memᴰ r (segments_of s) → Halved r
  unfolding segments_of nth_segment
  halved m = tabulated Halved (nth_segment s) (face_count s + (s.edges - 1))
      (λ i h. by_cases (dec_lt i (face_count s))
      (λ l. rw (lt-ltb i (face_count s) l) (upright_halved i l))
      (λ n. rw (le-ltb i (face_count s) (omega arith)) (level_halved (i - face_count s + 1) (omega arith) (omega arith))))
      m

  -- the frame found segment by segment holds the least and greatest, and no other does
  pub frame_found : Framed (segments_of s) (frame_of (segments_of s))
  frame_found = go (segments_of s) (omega (arith, segments_count s, (column_law S).faces.inside 0 (omega (arith, S.limits.edges_least)))) (λ r m. runs (halved m))
    where
      go : (ss : List Segment) → 0 < length ss → ((r : Segment) → Memᴰ r ss → Runs r) → Framed ss (frame_of ss)
      go [] h f = absurd (omega arith)
      go (r ∷ ss) h f = frame_law r ss f

  pub frame_one : (f : Frame) → Framed (segments_of s) f → f ≡ frame_of (segments_of s)
  frame_one f F = one_frame_law (segments_of s) f (frame_of (segments_of s))
      (halves_one half_below below_order _ (each (Half half_below) xs_of (segments_of s) (λ r m. half_xs (halved m))))
      (halves_one half_above above_order _ (each (Half half_above) ys_of (segments_of s) (λ r m. half_ys (halved m))))
      F frame_found
