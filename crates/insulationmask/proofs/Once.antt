-- What is laid down of a sound sheet's mask leaves no choice: a mask that meets it is the computed one. Assumes nothing.
use Rattle.std.proofs.Common.{◌≡◌, refl, sym, ◌∙◌, ap, subst, ◌≢◌, true, false, List, ℕ, ◌+◌, ◌-◌, ◌<◌, arith, ext_get_or}
use Rattle.std.proofs.Math.Logic.{by_cases}
use Rattle.std.proofs.Math.Decide.{dec_lt}
use Rattle.std.specs.Float.{Float}
use Rattle.counting.proofs.Paths.{longest_unique}
use Rattle.clauses.specs.declared.Sheet.{Sheet}
use Rattle.clauses.specs.Darts.{tail_dart, head_dart}
use Rattle.orbits.specs.Meaning.{entries}
use Rattle.sheet.specs.Darts.{tail, darts}
use Rattle.sheet.proofs.Darts.{dart_below}
use Rattle.sheet.specs.Sound.{Sound}
use Rattle.sheet.specs.Levels.{Column}
use Rattle.sheet.specs.Check.{face, face_table, face_count, column}
use Rattle.soundness.proofs.Faces.{faces_unique}
use Rattle.soundness.proofs.Law.{rotation_of}
use Rattle.soundness.proofs.Rows.{row_law}
use Rattle.soundness.proofs.Columns.{column_law}
use Rattle.tracefaces.proofs.Answered.{one_table_law}
use Rattle.drawing.specs.Draw.{edge_column, right_column, least, greatest}
use Rattle.halves.specs.Halves.{half_below, half_above}
use Rattle.segments.specs.declared.Segment.{Segment}
use Rattle.segments.specs.declared.Segment.TheVariants.{Upright, Level}
use Rattle.segments.specs.declared.Frame.{Frame}
use Rattle.insulationmask.specs.declared.Mask.{Mask}
use Rattle.insulationmask.specs.Laid.{no_segment, segment_of, EndsOn, Lowest, Highest, Laid}
use Rattle.insulationmask.specs.Laws.{LaidLaw}
use Rattle.insulationmask.specs.Mask.{level_row, rows_beside, upright_of, level_of, mask_with, mask_of}
use Rattle.insulationmask.proofs.Places.{mask_count, upright_at, level_at}
use Rattle.insulationmask.proofs.Uprights.{row_bound, row_found}
use Rattle.insulationmask.proofs.Coordinates.{few_rows, frame_one}
use Rattle.insulationmask.proofs.Laid.{ExtremeHeight, lowest_height, highest_height, used, full, past, mask_laid}

-- records with equal parts are equal
upright_equal : {x x' l l' h h' : Float} → x ≡ x' → l ≡ l' → h ≡ h' → Upright x l h ≡ Upright x' l' h'
upright_equal a b c = rw (a, b, c) refl

level_equal : {y y' l l' r r' : Float} → y ≡ y' → l ≡ l' → r ≡ r' → Level y l r ≡ Level y' l' r'
level_equal a b c = rw (a, b, c) refl

mask_equal : {c c' : ℕ} {ss ss' : List Segment} {f f' : Frame} → c ≡ c' → ss ≡ ss' → f ≡ f'
    → ◌≡◌ {A = Mask} (record { count = c; segments = ss; frame = f }) (record { count = c'; segments = ss'; frame = f' })
mask_equal a b c = rw (a, b, c) refl

module _ {s : Sheet} (S : Sound s) {M : Mask} (L : Laid s M) where
  -- the table is the one that is traced, and its faces are as many
  table : L.table ≡ (face_table s).orbit
  table = one_table_law s L.table S L.face_table

  faces : L.faces ≡ face_count s
  faces = faces_unique s S.limits.edges_most (rotation_of S) L.are_faces

  -- each face has its x, each wire its height
  same_x : (g : ℕ) → g < face_count s → L.x g ≡ half_below (column s g)
  same_x g h =
      let (c, C, H) = L.column g (omega (arith, faces)) in
      H.is ∙ ap half_below (longest_unique (subst (λ t. Column s (entries t) g c) table C) ((column_law S).longest g h))

  same_height : (k : ℕ) → k < s.edges → k ≢ 0 → L.height k ≡ half_above (level_row s k)
  same_height k h n =
      let (r, R, H) = L.row k h n in
      H.is ∙ ap half_above (longest_unique R ((row_law S).longest (tail s k) (S.joins k h).tail_in))

  -- the best of the heights of the level segments that end on the segment of face g is half a row above the best of their rows
  module _ {best : List ℕ → ℕ} {R : ℕ → ℕ → Type 0} {F : Float → Float → Type 0} (H : ExtremeHeight best R F) {g : ℕ} (h : g < face_count s) where
    same_best : {y : Float} (k : ℕ) → EndsOn s (face s) g k → L.height k ≡ y → ((j : ℕ) → EndsOn s (face s) g j → F y (L.height j)) → y ≡ half_above (best (rows_beside s g))
    same_best k K e b =
        let (j, J, i) = row_found H.extreme S h in
        let is = sym e ∙ same_height k K.inside K.not_0 in
        let most = (H.order _ _ (few_rows S k K.inside) (few_rows S j J.inside)).0 (rw (is, same_height j J.inside J.not_0) at (b j J)) in
        is ∙ ap half_above (H.one _ _ (rw (← i) at most) (row_bound H.extreme k K))

  -- the lowest and the highest
  same_low : (g : ℕ) → g < face_count s → L.low g ≡ half_above (least (rows_beside s g))
  same_low g h =
      let F = subst (λ t. Lowest s (entries t) L.height g (L.low g)) table (L.lowest g (omega (arith, faces))) in
      same_best lowest_height h F.edge F.ends_on F.is_there F.lowest

  same_high : (g : ℕ) → g < face_count s → L.high g ≡ half_above (greatest (rows_beside s g))
  same_high g h =
      let F = subst (λ t. Highest s (entries t) L.height g (L.high g)) table (L.highest g (omega (arith, faces))) in
      same_best highest_height h F.edge F.ends_on F.is_there F.highest

  -- so each entry is one
  same_upright : (g : ℕ) → g < face_count s → segment_of M g ≡ upright_of s g
  unfolding upright_of
  same_upright g h = L.upright g (omega (arith, faces)) ∙ upright_equal (same_x g h) (same_low g h) (same_high g h)

  -- the x of a wire's face
  face_x : (d : ℕ) → d < darts s → L.x (entries L.table d) ≡ half_below (column s (face s d))
  face_x d h = ap (λ t. L.x (entries t d)) table ∙ same_x (face s d) ((column_law S).faces.inside d h)

  same_level : (k : ℕ) → k < s.edges → k ≢ 0 → segment_of M (face_count s + (k - 1)) ≡ level_of s k
  unfolding level_of edge_column right_column
  same_level k h n =
      ap (λ f. segment_of M (f + (k - 1))) (sym faces)
      ∙ L.level k h n
      ∙ level_equal (same_height k h n) (face_x (tail_dart k) (dart_below true h)) (face_x (head_dart k) (dart_below false h))

  -- there are as many
  same_count : M.count ≡ (mask_of s).count
  same_count = omega (arith, L.count, mask_count S, faces)

  same_segment : (i : ℕ) → segment_of M i ≡ segment_of (mask_of s) i
  same_segment i = by_cases (dec_lt i (face_count s))
      (λ h. same_upright i h ∙ sym (upright_at s h))
      (λ h. by_cases (dec_lt i M.count)
      (λ l. same_after (i + 1 - face_count s) (omega (arith, L.count, faces)) (omega arith) (omega arith))
      (λ l. L.unused i (omega arith) ∙ sym (past S i (omega (arith, same_count)))))
    where
      same_after : (k : ℕ) → k < s.edges → k ≢ 0 → i ≡ face_count s + (k - 1) → segment_of M i ≡ segment_of (mask_of s) i
      same_after k h n e = rw e (same_level k h n ∙ sym (level_at s h n))

  -- and all of the mask
  same_segments : M.segments ≡ (mask_of s).segments
  same_segments = ext_get_or no_segment M.segments (mask_of s).segments (L.segment_entries ∙ sym (full S)) (λ i _. same_segment i)

  laid_is : M ≡ mask_of s
  unfolding mask_with
  laid_is = mask_equal same_count same_segments (frame_one S M.frame (rw (same_count, same_segments, used S) at L.frame))

pub laid_law : LaidLaw
laid_law s S M = (λ L. laid_is S L, λ e. subst (Laid s) (sym e) (mask_laid s S))
