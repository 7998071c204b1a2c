-- The frame found segment by segment holds the least and greatest x and y, and is the only one that does. Assumes nothing.
use Rattle.std.proofs.Common.{◌≡◌, ◌⊎◌, inl, inr, refl, Bool, true, false, cond, not, T, List, [], ◌∷◌, ◌++◌, append_assoc, append-nil}
use Rattle.std.proofs.lemmas.Float.{le_refl, le_left, le_right, le_trans, le_of_lt, le_of_not-lt}
use Rattle.std.specs.Float.{Float, NotNan, ◌≤ᶠ◌}
use mathlib.Core.List.Memᴰ
use mathlib.Core.List.{Memᴰ}
use Rattle.std.specs.Float.Ieee.{lt}
use Rattle.segments.specs.declared.Segment.{Segment}
use Rattle.segments.specs.declared.Segment.TheVariants.{Upright, Level}
use Rattle.segments.specs.declared.Frame.{Frame}
use Rattle.segments.specs.Segments.{lesser, greater, around, widened, widened_by, frame_of}
use Rattle.segments.specs.Framed.{xs_of, ys_of, all_of, Least, Greatest, Framed}
use Rattle.segments.specs.Laws.{Runs, FrameLaw, OneEach, OneFrameLaw}

-- y where q is less than p, and x where p is at most q
chosen : (p q x y : Float) → NotNan p → NotNan q → ((cond (lt q p) y x ≡ x) × (p ≤ᶠ q)) ⊎ ((cond (lt q p) y x ≡ y) × (q ≤ᶠ p))
chosen p q x y n m = go (lt q p) (le_of_lt q p) (le_of_not-lt q p m n)
  where
    go : (b : Bool) → (T b → q ≤ᶠ p) → (T (not b) → p ≤ᶠ q) → ((cond b y x ≡ x) × (p ≤ᶠ q)) ⊎ ((cond b y x ≡ y) × (q ≤ᶠ p))
    go true l g = inr (refl, l tt)
    go false l g = inl (refl, g tt)

-- of two lists put together, the better of the best of each
module _ (R : Float → Float → Type 0) (trans : (x y z : Float) → R x y → R y z → R x z) where
  best : (xs ys : List Float) (x y z : Float) → Memᴰ x xs → ((w : Float) → Memᴰ w xs → R x w) → Memᴰ y ys → ((w : Float) → Memᴰ w ys → R y w)
      → ((z ≡ x) × R x y) ⊎ ((z ≡ y) × R y x) → Memᴰ z (xs ++ ys) × ((w : Float) → Memᴰ w (xs ++ ys) → R z w)
  best xs ys x y z i f j g (inl (e, r)) = rw e (
    Memᴰ.append_left ys i,
    λ w m. elim (Memᴰ.append_cases xs m) [ inl a ↦ f w a | inr b ↦ trans x y w r (g w b) ],
  )
  best xs ys x y z i f j g (inr (e, r)) = rw e (
    Memᴰ.append_right xs j,
    λ w m. elim (Memᴰ.append_cases xs m) [ inl a ↦ trans y x w r (f w a) | inr b ↦ g w b ],
  )

-- so the least, and the greatest, of two lists
least_of : (xs ys : List Float) (x y z : Float) → Least xs x → Least ys y → ((z ≡ x) × (x ≤ᶠ y)) ⊎ ((z ≡ y) × (y ≤ᶠ x)) → Least (xs ++ ys) z
least_of xs ys x y z l m c =
    let (i, f) = best ◌≤ᶠ◌ le_trans xs ys x y z l.is_one l.least m.is_one m.least c in
    record { is_one = i; least = f }

greatest_of : (xs ys : List Float) (x y z : Float) → Greatest xs x → Greatest ys y → ((z ≡ x) × (y ≤ᶠ x)) ⊎ ((z ≡ y) × (x ≤ᶠ y)) → Greatest (xs ++ ys) z
greatest_of xs ys x y z l m c =
    let (i, f) = best (λ a b. b ≤ᶠ a) (λ a b c h k. le_trans c b a k h) xs ys x y z l.is_one l.greatest m.is_one m.greatest c in
    record { is_one = i; greatest = f }

-- as the code finds them
lesser_of : (xs ys : List Float) (x y : Float) → Least xs x → Least ys y → Least (xs ++ ys) (lesser x y)
unfolding lesser
lesser_of xs ys x y l m =
    let p : NotNan x = le_left x x (l.least x l.is_one) in
    let q : NotNan y = le_left y y (m.least y m.is_one) in
    least_of xs ys x y (lesser x y) l m (chosen x y x y p q)

greater_of : (xs ys : List Float) (x y : Float) → Greatest xs x → Greatest ys y → Greatest (xs ++ ys) (greater x y)
unfolding greater
greater_of xs ys x y l m =
    let p : NotNan x = le_left x x (l.greatest x l.is_one) in
    let q : NotNan y = le_left y y (m.greatest y m.is_one) in
    greatest_of xs ys x y (greater x y) l m (chosen y x x y q p)

-- ---- frames

-- one number is its least and greatest, and two in order are theirs
alone : (x : Float) → NotNan x → Least (x ∷ []) x × Greatest (x ∷ []) x
alone x n =
    let same = λ (y : Float) (m : Memᴰ y (x ∷ [])). Memᴰ.eq_of_singleton m in (
      record { is_one = Memᴰ.head refl; least = λ y m. rw (same y m) (le_refl x n) },
      record { is_one = Memᴰ.head refl; greatest = λ y m. rw (same y m) (le_refl x n) },
    )

ends : (x y : Float) → x ≤ᶠ y → Least (x ∷ y ∷ []) x × Greatest (x ∷ y ∷ []) y
ends x y h =
    let (a, b) = alone x (le_left x y h) in
    let (c, d) = alone y (le_right x y h) in
    (least_of (x ∷ []) (y ∷ []) x y x a c (inl (refl, h)), greatest_of (x ∷ []) (y ∷ []) x y y b d (inr (refl, h)))

-- the frame of one segment
framed_one : (s : Segment) → Runs s → Framed (s ∷ []) (around s)
unfolding all_of around
framed_one (Upright x low high) (n, h) =
    let (a, b) = alone x n in
    let (c, d) = ends low high h in
    record { least_x = a; greatest_x = b; least_y = c; greatest_y = d }
framed_one (Level y left right) (n, h) =
    let (a, b) = ends left right h in
    let (c, d) = alone y n in
    record { least_x = a; greatest_x = b; least_y = c; greatest_y = d }

-- the numbers of two lists of segments
all_of_both : (of : Segment → List Float) (ss rs : List Segment) → all_of of (ss ++ rs) ≡ all_of of ss ++ all_of of rs
unfolding all_of
all_of_both of [] rs = refl
all_of_both of (s ∷ ss) rs = rw (all_of_both of ss rs, append_assoc)

-- the frame of some, widened to hold one more, and more
framed_widened : (ss : List Segment) (f : Frame) (s : Segment) → Framed ss f → Runs s → Framed (ss ++ s ∷ []) (widened f s)
unfolding widened
framed_widened ss f s F r =
    let one = framed_one s r in
    let both = λ (of : Segment → List Float). all_of_both of ss (s ∷ []) in
    record {
      least_x = rw (both xs_of) (lesser_of _ _ _ _ F.least_x one.least_x);
      greatest_x = rw (both xs_of) (greater_of _ _ _ _ F.greatest_x one.greatest_x);
      least_y = rw (both ys_of) (lesser_of _ _ _ _ F.least_y one.least_y);
      greatest_y = rw (both ys_of) (greater_of _ _ _ _ F.greatest_y one.greatest_y);
    }

framed_by : (ss rs : List Segment) (f : Frame) → Framed ss f → ((r : Segment) → Memᴰ r rs → Runs r) → Framed (ss ++ rs) (widened_by f rs)
unfolding widened_by
framed_by ss [] f F h = rw append-nil F
framed_by ss (r ∷ rs) f F h =
    rw append_assoc at (framed_by (ss ++ r ∷ []) rs (widened f r) (framed_widened ss f r F (h r (Memᴰ.head refl))) (λ q m. h q (Memᴰ.tail m)))

-- from the first one's on, that of all
pub frame_law : FrameLaw
unfolding frame_of
frame_law s ss h = framed_by (s ∷ []) ss (around s) (framed_one s (h s (Memᴰ.head refl))) (λ r m. h r (Memᴰ.tail m))

-- ---- the only one

-- where each of two is the least, or the greatest, both are one
same_least : (xs : List Float) (x y : Float) → OneEach xs → Least xs x → Least xs y → x ≡ y
same_least xs x y one l m = one x y l.is_one m.is_one (l.least y m.is_one) (m.least x l.is_one)

same_greatest : (xs : List Float) (x y : Float) → OneEach xs → Greatest xs x → Greatest xs y → x ≡ y
same_greatest xs x y one l m = one x y l.is_one m.is_one (m.greatest x l.is_one) (l.greatest y m.is_one)

pub one_frame_law : OneFrameLaw
one_frame_law ss f g x y F G = λ i. record {
  least_x = same_least (all_of xs_of ss) f.least_x g.least_x x F.least_x G.least_x i;
  greatest_x = same_greatest (all_of xs_of ss) f.greatest_x g.greatest_x x F.greatest_x G.greatest_x i;
  least_y = same_least (all_of ys_of ss) f.least_y g.least_y y F.least_y G.least_y i;
  greatest_y = same_greatest (all_of ys_of ss) f.greatest_y g.greatest_y y F.greatest_y G.greatest_y i;
}
