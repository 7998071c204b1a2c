-- Load in the steps of its functions, over the record's arrays.
use Rattle.std.specs.Prelude.{ℕ, ◌≤◌, ◌+◌, ◌<◌, ◌≡◌, ◌≢◌, Bool, true, false, cond, not, ◌&&◌, List, [], ◌∷◌, Some, None, Result, Ok, Err, eqb, ltb, leb, get_or, set, length}
use Rattle.clauses.specs.Darts.{touches_of, dart_of}
use Rattle.counting.specs.Counts.{count}
use Rattle.counting.specs.Choice.{pick}
use Rattle.text.specs.Reading.{Number, line_end_at, Listed, numbers_at, closed}
use Rattle.text.specs.Reading.Listed.{listed, unlisted}
use Rattle.text.specs.Shapes.{with_one}
use Rattle.clauses.specs.declared.Sheet.{Sheet}
use Rattle.answers.specs.declared.Refusal.{Refusal}
use Rattle.answers.specs.declared.Refusal.TheVariants.{BadLayout, CountOutOfLimits, BadRotation}
use Rattle.load.specs.declared.Form.{Form}
use Rattle.load.specs.Load.{Parsed, directed, judged, ring_lines}

-- what was read, with the place that was reached
abbrev pub reached : {A B : Type 0} → (A → B) → Result A Refusal → Result B Refusal
reached f (Ok a) = Ok (f a)
reached f (Err r) = Err r

-- ---- the count lines: one number, from 2 to `most`

unfoldable pub count_of : ℕ → Listed → Result (ℕ × ℕ) Refusal
count_of most line =
    with_one line (Err BadLayout) (λ n next. pick (leb 2 n && leb n most) (λ _. Ok (n, next)) (λ _. Err CountOutOfLimits))

-- ---- the edge lines

-- each of m edges joins two different vertices below 128
abbrev pub Joining : ℕ → List ℕ → List ℕ → Type 0
Joining m tails heads = (k : ℕ) → k < m → (get_or tails k 0 < 128) × (get_or heads k 0 < 128) × (get_or tails k 0 ≢ get_or heads k 0)

-- degrees has for each vertex how many of the first k edges have an end there
abbrev pub Counted : ℕ → List ℕ → List ℕ → List ℕ → Type 0
Counted k tails heads degrees = (v : ℕ) → v < 128 → get_or degrees v 0 ≡ count (λ i. touches_of tails heads i v) k

-- the counts and the edges of the sheet are read: there is room for them, and each edge joins two vertices
abbrev pub EdgesRead : Sheet → Type 0
EdgesRead s = (s.vertices ≤ 128) × (s.edges ≤ 256) × Joining s.edges s.tails s.heads

-- the entries from edge m on are as they were
abbrev pub AsBefore : ℕ → Sheet → Sheet → Type 0
AsBefore m old new = (k : ℕ) → m ≤ k → (get_or new.tails k 0 ≡ get_or old.tails k 0) × (get_or new.heads k 0 ≡ get_or old.heads k 0)

-- one more at v
unfoldable pub one_more : ℕ → List ℕ → List ℕ
one_more v degrees = set degrees v (get_or degrees v 0 + 1)

-- what load goes on to
abbrev pub after_edges : Form → List ℕ → Sheet → Result ℕ Refusal → Parsed
after_edges form text s (Ok at) = ring_lines form (directed form s).vertices text (directed form s) 0 at
after_edges form text s (Err a) = Err a

-- ---- the ring lines

-- the numbers that follow one that ends at a place: a comma and more, or none
unfoldable pub rest_at : List ℕ → ℕ → Listed
rest_at s at = pick (eqb (get_or s at 0) 44) (λ _. numbers_at s (at + 1)) (λ _. listed [] at)

-- how a line with an edge that may not stand there is refused: shape first
unfoldable pub is_listed : Listed → Bool
is_listed (listed ws next) = true
is_listed unlisted = false

unfoldable pub refusal_of : Listed → Refusal
refusal_of l = cond (is_listed l) BadRotation BadLayout

-- edge w may stand on v's line: it is one of the sheet's, has an end at v, and does not bear the mark v + 1 of this line
unfoldable pub fits_of : Sheet → ℕ → List ℕ → ℕ → Bool
fits_of s v seen w = ltb w s.edges && (touches_of s.tails s.heads w v && not (eqb (get_or seen w 0) (v + 1)))

-- the edge that a number names: its dart and the place after it, or how the line is refused; and the marks from then on
unfoldable pub edge_of : List ℕ → Sheet → ℕ → List ℕ → Number → Result (ℕ × ℕ) Refusal
edge_of text s v seen None = Err BadLayout
edge_of text s v seen (Some (w, next)) = cond (fits_of s v seen w) (Ok (dart_of s.tails w v, next)) (Err (refusal_of (closed text (rest_at text next))))

unfoldable pub marks_of : Sheet → ℕ → List ℕ → Number → List ℕ
marks_of s v seen None = seen
marks_of s v seen (Some (w, next)) = cond (fits_of s v seen w) (set seen w (v + 1)) seen

-- each of the edges ws, marked in their order, may stand on v's line
unfoldable pub fit_from : Sheet → ℕ → List ℕ → List ℕ → Bool
fit_from s v seen [] = true
fit_from s v seen (w ∷ ws) = fits_of s v seen w && fit_from s v (set seen w (v + 1)) ws

-- v's darts in the order of the list: after `last` the next one's, after the last the first
unfoldable pub linked_from : List ℕ → ℕ → ℕ → ℕ → List ℕ → List ℕ → List ℕ
linked_from tails v first last [] nexts = set nexts last first
linked_from tails v first last (w ∷ ws) nexts = linked_from tails v first (dart_of tails w v) ws (set nexts last (dart_of tails w v))

unfoldable pub linked : List ℕ → ℕ → List ℕ → List ℕ → List ℕ
linked tails v [] nexts = nexts
linked tails v (w ∷ ws) nexts = linked_from tails v (dart_of tails w v) (dart_of tails w v) ws nexts

-- what a line comes to: the place after it and the next-darts then, or a refusal
pub data Ringed : Type 0 where
  ringed : ℕ → List ℕ → Ringed
  unringed : Refusal → Ringed

abbrev pub ringed_by : List ℕ → Result ℕ Refusal → Ringed
ringed_by nexts (Ok at) = ringed at nexts
ringed_by nexts (Err a) = unringed a

-- the line's end after all the numbers: `count` edges stood there, and v has `degree`
abbrev pub end_of : List ℕ → (at count degree : ℕ) → Result ℕ Refusal
end_of text at count degree = cond (eqb (line_end_at text at) 0) (Err BadLayout) (cond (eqb count degree) (Ok (at + line_end_at text at)) (Err BadRotation))

-- v's darts linked in the order of the list, behind `count` others
unfoldable pub linked_on : List ℕ → ℕ → (count first last : ℕ) → List ℕ → List ℕ → List ℕ
linked_on tails v count first last ws nexts = cond (eqb count 0) (linked tails v ws nexts) (linked_from tails v first last ws nexts)

-- what v's line comes to by the rest of it, where `count` edges stood there before: shape first
unfoldable pub ring_from : ℕ → Sheet → (v count first last : ℕ) (seen nexts : List ℕ) → Listed → Ringed
ring_from degree s v count first last seen nexts unlisted = unringed BadLayout
ring_from degree s v count first last seen nexts (listed ws next) =
    cond (fit_from s v seen ws && eqb (count + length ws) degree) (ringed next (linked_on s.tails v count first last ws nexts)) (unringed BadRotation)

abbrev pub after_rings : Form → Sheet → Result ℕ Refusal → Parsed
after_rings form s (Ok at) = judged form s at
after_rings form s (Err a) = Err a
