-- A part of a text, numbers that are no call, and the answers that are put. Assumes nothing.
use Rattle.std.proofs.Common.{ℕ, zero, suc, ◌+◌, ◌-◌, ◌*◌, ◌/◌, ◌≤◌, ◌<◌, min, ◌≡◌, refl, sym, ◌∙◌, ap, List, [], ◌∷◌, ◌++◌, append_assoc, arith, get_or, set, take, drop, length, length-append, length-drop, drop_of_length-le, take_all, take-add, drop_at, drop-drop, length-take-le, le-leb}
use Rattle.std.specs.Simd.{first_chunks}
use Rattle.std.proofs.Math.Logic.{by_cases}
use Rattle.std.proofs.Math.Decide.{dec_le}
use Rattle.std.proofs.Math.Seq.{slice, set_at, append_snoc}
use Rattle.std.proofs.lemmas.Bool.{lt-leb}
use Rattle.demand.specs.Calls.{Outcome}
use Rattle.replay.specs.Encoded.{calls_of}
use Rattle.replay.specs.Replayed.{answers_put}
use Rattle.replay.specs.Inner.{pair_put, answers_from}

-- ---- a part of a text

-- the elements from a on, of the first e
part_of : (l : List ℕ) (a e : ℕ) → a ≤ e → e ≤ length l → take (e - a) (drop a l) ≡ drop a (take e l)
part_of l a e h k =
    let q : e ≡ a + (e - a) = omega arith in
    sym (ap (λ n. drop a (take n l)) q ∙ ap (drop a) (take-add a (e - a) l) ∙ drop_at (take a l) (take (e - a) (drop a l)) a (length-take-le a l (omega arith)))

-- bounds past the end, or in the wrong order, name what is there
pub part_is : (text : List ℕ) (start end to from : ℕ) → to ≡ min end (length text) → from ≡ min start to → take (to - from) (drop from text) ≡ slice start end text
part_is text start end to from t f = part_of text from to (omega arith) (omega arith) ∙ ap (drop from) whole ∙ by_cases (dec_le start to) inside past
  where
    whole : take to text ≡ take end text
    whole = by_cases (dec_le end (length text))
        (λ h. let e : to ≡ end = omega arith in ap (λ n. take n text) e)
        (λ h. take_all to text (omega arith) ∙ sym (take_all end text (omega arith)))

    few : length (take end text) ≡ to
    few = ap length (sym whole) ∙ length-take-le to text (omega arith)

    inside : start ≤ to → drop from (take end text) ≡ slice start end text
    inside h = let e : from ≡ start = omega arith in ap (λ n. drop n (take end text)) e

    past : ¬ (start ≤ to) → drop from (take end text) ≡ slice start end text
    past h = drop_of_length-le (take end text) {i = from} (omega (arith, few)) ∙ sym (drop_of_length-le (take end text) {i = start} (omega (arith, few)))

-- ---- the calls that are left

-- fewer than five numbers are no call
pub short : (text l : List ℕ) → length l < 5 → calls_of l text ≡ []
unfolding calls_of
short text [] h = refl
short text (_ ∷ []) h = refl
short text (_ ∷ _ ∷ []) h = refl
short text (_ ∷ _ ∷ _ ∷ []) h = refl
short text (_ ∷ _ ∷ _ ∷ _ ∷ []) h = refl
short text (_ ∷ _ ∷ _ ∷ _ ∷ _ ∷ l) h = absurd (omega arith)

-- call i's five numbers
chunk_at : (k i : ℕ) (l : List ℕ) → i < k → get_or (first_chunks 5 k l) i [] ≡ take 5 (drop (5 * i) l)
chunk_at zero i l h = absurd (omega arith)
chunk_at (suc k) zero l h = refl
chunk_at (suc k) (suc i) l h = let e : 5 + 5 * i ≡ 5 * suc i = omega arith in chunk_at k i (drop 5 l) (omega arith) ∙ ap (take 5) (drop-drop (5 * i) 5 l ∙ ap (λ n. drop n l) e)

front : (l : List ℕ) → 5 ≤ length l → l ≡ get_or (take 5 l) 0 0 ∷ get_or (take 5 l) 1 0 ∷ get_or (take 5 l) 2 0 ∷ get_or (take 5 l) 3 0 ∷ get_or (take 5 l) 4 0 ∷ drop 5 l
front [] h = absurd (omega arith)
front (_ ∷ []) h = absurd (omega arith)
front (_ ∷ _ ∷ []) h = absurd (omega arith)
front (_ ∷ _ ∷ _ ∷ []) h = absurd (omega arith)
front (_ ∷ _ ∷ _ ∷ _ ∷ []) h = absurd (omega arith)
front (a ∷ b ∷ c ∷ d ∷ e ∷ l) h = refl

-- five numbers and the rest
pub five : (numbers : List ℕ) (chunks : List (List ℕ)) (i : ℕ) → chunks ≡ first_chunks 5 (length numbers / 5) numbers → i < length chunks → length chunks ≡ length numbers / 5
    → let call = get_or chunks i [] in drop (5 * i) numbers ≡ get_or call 0 0 ∷ get_or call 1 0 ∷ get_or call 2 0 ∷ get_or call 3 0 ∷ get_or call 4 0 ∷ drop (5 * (i + 1)) numbers
five numbers chunks i e h n =
    let next : 5 * i + 5 ≡ 5 * (i + 1) = omega arith in
    let call : get_or chunks i [] ≡ take 5 (drop (5 * i) numbers) = ap (λ (l : List (List ℕ)). get_or l i []) e ∙ chunk_at (length numbers / 5) i numbers (omega arith) in
    let more : drop 5 (drop (5 * i) numbers) ≡ drop (5 * (i + 1)) numbers = drop-drop 5 (5 * i) numbers ∙ ap (λ n. drop n numbers) next in
    rw (call, ← more) (front (drop (5 * i) numbers) (omega (arith, length-drop (5 * i) numbers)))

-- ---- the answers that are put

-- past the end nothing is put
answers_past : (os : List Outcome) (i : ℕ) (l : List ℕ) → length l < 2 * i + 2 → answers_from i os l ≡ l
unfolding answers_from pair_put
answers_past [] i l h = refl
answers_past (o ∷ os) i l h = rw (lt-leb (2 * i + 2) (length l) h) (answers_past os (i + 1) l (omega arith))

pair_put_law : (front l : List ℕ) (x y a b i : ℕ) → length front ≡ 2 * i → pair_put i a b (front ++ x ∷ y ∷ l) ≡ front ++ a ∷ b ∷ l
unfolding pair_put
pair_put_law front l x y a b i e =
    rw (le-leb (2 * i + 2) (length (front ++ x ∷ y ∷ l)) (omega (arith, length-append front (x ∷ y ∷ l))))
    (ap (λ m. set m (2 * i + 1) b) (set_at front x (y ∷ l) a (2 * i) e ∙ sym (append_snoc front a (y ∷ l)))
    ∙ set_at (front ++ a ∷ []) y l b (2 * i + 1) (length-append front (a ∷ []) ∙ ap (λ n. n + 1) e)
    ∙ append_snoc front a (b ∷ l))

answers_after : (os : List Outcome) (front l : List ℕ) (i : ℕ) → length front ≡ 2 * i → answers_from i os (front ++ l) ≡ front ++ answers_put os l
unfolding answers_from answers_put pair_put
answers_after [] front l i e = refl
answers_after (o ∷ os) front [] i e = answers_past (o ∷ os) i (front ++ []) (omega (arith, length-append front []))
answers_after (o ∷ os) front (x ∷ []) i e = answers_past (o ∷ os) i (front ++ x ∷ []) (omega (arith, length-append front (x ∷ [])))
answers_after (o ∷ os) front (x ∷ y ∷ l) i e =
    let pair = o.number ∷ o.taken ∷ [] in
    ap (answers_from (i + 1) os) (pair_put_law front l x y o.number o.taken i e ∙ sym (append_assoc front pair l))
    ∙ answers_after os (front ++ pair) l (i + 1) (length-append front pair ∙ omega arith)
    ∙ append_assoc front pair (answers_put os l)

pub answers_are : (os : List Outcome) (l : List ℕ) → answers_from 0 os l ≡ answers_put os l
answers_are os l = answers_after os [] l 0 refl
