-- What the lines have said, and the sheet record that is filled from it. Assumes nothing.
use Rattle.std.proofs.Common.{◌≡◌, refl, sym, ◌∙◌, ap, subst, ◌≢◌, inl, inr, true, List, [], ◌∷◌, ◌++◌, ℕ, suc, ◌+◌, ◌≤◌, ◌<◌, arith, eq-eqb, ne_eqb, get_or, length, take, set, length-append, length-take-le, get_or-take, ext_get_or, get_or-set_same, get_or-set_other}
use Rattle.std.proofs.Math.Logic.{by_cases}
use Rattle.std.proofs.Math.Decide.{ℕ_discrete, dec_lt}
use Rattle.std.proofs.Math.ListN.{get_or-append}
use Rattle.std.proofs.Math.Seq.{get_or_at}
use Rattle.clauses.specs.Darts.{dart_of, End, HasEnd}
use Rattle.clauses.specs.declared.Sheet.{Sheet}
use Rattle.sheet.specs.Darts.{Sized, tail, head, touches, dart_at}
use Rattle.sheet.specs.Sound.{Joins}
use Rattle.soundness.proofs.Ends.{touches_says}
use Rattle.load.specs.Load.{with_edge}
use Rattle.roundtrip.proofs.Around.{Around}
use Rattle.roundtrip.proofs.Laid.{Laid, cyclic, cyclic_entry}
use Rattle.acceptance.specs.Loading.{BadEnds, ItsWires, After}
use Rattle.clauses.specs.Darts.End.{at_tail, at_head}
use Rattle.acceptance.specs.Loading.After.{on_line, around_again}

-- the wires that were read have these tails and heads
pub record Said (s : Sheet) (k : ℕ) (tails heads : List ℕ) : Type 0 where
  pub tail_count : length tails ≡ k
  pub its_tails : (i : ℕ) → i < k → tail s i ≡ get_or tails i 0
  pub its_heads : (i : ℕ) → i < k → head s i ≡ get_or heads i 0

pub none_said : (s : Sheet) → Said s 0 [] []
none_said s = record { tail_count = refl; its_tails = λ i h. absurd (omega arith); its_heads = λ i h. absurd (omega arith) }

-- one entry more
entry_more : (whole part : List ℕ) (k a i : ℕ) → length part ≡ k → k < length whole → ((i : ℕ) → i < k → get_or whole i 0 ≡ get_or part i 0) → i < k + 1
    → get_or (set whole k a) i 0 ≡ get_or (part ++ a ∷ []) i 0
entry_more whole part k a i z l f h = by_cases (ℕ_discrete i k)
    (λ e. rw e (get_or-set_same whole k a 0 l ∙ sym (get_or_at part a [] 0 k z)))
    (λ n. get_or-set_other whole k i a 0 n ∙ f i (omega arith) ∙ sym (get_or-append part (a ∷ []) 0 i (omega arith)))

pub said_more : (s : Sheet) (k a b : ℕ) (tails heads : List ℕ) → k < length s.tails → k < length s.heads → length heads ≡ k → Said s k tails heads
    → Said (with_edge s k a b) (k + 1) (tails ++ a ∷ []) (heads ++ b ∷ [])
unfolding with_edge
said_more s k a b tails heads l m e S = record {
  tail_count = omega (arith, length-append tails (a ∷ []), S.tail_count);
  its_tails = λ i h. entry_more s.tails tails k a i S.tail_count l S.its_tails h;
  its_heads = λ i h. entry_more s.heads heads k b i e m S.its_heads h;
}

-- the first entries of a list are those of another
pub front_is : (whole part : List ℕ) (m : ℕ) → m ≤ length whole → length part ≡ m → ((i : ℕ) → i < m → get_or whole i 0 ≡ get_or part i 0) → take m whole ≡ part
front_is whole part m room e f = ext_get_or 0 (take m whole) part (length-take-le m whole room ∙ sym e) (λ i h.
    let l : i < m = omega (arith, length-take-le m whole room) in
    get_or-take m whole i 0 l ∙ f i l)

-- so the first entries of the record's lists say what they are
pub said_front : (s : Sheet) → Sized s → s.edges ≤ 256 → Said s s.edges (take s.edges s.tails) (take s.edges s.heads)
said_front s z m = record {
  tail_count = length-take-le s.edges s.tails (omega (arith, z.tails));
  its_tails = λ i h. sym (get_or-take s.edges s.tails i 0 h);
  its_heads = λ i h. sym (get_or-take s.edges s.heads i 0 h);
}

pub edge_bad : (n a b : ℕ) → ¬ (((a < n) × (b < n)) × (a ≢ b)) → BadEnds n a b
edge_bad n a b f = by_cases (dec_lt a n)
    (λ h. by_cases (dec_lt b n) (λ l. by_cases (ℕ_discrete a b) (λ e. inr (inr e)) (λ m. absurd (f ((h, l), m)))) (λ l. inr (inl (omega arith))))
    (λ h. inl (omega arith))

pub edge_good : (n a b : ℕ) → ((a < n) × (b < n)) × (a ≢ b) → ¬ BadEnds n a b
edge_good n a b ((h, l), m) (inl q) = omega arith
edge_good n a b ((h, l), m) (inr (inl q)) = omega arith
edge_good n a b ((h, l), m) (inr (inr q)) = m q

module _ (s : Sheet) (tails heads : List ℕ) (S : Said s s.edges tails heads) where
  -- an end that the lines name is one of the record
  pub end_touch : {v k : ℕ} → k < s.edges → HasEnd tails heads k v → touches s k v ≡ true
  end_touch {v} {k} h (d, at_tail e q) = (touches_says s k v).1 (inl (S.its_tails k h ∙ e))
  end_touch {v} {k} h (d, at_head e q) = (touches_says s k v).1 (inr (S.its_heads k h ∙ e))

  pub touch_end : {v k : ℕ} → k < s.edges → touches s k v ≡ true → HasEnd tails heads k v
  touch_end {v} {k} h t =
      elim ((touches_says s k v).0 t) [ inl e ↦ (_, at_tail (sym (S.its_tails k h) ∙ e) refl) | inr e ↦ (_, at_head (sym (S.its_heads k h) ∙ e) refl) ]

  pub around_its : {v : ℕ} {ws : List ℕ} → Around s v ws → ItsWires tails heads v ws
  around_its A = record {
    wires = λ i h. omega (arith, A.inside i h, S.tail_count);
    its = λ i h. touch_end (A.inside i h) (A.touching i h);
    all = λ k h e. let l : k < s.edges = omega (arith, S.tail_count) in A.all k l (end_touch l e);
    once = A.distinct.same;
  }

  pub its_around : {v : ℕ} {ws : List ℕ} → ItsWires tails heads v ws → Around s v ws
  its_around {v} {ws} W = record {
    distinct = record { same = W.once };
    inside = inside';
    touching = λ i h. end_touch (inside' i h) (W.its i h);
    all = λ k h t. W.all k (omega (arith, S.tail_count)) (touch_end h t);
  }
    where
      inside' : (i : ℕ) → i < length ws → get_or ws i 0 < s.edges
      inside' i h = omega (arith, W.wires i h, S.tail_count)

  module _ (joins : (k : ℕ) → k < s.edges → Joins s k) where
    -- a wire has one end at a bar
    pub end_is : {v k d : ℕ} → k < s.edges → End tails heads k v d → d ≡ dart_at s k v
    unfolding dart_of
    end_is {v} {k} h (at_tail e q) = rw (eq-eqb (tail s k) v (S.its_tails k h ∙ e)) q
    end_is {v} {k} h (at_head e q) = rw (ne_eqb (tail s k) v (λ z. (joins k h).different (z ∙ sym (S.its_heads k h ∙ e)))) q

    pub end_there : {v k : ℕ} → k < s.edges → touches s k v ≡ true → End tails heads k v (dart_at s k v)
    end_there {v} {k} h t = let (d, x) = touch_end h t in subst (End tails heads k v) (end_is h x) x

    -- entry i of the bar's line and what comes after it
    follows_after : {v w y d e : ℕ} {nexts ws : List ℕ} → Laid s v nexts ws → (i : ℕ) → i < length ws → get_or ws i 0 ≡ w → cyclic ws (suc i) ≡ y → y < s.edges
        → End tails heads w v d → End tails heads y v e → get_or nexts d 0 ≡ e
    follows_after {v} {nexts = nexts} {ws} L i h p q l c o =
        ap (λ k. get_or nexts k 0) (end_is (rw p at (L.around.inside i h)) c ∙ ap (λ k. dart_at s k v) (sym p))
        ∙ L.follows i h
        ∙ ap (λ k. dart_at s k v) q
        ∙ sym (end_is l o)

    pub laid_after : {v w y d e : ℕ} {nexts ws : List ℕ} → Laid s v nexts ws → After ws w y → End tails heads w v d → End tails heads y v e → get_or nexts d 0 ≡ e
    laid_after {ws = ws} L (on_line i h p q) = follows_after L i (omega arith) p (cyclic_entry ws (suc i) h ∙ q) (rw q at (L.around.inside (suc i) h))
    laid_after {ws = ws} L (around_again i h p q) = follows_after L i (omega arith) p (get_or_at ws (get_or ws 0 0) [] 0 (suc i) (sym h) ∙ q) (rw q at (L.around.inside 0 (omega arith)))
