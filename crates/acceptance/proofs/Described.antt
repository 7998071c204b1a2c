-- What the lines say of a sheet that they describe, and that they describe one. Assumes nothing.
use Rattle.std.proofs.Common.{◌≡◌, refl, sym, ◌∙◌, ap, Bool, true, false, List, [], ℕ, suc, ◌<◌, arith, get_or, length}
use Rattle.std.proofs.Math.Logic.{by_cases}
use Rattle.std.proofs.Math.Decide.{dec_lt}
use Rattle.std.proofs.Math.Seq.{get_or_at}
use Rattle.clauses.specs.Darts.{End}
use Rattle.clauses.specs.declared.Sheet.{Sheet}
use Rattle.sheet.specs.Darts.{next, dart_at}
use Rattle.sheet.specs.Sound.{Joins}
use Rattle.sheet.proofs.Darts.{dart, by_dart, same_parts}
use Rattle.roundtrip.proofs.Around.{Around}
use Rattle.roundtrip.proofs.Laid.{Laid, cyclic, cyclic_entry}
use Rattle.acceptance.specs.Loading.{ItsWires, After, Describes}
use Rattle.acceptance.proofs.Said.{Said, its_around, end_there}
use Rattle.clauses.specs.Darts.End.{at_tail, at_head}
use Rattle.acceptance.specs.Loading.After.{on_line, around_again}
use Rattle.roundtrip.proofs.Entries.{filled_all}

module _ {n : ℕ} {tails heads : List ℕ} {rings : List (List ℕ)} {s : Sheet} (D : Describes n tails heads rings s) where
  described_said : Said s s.edges tails heads
  described_said = record {
    tail_count = sym D.edges;
    its_tails = λ k h. D.its_tails k (omega (arith, D.edges));
    its_heads = λ k h. D.its_heads k (omega (arith, D.edges));
  }

  -- the ends at a bar follow each other as its line lists their wires
  pub described_laid : ((k : ℕ) → k < s.edges → Joins s k) → (v : ℕ) → v < n → ItsWires tails heads v (get_or rings v []) → Laid s v s.nexts (get_or rings v [])
  described_laid joins v h its = record { around = around; follows = follows' }
    where
      ws : List ℕ
      ws = get_or rings v []

      around : Around s v ws
      around = its_around s tails heads described_said its

      there : (i : ℕ) → i < length ws → End tails heads (get_or ws i 0) v (dart_at s (get_or ws i 0) v)
      there i l = end_there s tails heads described_said joins (around.inside i l) (around.touching i l)

      links : (i j : ℕ) → i < length ws → j < length ws → After ws (get_or ws i 0) (get_or ws j 0) → get_or s.nexts (dart_at s (get_or ws i 0) v) 0 ≡ dart_at s (get_or ws j 0) v
      links i j l m a = D.its_nexts v (get_or ws i 0) (get_or ws j 0) _ _ h a (there i l) (there j m)

      follows' : (i : ℕ) → i < length ws → get_or s.nexts (dart_at s (get_or ws i 0) v) 0 ≡ dart_at s (cyclic ws (suc i)) v
      follows' i l = by_cases (dec_lt (suc i) (length ws))
          (λ m. links i (suc i) l m (on_line i m refl refl) ∙ ap (λ w. dart_at s w v) (sym (cyclic_entry ws (suc i) m)))
          (λ m. let q : length ws ≡ suc i = omega arith in
          links i 0 l (omega arith) (around_again i (sym q) refl refl) ∙ ap (λ w. dart_at s w v) (sym (get_or_at ws (get_or ws 0 0) [] 0 (suc i) q)))

module _ {n : ℕ} {tails heads : List ℕ} {rings : List (List ℕ)} (tails_in : (k : ℕ) → k < length tails → get_or tails k 0 < n) (heads_in : (k : ℕ) → k < length tails → get_or heads k 0 < n)
    (its : (v : ℕ) → v < n → ItsWires tails heads v (get_or rings v [])) where
  -- the end after an end
  followed : (v k d : ℕ) → v < n → k < length tails → End tails heads k v d → (e : ℕ) × ((s : Sheet) → Describes n tails heads rings s → next s d ≡ e)
  followed v k d h l c = let (i, m, q) = (its v h).all k l (d, c) in by_cases (dec_lt (suc i) (length (get_or rings v [])))
      (λ j. let (e, o) = (its v h).its (suc i) j in (e, λ s D. D.its_nexts v k _ d e h (on_line i j q refl) c o))
      (λ j. let (e, o) = (its v h).its 0 (omega arith) in (e, λ s D. D.its_nexts v k _ d e h (around_again i (omega arith) q refl) c o))

  followed_dart : (b : Bool) (k : ℕ) → k < length tails → (e : ℕ) × ((s : Sheet) → Describes n tails heads rings s → next s (dart b k) ≡ e)
  followed_dart true k h = followed (get_or tails k 0) k _ (tails_in k h) h (at_tail refl refl)
  followed_dart false k h = followed (get_or heads k 0) k _ (heads_in k h) h (at_head refl refl)

  pub described_once : (s s' : Sheet) → Describes n tails heads rings s → Describes n tails heads rings s' → s ≡ s'
  described_once s s' D D' =
      let m = D.edges in
      let m' = D'.edges in
      same_parts (D.vertices ∙ sym D'.vertices) (m ∙ sym m')
      (filled_all (λ k h. D'.unused.tails k (omega arith)) (record { sized = D.sized.tails ∙ sym D'.sized.tails; front = λ k h. D.its_tails k h ∙ sym (D'.its_tails k h); rest = λ k h. D.unused.tails k (omega arith) }))
      (filled_all (λ k h. D'.unused.heads k (omega arith)) (record { sized = D.sized.heads ∙ sym D'.sized.heads; front = λ k h. D.its_heads k h ∙ sym (D'.its_heads k h); rest = λ k h. D.unused.heads k (omega arith) }))
      (filled_all (λ d h. D'.unused.nexts d (omega arith)) (record {
        sized = D.sized.nexts ∙ sym D'.sized.nexts;
        front = by_dart s (λ d. next s d ≡ next s' d) (λ b k h. let (e, f) = followed_dart b k (omega arith) in f s D ∙ sym (f s' D'));
        rest = D.unused.nexts;
      }))
