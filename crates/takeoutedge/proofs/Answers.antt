-- The degrees at the ends of an edge, as they are counted; and what acceptance says. Assumes nothing.
use Rattle.std.proofs.Common.{Ok, leb-false, ℕ, ◌≤◌, ◌<◌, ◌≡◌, ◌∙◌, ap, true, not, eqb, List, length, get_or, take, get_or-take, length-take-le}
use Rattle.std.proofs.lemmas.Bool.{not-false}
use Rattle.counting.proofs.Counts.{count_agree}
use Rattle.counting.specs.Counts.{count}
use Rattle.answers.specs.declared.Refusal.TheVariants.{NotSound, NotInSheet}
use Rattle.answers.specs.Answers.{refusal_number}
use Rattle.clauses.specs.declared.Sheet.{Sheet}
use Rattle.sheet.specs.Check.{sound}
use Rattle.sheet.specs.Darts.{Sized}
use Rattle.std.proofs.lemmas.Bool.{not-false}
use Rattle.soundness.proofs.Law.{sound_law}
use Rattle.answers.proofs.Refusals.{passed}
use Rattle.edit.specs.Calls.{no_edge, out_degree, in_degree, take_out_edge_answer}

-- a sound sheet has at most 256 edges
pub few_edges : (s : Sheet) → Sized s → sound s ≡ true → s.edges ≤ 256
few_edges s z S = ((sound_law s z).0 S).limits.edges_most

-- a vertex counted among the ends of the edges of a sheet
ends_at : (v m : ℕ) (ends : List ℕ) → m ≤ length ends → count (λ k. eqb (get_or (take m ends) k 0) v) (length (take m ends)) ≡ count (λ k. eqb (get_or ends k 0) v) m
ends_at v m ends h = rw (length-take-le m ends h) (count_agree _ _ m (λ k l. ap (λ (x : ℕ). eqb x v) (get_or-take m ends k 0 l)))

module _ (s : Sheet) (u v d : ℕ) where
  pub out_degree_law : s.edges ≤ length s.tails → v ≡ u → d ≡ count (λ k. eqb (get_or (take s.edges s.tails) k 0) v) (length (take s.edges s.tails)) → d ≡ out_degree s u
  unfolding out_degree
  out_degree_law h e q = q ∙ ends_at v s.edges s.tails h ∙ ap (λ (x : ℕ). count (λ k. eqb (get_or s.tails k 0) x) s.edges) e

  pub in_degree_law : s.edges ≤ length s.heads → v ≡ u → d ≡ count (λ k. eqb (get_or (take s.edges s.heads) k 0) v) (length (take s.edges s.heads)) → d ≡ in_degree s u
  unfolding in_degree
  in_degree_law h e q = q ∙ ends_at v s.edges s.heads h ∙ ap (λ (x : ℕ). count (λ k. eqb (get_or s.heads k 0) x) s.edges) e

-- what an accepted call was given
pub given : (s : Sheet) (k : ℕ) → Sized s → take_out_edge_answer s k ≡ Ok tt → (k < s.edges) × (s.edges ≤ 256)
unfolding take_out_edge_answer refusal_number
given s k z e =
    let a = passed NotSound (not (sound s)) _ e in
    let b = passed NotInSheet (no_edge s k) _ a.1 in
    (leb-false s.edges k b.0, few_edges s z (not-false (sound s) a.0))

-- what the tests count
pub ruleset counted = (few_edges, out_degree_law, in_degree_law)
