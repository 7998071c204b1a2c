-- The edges at a vertex with one incoming and one outgoing edge; and what acceptance says. Assumes nothing.
use Rattle.std.proofs.Common.{leb-false, ℕ, ◌≤◌, ◌<◌, ◌≡◌, not, ◌&&◌, ◌||◌, eqb, eqb-true, Ok}
use Rattle.std.proofs.lemmas.Bool.{not-false}
use Rattle.std.proofs.Math.Bool.{and-eq-true_iff}
use Rattle.std.proofs.lemmas.Bool.{or_parts, not-false}
use Rattle.answers.specs.declared.Refusal.TheVariants.{NotSound, NotInSheet, VertexNeeded}
use Rattle.answers.specs.Answers.{refusal_number}
use Rattle.clauses.specs.declared.Sheet.{Sheet}
use Rattle.sheet.specs.Check.{sound}
use Rattle.sheet.specs.Darts.{Sized, tail, head}
use Rattle.soundness.proofs.Law.{sound_law}
use Rattle.answers.proofs.Refusals.{passed}
use Rattle.preservation.proofs.Degrees.{lowest_passes}
use Rattle.edit.specs.Changes.{incoming_edge, outgoing_edge}
use Rattle.edit.specs.Calls.{no_vertex, out_degree, in_degree, take_out_vertex_answer}

-- the one incoming and the one outgoing edge are edges of the sheet
pub found_in : (s : Sheet) (v : ℕ) → in_degree s v ≡ 1 → incoming_edge s v < s.edges
unfolding in_degree incoming_edge
found_in s v o = (lowest_passes (λ k. eqb (head s k) v) s.edges o).0

pub found_out : (s : Sheet) (v : ℕ) → out_degree s v ≡ 1 → outgoing_edge s v < s.edges
unfolding out_degree outgoing_edge
found_out s v o = (lowest_passes (λ k. eqb (tail s k) v) s.edges o).0

-- what an accepted call was given
pub given : (s : Sheet) (v : ℕ) → Sized s → take_out_vertex_answer s v ≡ Ok tt
    → (v < s.vertices) × (s.vertices ≤ 128) × (s.edges ≤ 256) × (in_degree s v ≡ 1) × (out_degree s v ≡ 1)
unfolding take_out_vertex_answer refusal_number
given s v z e =
    let a = passed NotSound (not (sound s)) _ e in
    let b = passed NotInSheet (no_vertex s v) _ a.1 in
    let ins = eqb (in_degree s v) 1 in
    let out = eqb (out_degree s v) 1 in
    let d = or_parts (eqb v 0 || eqb v 1) (not (ins && out)) (passed VertexNeeded (eqb v 0 || eqb v 1 || not (ins && out)) _ b.1).0 in
    let g = (and-eq-true_iff ins out).0 (not-false (ins && out) d.1) in
    let S = (sound_law s z).0 (not-false (sound s) a.0) in
    (leb-false s.vertices v b.0, S.limits.vertices_most, S.limits.edges_most, eqb-true (in_degree s v) 1 g.0, eqb-true (out_degree s v) 1 g.1)
