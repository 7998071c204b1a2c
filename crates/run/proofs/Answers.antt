-- What it says that a corner is named, and that run accepts. Assumes nothing.
use Rattle.std.proofs.Common.{Ok, leb-false, List, ◌≤◌, ◌≢◌, ℕ, ◌<◌, ◌≡◌, true, not, ◌||◌, arith, eqb, ◌&&◌, ltb, ltb-true}
use Rattle.std.proofs.Math.Bool.{and-eq-true_iff}
use Rattle.std.proofs.lemmas.Bool.{not-false, eqb-false, or_parts}
use Rattle.answers.specs.declared.Refusal.TheVariants.{NotSound, NotInSheet, CornersApart, ClosesCircle, Full}
use Rattle.answers.proofs.Refusals.{passed}
use Rattle.clauses.specs.declared.Sheet.{Sheet}
use Rattle.sheet.specs.Check.{sound}
use Rattle.sheet.specs.Darts.{Sized, touches}
use Rattle.soundness.proofs.Law.{sound_law}
use Rattle.edit.specs.Reaching.{leads_to}
use Rattle.edit.specs.Calls.{no_edge, no_vertex, corner_face, run_answer}
use Rattle.run.specs.declared.Corner.{Corner}
use Rattle.run.specs.Inner.{Pair, Named, Room}

-- what an accepted call was given
pub given : (s : Sheet) (a p b q : ℕ) → Sized s → run_answer s a p b q ≡ Ok tt → Room s (record { vertex = a; edge = p }) (record { vertex = b; edge = q })
unfolding run_answer
given s a p b q z e =
    let i = passed NotSound (not (sound s)) _ e in
    let j = passed NotInSheet (no_vertex s a || no_vertex s b || no_edge s p || no_edge s q) _ i.1 in
    let k = passed CornersApart (not (touches s p a) || not (touches s q b) || not (eqb (corner_face s a p) (corner_face s b q))) _ j.1 in
    let l = passed ClosesCircle (eqb a b || leads_to s b a) _ k.1 in
    let o = passed Full (eqb s.edges 256) _ l.1 in
    let S = (sound_law s z).0 (not-false (sound s) i.0) in
    let (jr, jq) = or_parts (no_vertex s a || no_vertex s b || no_edge s p) (no_edge s q) j.0 in
    let (jv, jp) = or_parts (no_vertex s a || no_vertex s b) (no_edge s p) jr in
    let (ja, jb) = or_parts (no_vertex s a) (no_vertex s b) jv in
    record {
      few = S.limits.vertices_most;
      a_in = leb-false s.vertices a ja;
      b_in = leb-false s.vertices b jb;
      p_in = leb-false s.edges p jp;
      q_in = leb-false s.edges q jq;
      room = omega (arith, S.limits.edges_most, eqb-false s.edges 256 o.0);
    }

-- the vertex and the edge of a corner that is named
pub named_in : (s : Sheet) (c : Corner) → (ltb c.vertex s.vertices && ltb c.edge s.edges) ≡ true → (c.vertex < s.vertices) × (c.edge < s.edges)
named_in s c t = let (v, e) = (and-eq-true_iff _ _).0 t in (ltb-true c.vertex s.vertices v, ltb-true c.edge s.edges e)

-- what corners that are named say
module _ {s : Sheet} {faces : List ℕ} {from to : Corner} (g : Named s faces from to) where
  pub named_few : s.edges ≤ 256
  named_few = g.sound.limits.edges_most

  pub named_pair : from.vertex ≢ to.vertex → Pair s from.vertex to.vertex
  named_pair o = record { sized = g.sized; sound = g.sound; a_in = g.a_in; b_in = g.b_in; other = o }
