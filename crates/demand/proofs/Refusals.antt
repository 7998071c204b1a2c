-- The tests of each edit, in their order, give the number that its refusals lay down. Assumes nothing.
use Rattle.std.proofs.Common.{ℕ, ◌/◌, ◌≤◌, ◌<◌, ◌≡◌, refl, sym, ◌∙◌, ap, ◌≢◌, ◌⊎◌, inl, inr, ◌↔◌, Bool, true, false, not, ◌||◌, arith, eqb, eqb-true, eq-eqb, ne_eqb, leb-false}
use Rattle.std.proofs.Math.Logic.{by_cases}
use Rattle.std.proofs.Math.Decide.{ℕ_discrete}
use Rattle.std.proofs.lemmas.Bool.{not-false, or_parts}
use Rattle.counting.specs.Counts.{count}
use Rattle.counting.proofs.Counts.{count_onto}
use Rattle.counting.proofs.Orbits.{kept_joined}
use Rattle.answers.specs.declared.Refusal.TheVariants.{NotSound, NotInSheet, Full, RootEdge, CornersApart, ClosesCircle, EdgeNeeded, VertexNeeded}
use Rattle.answers.specs.Answers.{refusal_number, answer_number}
use Rattle.answers.specs.Clauses.{First}
use Rattle.answers.proofs.Clauses.{first_number}
use Rattle.answers.proofs.Clauses.Agree.{none, then}
use Rattle.clauses.specs.Darts.{opposite, End, HasEnd, dart_of}
use Rattle.clauses.specs.Darts.End.{at_tail, at_head}
use Rattle.clauses.proofs.Touching.{head_touches}
use Rattle.clauses.specs.declared.Sheet.{Sheet}
use Rattle.sheet.specs.Darts.{Sized, tail, head, darts, vertex, touches, dart_at}
use Rattle.sheet.specs.Sound.{Sound}
use Rattle.sheet.specs.Check.{face, face_count}
use Rattle.soundness.proofs.Tests.{Says, le_says, eq_says, not_says, or_says, and_says, reworded}
use Rattle.soundness.proofs.Law.{sound_law, rotation_of, was_sound}
use Rattle.soundness.proofs.Faces.{walk_perm}
use Rattle.soundness.proofs.Columns.{column_law}
use Rattle.sheet.proofs.Darts.{dart_vertex, opposite_below}
use Rattle.soundness.proofs.Ends.{EndAt, at_below, end_touches, end_at_law}
use Rattle.edit.specs.Calls.{put_in_answer, run_answer, take_out_edge_answer, take_out_vertex_answer, corner_face, out_degree, in_degree, no_vertex, no_edge}
use Rattle.preservation.proofs.Degrees.{another, only_one}
use Rattle.preservation.proofs.Reaching.{leads_to_law}
use Rattle.demand.specs.Answered.{put_in_refusals, run_refusals, take_out_edge_refusals, take_out_vertex_refusals, OneFace, DifferentFaces, ExactlyOne}

-- the second test is only asked where the first fails
or_then : {a b : Bool} {P Q : Type 0} → Says a P → (a ≡ false → Says b Q) → Says (a || b) (P ⊎ Q)
or_then {a = true} x y = (λ _. inl (x.0 refl), λ _. refl)
or_then {a = false} x y = or_says x (y refl)

-- three or four tests in a row
regroup : {P Q R : Type 0} {b : Bool} → Says b ((P ⊎ Q) ⊎ R) → Says b (P ⊎ Q ⊎ R)
regroup x = reworded x
    (λ w. elim w [ inl v ↦ elim v [ inl p ↦ inl p | inr q ↦ inr (inl q) ] | inr r ↦ inr (inr r) ])
    (λ w. elim w [ inl p ↦ inl (inl p) | inr v ↦ elim v [ inl q ↦ inl (inr q) | inr r ↦ inr r ] ])

-- the first test of each edit

pub put_in_number : (s : Sheet) → Sized s → (k : ℕ) → First (put_in_refusals s k) (answer_number (put_in_answer s k))
unfolding put_in_answer put_in_refusals refusal_number
put_in_number s z k = first_number
    (then {r = NotSound} refl (not_says (sound_law s z)) (λ _.
    then {r = NotInSheet} refl (le_says s.edges k) (λ _.
    then {r = RootEdge} refl (eq_says k 0) (λ _.
    then {r = Full} refl (or_says (eq_says s.vertices 128) (eq_says s.edges 256)) (λ _.
    none)))))

-- an end of a wire of the sheet at a bar is the one that `dart_at` gives
module _ (s : Sheet) (S : Sound s) (k v : ℕ) (k_in : k < s.edges) where
  end_is : (d : ℕ) → End s.tails s.heads k v d → EndAt s v d × (d / 2 ≡ k)
  end_is d (at_tail e q) = (record { below = omega arith; here = ap (vertex s) q ∙ dart_vertex s true k ∙ e }, omega arith)
  end_is d (at_head e q) = (record { below = omega arith; here = ap (vertex s) q ∙ dart_vertex s false k ∙ e }, omega arith)

  end_found : (d : ℕ) → End s.tails s.heads k v d → d ≡ dart_at s k v
  end_found d e = let (at, q) = end_is d e in sym (ap (λ j. dart_at s j v) (sym q) ∙ end_at_law s S.joins at)

  dart_at_end : touches s k v ≡ true → End s.tails s.heads k v (dart_at s k v)
  unfolding dart_of
  dart_at_end t = by_cases (ℕ_discrete (tail s k) v)
      (λ e. at_tail e (rw (eq-eqb (tail s k) v e) refl)) (λ n. at_head (head_touches s.tails s.heads k v t n) (rw (ne_eqb (tail s k) v n) refl))

  touches_says : Says (touches s k v) (HasEnd s.tails s.heads k v)
  touches_says = (λ t. (dart_at s k v, dart_at_end t), λ (d, e). let (at, q) = end_is d e in ap (λ j. touches s j v) (sym q) ∙ end_touches s at)

-- two corners lie in one face where the computed numbers of their faces agree
one_face : {s : Sheet} → Sound s → (d e : ℕ) → d < darts s → e < darts s → (face s (opposite d) ≡ face s (opposite e)) ↔ OneFace s d e
one_face {s} S d e d_in e_in =
    let faces = (column_law S).faces in (
      λ q number f o. kept_joined (walk_perm s S.limits.edges_most (rotation_of S)) faces number o.step (opposite d) (opposite e) (opposite_below s d d_in) (opposite_below s e e_in) q,
      λ h. h (face s) (face_count s) faces,
    )

module _ (s : Sheet) (S : Sound s) (a p b q : ℕ) (p_in : p < s.edges) (q_in : q < s.edges) where
  corners_says : touches s p a ≡ true → touches s q b ≡ true → Says (not (eqb (corner_face s a p) (corner_face s b q))) (DifferentFaces s a p b q)
  unfolding corner_face
  corners_says t u =
      let faces = one_face S (dart_at s p a) (dart_at s q b) (at_below s p a p_in) (at_below s q b q_in) in
      reworded (not_says (eq_says (corner_face s a p) (corner_face s b q)))
      (λ n. record { d = dart_at s p a; e = dart_at s q b; p_end = dart_at_end s S p a p_in t; q_end = dart_at_end s S q b q_in u; apart = λ h. n (faces.1 h) })
      (λ c x. c.apart (rw (end_found s S p a p_in c.d c.p_end, end_found s S q b q_in c.e c.q_end) (faces.0 x)))

  apart_says : Says (not (touches s p a) || not (touches s q b) || not (eqb (corner_face s a p) (corner_face s b q))) ((¬ HasEnd s.tails s.heads p a) ⊎ (¬ HasEnd s.tails s.heads q b) ⊎ DifferentFaces s a p b q)
  apart_says = regroup (or_then
      (or_says (not_says (touches_says s S p a p_in)) (not_says (touches_says s S q b q_in)))
      (λ f. let (t, u) = or_parts (not (touches s p a)) (not (touches s q b)) f in corners_says (not-false (touches s p a) t) (not-false (touches s q b) u)))

pub run_number : (s : Sheet) → Sized s → (a p b q : ℕ) → First (run_refusals s a p b q) (answer_number (run_answer s a p b q))
unfolding run_answer run_refusals refusal_number
run_number s z a p b q = first_number
    (then {r = NotSound} refl (not_says (sound_law s z)) (λ u.
    then {r = NotInSheet} refl not_in_says (λ f. let (a_in, b_in, p_in, q_in) = all_in f in
    then {r = CornersApart} refl (apart_says s (was_sound s z u) a p b q p_in q_in) (λ _.
    then {r = ClosesCircle} refl (or_says (eq_says a b) (leads_to_law s (was_sound s z u) b a b_in a_in)) (λ _.
    then {r = Full} refl (eq_says s.edges 256) (λ _.
    none))))))
  where
    not_in_says : Says (no_vertex s a || no_vertex s b || no_edge s p || no_edge s q) ((s.vertices ≤ a) ⊎ (s.vertices ≤ b) ⊎ (s.edges ≤ p) ⊎ (s.edges ≤ q))
    not_in_says = regroup (regroup (or_says (or_says (or_says (le_says s.vertices a) (le_says s.vertices b)) (le_says s.edges p)) (le_says s.edges q)))

    all_in : (no_vertex s a || no_vertex s b || no_edge s p || no_edge s q) ≡ false → (a < s.vertices) × (b < s.vertices) × (p < s.edges) × (q < s.edges)
    all_in f =
        let (fr, fq) = or_parts (no_vertex s a || no_vertex s b || no_edge s p) (no_edge s q) f in
        let (fv, fp) = or_parts (no_vertex s a || no_vertex s b) (no_edge s p) fr in
        let (fa, fb) = or_parts (no_vertex s a) (no_vertex s b) fv in
        (leb-false s.vertices a fa, leb-false s.vertices b fb, leb-false s.edges p fp, leb-false s.edges q fq)

-- the count is 1: there is exactly one
one_says : (s : Sheet) (end : ℕ → ℕ) (v : ℕ) → Says (eqb (count (λ k. eqb (end k) v) s.edges) 1) (ExactlyOne s end v)
one_says s end v = reworded (eq_says (count p s.edges) 1) found counted
  where
    p : ℕ → Bool
    p k = eqb (end k) v

    found : count p s.edges ≡ 1 → ExactlyOne s end v
    found o =
        let (k, h, t, e) = count_onto p 0 s.edges (omega arith) in
        record { edge = k; edge_in = h; at_vertex = eqb-true (end k) v t; only = λ j g q. only_one p s.edges o j k g h (eq-eqb (end j) v q) t }

    counted : ExactlyOne s end v → count p s.edges ≡ 1
    counted x = by_cases (ℕ_discrete (count p s.edges) 1) (λ e. e) (λ n.
        let (j, h, ne, t) = another p s.edges x.edge x.edge_in (eq-eqb (end x.edge) v x.at_vertex) n in
        absurd (ne (x.only j h (eqb-true (end j) v t))))

-- so the count at an end of wire k is 1 where no other wire has that end
alone_says : (s : Sheet) (end : ℕ → ℕ) (k : ℕ) → k < s.edges
    → Says (eqb (count (λ j. eqb (end j) (end k)) s.edges) 1) (¬ ((j : ℕ) × (j < s.edges) × (j ≢ k) × (end j ≡ end k)))
alone_says s end k k_in = reworded (one_says s end (end k))
    (λ x (j, h, ne, q). ne (x.only j h q ∙ sym (x.only k k_in refl)))
    (λ n. record { edge = k; edge_in = k_in; at_vertex = refl; only = λ j h q. by_cases (ℕ_discrete j k) (λ e. e) (λ e. absurd (n (j, h, e, q))) })

pub take_out_edge_number : (s : Sheet) → Sized s → (k : ℕ) → First (take_out_edge_refusals s k) (answer_number (take_out_edge_answer s k))
unfolding take_out_edge_answer take_out_edge_refusals refusal_number out_degree in_degree
take_out_edge_number s z k = first_number
    (then {r = NotSound} refl (not_says (sound_law s z)) (λ _.
    then {r = NotInSheet} refl (le_says s.edges k) (λ f. let k_in = leb-false s.edges k f in
    then {r = RootEdge} refl (eq_says k 0) (λ _.
    then {r = EdgeNeeded} refl (regroup (or_says (or_says (eq_says s.edges 2) (alone_says s (tail s) k k_in)) (alone_says s (head s) k k_in))) (λ _.
    none)))))

pub take_out_vertex_number : (s : Sheet) → Sized s → (v : ℕ) → First (take_out_vertex_refusals s v) (answer_number (take_out_vertex_answer s v))
unfolding take_out_vertex_answer take_out_vertex_refusals refusal_number out_degree in_degree
take_out_vertex_number s z v = first_number
    (then {r = NotSound} refl (not_says (sound_law s z)) (λ _.
    then {r = NotInSheet} refl (le_says s.vertices v) (λ _.
    then {r = VertexNeeded} refl (regroup (or_says (or_says (eq_says v 0) (eq_says v 1)) (not_says (and_says (one_says s (head s) v) (one_says s (tail s) v))))) (λ _.
    none))))
