-- Run keeps a sheet sound. Assumes nothing.
use Rattle.std.proofs.Common.{ℕ, suc, ◌+◌, ◌<◌, ◌≡◌, refl, sym, ◌∙◌, ap, ◌≢◌, Bool, true, false, not, ◌||◌, List, arith, eqb, eqb-true, get_or, length, length-set, get_or-set_same, get_or-set_other, leb-false}
use Rattle.std.proofs.lemmas.Bool.{not-false, eqb-false, or_parts}
use Rattle.counting.specs.Paths.Path.{here, more}
use Rattle.counting.proofs.Iterate.{clash}
use Rattle.surgery.specs.Edits.{Added}
use Rattle.surgery.proofs.Add.{added_plane, added_rises}
use Rattle.answers.specs.declared.Refusal.TheVariants.{NotSound, NotInSheet, CornersApart, ClosesCircle, Full}
use Rattle.answers.specs.Answers.{refusal_number}
use Rattle.clauses.specs.declared.Sheet.{Sheet}
use Rattle.clauses.specs.Darts.{tail_dart, head_dart, is_tail, opposite}
use Rattle.sheet.specs.Darts.{Sized, tail, head, darts, vertex, touches, dart_at, next}
use Rattle.sheet.specs.Sound.{Sound, Unused}
use Rattle.sheet.specs.Check.{sound, row}
use Rattle.soundness.specs.Maps.{map_with, map_of}
use Rattle.sheet.proofs.Darts.{dart, dart_kind, by_dart, dart_opposite, dart_vertex}
use Rattle.soundness.proofs.Ends.{at_below, at_end}
use Rattle.soundness.proofs.Plane.{plane_of}
use Rattle.soundness.proofs.Law.{was_sound}
use Rattle.edit.specs.Reaching.{leads_to}
use Rattle.edit.specs.Changes.{insert_dart, run_edge}
use Rattle.edit.specs.Calls.{no_edge, no_vertex, corner_face, run_answer}
use Rattle.preservation.specs.Laws.{RunWhole}
use Rattle.preservation.proofs.Maps.{kept_sound, grown, new_head}
use Rattle.preservation.proofs.Reaching.{leads_to_law}
use Rattle.answers.proofs.Refusals.{passed}
use Rattle.preservation.proofs.Places.{insert_size, insert_at, insert_new, insert_rest}

-- what an accepted call was given
record Given (s : Sheet) (a p b q : ℕ) : Type 0 where
  a_in : a < s.vertices
  b_in : b < s.vertices
  p_in : p < s.edges
  q_in : q < s.edges
  p_touches : touches s p a ≡ true
  q_touches : touches s q b ≡ true
  one_face : corner_face s a p ≡ corner_face s b q
  other : a ≢ b
  no_path : leads_to s b a ≡ false
  room : s.edges < 256

module _ (s : Sheet) (z : Sized s) (S : Sound s) (a p b q : ℕ) (g : Given s a p b q) where
  abbrev s' : Sheet
  s' = run_edge s a p b q

  abbrev m : ℕ
  m = s.edges

  -- the darts after which the new ones come
  abbrev P : ℕ
  P = dart_at s p a

  abbrev Q : ℕ
  Q = dart_at s q b

  p_is_below : P < darts s
  p_is_below = at_below s p a g.p_in

  q_is_below : Q < darts s
  q_is_below = at_below s q b g.q_in

  p_vertex : vertex s P ≡ a
  p_vertex = (at_end s p a g.p_in g.p_touches).here

  q_vertex : vertex s Q ≡ b
  q_vertex = (at_end s q b g.q_in g.q_touches).here

  two : P ≢ Q
  two e = g.other (sym p_vertex ∙ ap (vertex s) e ∙ q_vertex)

  room : m < 256
  room = g.room

  abbrev nexts₁ : List ℕ
  nexts₁ = insert_dart (tail_dart m) P s.nexts

  tail_apart : tail_dart m ≢ P
  tail_apart e = omega (arith, p_is_below)

  head_apart : head_dart m ≢ Q
  head_apart e = omega (arith, q_is_below)

  nexts₁_size : length nexts₁ ≡ 512
  nexts₁_size = insert_size (tail_dart m) P s.nexts tail_apart ∙ z.nexts

  run_sized : Sized s'
  unfolding run_edge
  run_sized = record {
    tails = length-set s.tails m a ∙ z.tails;
    heads = length-set s.heads m b ∙ z.heads;
    nexts = insert_size (head_dart m) Q nexts₁ head_apart ∙ nexts₁_size;
  }

  vertices_same : s'.vertices ≡ s.vertices
  unfolding run_edge
  vertices_same = refl

  edges_more : s'.edges ≡ m + 1
  unfolding run_edge
  edges_more = refl

  tail_new : tail s' m ≡ a
  unfolding run_edge
  tail_new = get_or-set_same s.tails m a 0 (omega (arith, room, z.tails))

  tail_old : (j : ℕ) → j ≢ m → tail s' j ≡ tail s j
  unfolding run_edge
  tail_old j n = get_or-set_other s.tails m j a 0 n

  head_new : head s' m ≡ b
  unfolding run_edge
  head_new = get_or-set_same s.heads m b 0 (omega (arith, room, z.heads))

  head_old : (j : ℕ) → j ≢ m → head s' j ≡ head s j
  unfolding run_edge
  head_old j n = get_or-set_other s.heads m j b 0 n

  -- next darts
  next_other : (d : ℕ) → d ≢ Q → d ≢ head_dart m → next s' d ≡ get_or nexts₁ d 0
  unfolding run_edge
  next_other d n k = insert_rest (head_dart m) Q nexts₁ head_apart d n k

  next_old : (d : ℕ) → d ≢ P → d ≢ Q → d ≢ tail_dart m → d ≢ head_dart m → next s' d ≡ next s d
  next_old d n k t h = next_other d k h ∙ insert_rest (tail_dart m) P s.nexts tail_apart d n t

  next_at_p : next s' P ≡ tail_dart m
  next_at_p = next_other P two (λ e. omega (arith, p_is_below)) ∙ insert_at (tail_dart m) P s.nexts tail_apart (omega (arith, p_is_below, room, z.nexts))

  next_tail : next s' (tail_dart m) ≡ next s P
  next_tail = next_other (tail_dart m) (λ e. omega (arith, q_is_below)) (λ e. omega arith) ∙ insert_new (tail_dart m) P s.nexts tail_apart (omega (arith, room, z.nexts))

  next_at_q : next s' Q ≡ head_dart m
  unfolding run_edge
  next_at_q = insert_at (head_dart m) Q nexts₁ head_apart (omega (arith, q_is_below, room, nexts₁_size))

  next_head : next s' (head_dart m) ≡ next s Q
  unfolding run_edge
  next_head =
      insert_new (head_dart m) Q nexts₁ head_apart (omega (arith, room, nexts₁_size))
      ∙ insert_rest (tail_dart m) P s.nexts tail_apart Q (λ e. two (sym e)) (λ e. omega (arith, q_is_below))

  unused : Unused s'
  unused = record {
    tails = λ j h. tail_old j (λ w. omega (arith, edges_more)) ∙ S.unused.tails j (omega (arith, edges_more));
    heads = λ j h. head_old j (λ w. omega (arith, edges_more)) ∙ S.unused.heads j (omega (arith, edges_more));
    nexts = λ d h.
        let e = edges_more in
        next_old d (λ w. omega (arith, p_is_below)) (λ w. omega (arith, q_is_below)) (λ w. omega arith) (λ w. omega arith) ∙ S.unused.nexts d (omega arith);
  }

  -- the edit of the map
  vertex_rest : (d : ℕ) → d < darts s → vertex s' d ≡ vertex s d
  vertex_rest = by_dart s (λ d. vertex s' d ≡ vertex s d) each
    where
      each : (c : Bool) (j : ℕ) → j < s.edges → vertex s' (dart c j) ≡ vertex s (dart c j)
      each true j h = dart_vertex s' true j ∙ tail_old j (λ w. omega arith) ∙ sym (dart_vertex s true j)
      each false j h = dart_vertex s' false j ∙ head_old j (λ w. omega arith) ∙ sym (dart_vertex s false j)

  added : (r : ℕ → ℕ) → Added (map_of s) (map_with s' r) P Q
  added r = record {
    grown = grown s s' (row s) r edges_more;
    vertices = vertices_same;
    next = record {
      p_below = p_is_below;
      q_below = q_is_below;
      two = two;
      at_p = next_at_p;
      at_x = next_tail;
      at_q = next_at_q ∙ sym (new_head s);
      at_y = ap (next s') (new_head s) ∙ next_head;
      rest = λ {d} h n k. next_old d n k (λ w. omega arith) (λ w. omega arith);
    };
    vertex_tail = dart_vertex s' true m ∙ tail_new ∙ sym p_vertex;
    vertex_head = ap (vertex s') (new_head s) ∙ dart_vertex s' false m ∙ head_new ∙ sym q_vertex;
    vertex_rest = λ {d} h. vertex_rest d h;
  }

  -- what a path leads to from the new edge's head
  above_rises : (d : ℕ) → d < darts s → is_tail d ≡ true → leads_to s b (vertex s d) ≡ true → leads_to s b (vertex s (opposite d)) ≡ true
  above_rises = by_dart s (λ d. is_tail d ≡ true → leads_to s b (vertex s d) ≡ true → leads_to s b (vertex s (opposite d)) ≡ true) each
    where
      each : (c : Bool) (j : ℕ) → j < s.edges → is_tail (dart c j) ≡ true → leads_to s b (vertex s (dart c j)) ≡ true → leads_to s b (vertex s (opposite (dart c j))) ≡ true
      each false j h t e = clash t (dart_kind false j)
      each true j h t e =
          let J = S.joins j h in
          let (k, w) = (leads_to_law s S b (tail s j) g.b_in J.tail_in).0 (ap (leads_to s b) (sym (dart_vertex s true j)) ∙ e) in
          ap (λ (d : ℕ). leads_to s b (vertex s d)) (dart_opposite true j) ∙ ap (leads_to s b) (dart_vertex s false j)
          ∙ (leads_to_law s S b (head s j) g.b_in J.head_in).1 (suc k, more w (record { edge = j; edge_in = h; from = refl; to = refl }))

  run_sound : Sound s'
  unfolding corner_face
  run_sound =
      let M = plane_of S in
      kept_sound s' (omega (arith, vertices_same, edges_more, room, S.limits)) unused (λ r w u. added_plane M (added r) w u g.one_face)
      (added_rises {M' = map_with s' (row s)} M.bipolar (added (row s)) (leads_to s b) above_rises
      (ap (leads_to s b) q_vertex ∙ (leads_to_law s S b b g.b_in g.b_in).1 (0, here)) (ap (leads_to s b) p_vertex ∙ g.no_path)
      (row s) (λ d h t. M.bipolar.rises h t))

-- an accepted call was not refused for anything
pub run_whole : RunWhole
unfolding run_answer refusal_number
run_whole s a p b q z e =
    let i = passed NotSound (not (sound s)) _ e in
    let j = passed NotInSheet (no_vertex s a || no_vertex s b || no_edge s p || no_edge s q) _ i.1 in
    let k = passed CornersApart (not (touches s p a) || not (touches s q b) || not (eqb (corner_face s a p) (corner_face s b q))) _ j.1 in
    let l = passed ClosesCircle (eqb a b || leads_to s b a) _ k.1 in
    let o = passed Full (eqb s.edges 256) _ l.1 in
    let S = was_sound s z i.0 in
    let (jr, jq) = or_parts (no_vertex s a || no_vertex s b || no_edge s p) (no_edge s q) j.0 in
    let (jv, jp) = or_parts (no_vertex s a || no_vertex s b) (no_edge s p) jr in
    let (ja, jb) = or_parts (no_vertex s a) (no_vertex s b) jv in
    let (kt, kf) = or_parts (not (touches s p a) || not (touches s q b)) (not (eqb (corner_face s a p) (corner_face s b q))) k.0 in
    let (kp, kq) = or_parts (not (touches s p a)) (not (touches s q b)) kt in
    let (le, ll) = or_parts (eqb a b) (leads_to s b a) l.0 in
    let g : Given s a p b q = record {
      a_in = leb-false s.vertices a ja;
      b_in = leb-false s.vertices b jb;
      p_in = leb-false s.edges p jp;
      q_in = leb-false s.edges q jq;
      p_touches = not-false (touches s p a) kp;
      q_touches = not-false (touches s q b) kq;
      one_face = eqb-true (corner_face s a p) (corner_face s b q) (not-false (eqb (corner_face s a p) (corner_face s b q)) kf);
      other = eqb-false a b le;
      no_path = ll;
      room = omega (arith, S.limits.edges_most, eqb-false s.edges 256 o.0);
    } in
    (run_sound s z S a p b q g, run_sized s z S a p b q g)
