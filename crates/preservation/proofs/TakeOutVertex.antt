-- Take out a bar keeps a sheet sound. Assumes nothing.
use Rattle.std.proofs.Common.{ℕ, suc, ◌-◌, ◌*◌, ◌≤◌, ◌<◌, ◌≡◌, sym, ◌∙◌, ap, ◌≢◌, inl, inr, Bool, true, false, not, ◌&&◌, ◌||◌, arith, eqb, set, length-set, get_or-set_same, get_or-set_other, eqb-true, eq-eqb, leb-false}
use Rattle.std.proofs.Math.Logic.{by_cases}
use Rattle.std.proofs.Math.Bool.{and-eq-true_iff}
use Rattle.std.proofs.Math.Decide.{ℕ_discrete}
use Rattle.std.proofs.lemmas.Bool.{not-false, eqb-false, or_parts}
use Rattle.counting.specs.Below.{lowest_below}
use Rattle.counting.proofs.Iterate.{either}
use Rattle.planarmap.specs.Map.{Map, Bipolar, Plane}
use Rattle.surgery.specs.Edits.{Smoothed}
use Rattle.surgery.specs.Renumber.{exchange}
use Rattle.surgery.specs.Statements.{Rises}
use Rattle.surgery.proofs.Grow.{not_alone, head_not_alone}
use Rattle.surgery.proofs.Renumber.{exchange_bijection, exchange_first, exchange_second, exchange_other}
use Rattle.surgery.proofs.Smooth.{smoothed_plane, smoothed_rises}
use Rattle.clauses.specs.declared.Sheet.{Sheet}
use Rattle.clauses.specs.Darts.{tail_dart, head_dart, is_tail}
use Rattle.sheet.specs.Darts.{Sized, tail, head, darts, vertex, next}
use Rattle.sheet.specs.Sound.{Unused, Sound}
use Rattle.sheet.specs.Check.{sound}
use Rattle.soundness.specs.Maps.{map_with, map_of}
use Rattle.sheet.proofs.Darts.{dart, dart_kind, dart_below, each_dart, by_dart, dart_opposite, dart_vertex}
use Rattle.soundness.proofs.Plane.{plane_of}
use Rattle.soundness.proofs.Law.{was_sound}
use Rattle.answers.specs.declared.Refusal.TheVariants.{NotSound, NotInSheet, VertexNeeded}
use Rattle.answers.specs.Answers.{refusal_number}
use Rattle.edit.specs.Changes.{renamed, replace_dart, last_edge_to, last_vertex_to, incoming_edge, outgoing_edge, take_out_vertex}
use Rattle.edit.specs.Calls.{no_vertex, out_degree, in_degree, take_out_vertex_answer}
use Rattle.preservation.specs.Laws.{TakeOutVertexWhole}
use Rattle.preservation.proofs.Maps.{walks_with, limited_sound}
use Rattle.answers.proofs.Refusals.{passed}
use Rattle.preservation.proofs.Places.{renamed_old, renamed_other, replace_size, replace_new, replace_at, replace_zero}
use Rattle.preservation.proofs.Exchange.{swap, swap_back, swap_below, swap_from, swap_first, swap_second, swap_low, swap_not, exchanged, exchanged_plane, exchanged_grown}
use Rattle.preservation.proofs.LastEdge.{last_edges, last_vertices, last_vertex, last_next, last_sized, last_unused}
use Rattle.preservation.proofs.LastVertex.{named_vertices, named_edges, named_next, named_vertex, named_sized, named_unused}
use Rattle.preservation.proofs.Degrees.{end_of, degree, only_one, lowest_passes}

module _ (s : Sheet) (z : Sized s) (S : Sound s) (v : ℕ) (v_in : v < s.vertices) (not_source : v ≢ 0) (not_sink : v ≢ 1) (one : (b : Bool) → degree s b v ≡ 1) where
  -- the one edge that has its tail at v, and the one that has its head there
  abbrev edge : Bool → ℕ
  edge b = lowest_below (λ j. eqb (end_of s b j) v) s.edges

  edge_in : (b : Bool) → edge b < s.edges
  edge_in b = (lowest_passes (λ j. eqb (end_of s b j) v) s.edges (one b)).0

  edge_end : (b : Bool) → end_of s b (edge b) ≡ v
  edge_end b = eqb-true (end_of s b (edge b)) v (lowest_passes (λ j. eqb (end_of s b j) v) s.edges (one b)).1

  edge_only : (b : Bool) (j : ℕ) → j < s.edges → end_of s b j ≡ v → j ≡ edge b
  edge_only b j h e =
      only_one (λ x. eqb (end_of s b x) v) s.edges (one b) j (edge b) h (edge_in b) (eq-eqb (end_of s b j) v e) (eq-eqb (end_of s b (edge b)) v (edge_end b))

  abbrev o : ℕ
  o = edge true

  abbrev i : ℕ
  i = edge false

  o_in : o < s.edges
  o_in = edge_in true

  i_in : i < s.edges
  i_in = edge_in false

  i_other : i ≢ o
  i_other e = (S.joins o o_in).different (edge_end true ∙ sym (edge_end false) ∙ ap (head s) e)

  o_not_root : o ≢ 0
  o_not_root e = not_source (sym (edge_end true) ∙ ap (tail s) e ∙ S.root_tail)

  i_not_root : i ≢ 0
  i_not_root e = not_sink (sym (edge_end false) ∙ ap (head s) e ∙ S.root_head)

  three_edges : 3 ≤ s.edges
  three_edges = let a = i_other in let b = o_not_root in let c = i_not_root in omega (arith, o_in, i_in)

  -- the ring of v: the darts of the two
  abbrev own : Bool → ℕ
  own b = dart b (edge b)

  own_in : (b : Bool) → own b < darts s
  own_in b = dart_below b (edge_in b)

  own_vertex : (b : Bool) → vertex s (own b) ≡ v
  own_vertex b = dart_vertex s b (edge b) ∙ edge_end b

  own_only : (d : ℕ) → d < darts s → vertex s d ≡ v → (b : Bool) × (d ≡ own b)
  own_only = by_dart s (λ d. vertex s d ≡ v → (b : Bool) × (d ≡ own b))
      (λ b j h e. (b, ap (dart b) (edge_only b j h (sym (dart_vertex s b j) ∙ e))))

  B : Bipolar (map_of s)
  B = (plane_of S).bipolar

  own_other : (b : Bool) → own (not b) ≢ own b
  own_other true e = omega arith
  own_other false e = omega arith

  next_own : (b : Bool) → next s (own b) ≡ own (not b)
  next_own b =
      let (c, e) = own_only (next s (own b)) (B.rotation.below (own b) (own_in b)) (B.next_vertex (own_in b) ∙ own_vertex b) in
      elim (either c b) [
        | inl q ↦ absurd (not_alone B (own_in b) (own_in (not b)) (own_vertex b ∙ sym (own_vertex (not b))) (own_other b) (e ∙ ap own q))
        | inr q ↦ e ∙ ap own q
      ]

  -- the head dart of i alone comes before the tail dart of o, and after the head dart of o comes a dart of another edge
  before_tail : (d : ℕ) → d < darts s → next s d ≡ tail_dart o → d ≡ head_dart i
  before_tail d h e = B.rotation.one_one d (head_dart i) h (own_in false) (e ∙ sym (next_own false))

  next_head : next s (head_dart o) ≢ head_dart o
  next_head = head_not_alone B (dart_below false o_in) (dart_kind false o) (λ e. omega (arith, dart_opposite true 0, o_not_root))

  next_head_tail : next s (head_dart o) ≢ tail_dart o
  next_head_tail e = omega (arith, before_tail (head_dart o) (dart_below false o_in) e, i_other)

  -- i goes on to the head of o, in its place
  abbrev t : Sheet
  t = record {
    vertices = s.vertices;
    edges = s.edges;
    tails = s.tails;
    heads = set s.heads i (head s o);
    nexts = replace_dart (head_dart o) (head_dart i) s.nexts;
  }

  t_sized : Sized t
  t_sized = record {
    tails = z.tails;
    heads = length-set s.heads i (head s o) ∙ z.heads;
    nexts = replace_size (head_dart o) (head_dart i) s.nexts ∙ z.nexts;
  }

  t_head : head t i ≡ head s o
  t_head = get_or-set_same s.heads i (head s o) 0 (omega (arith, z.heads, i_in, S.limits.edges_most))

  t_head_rest : (j : ℕ) → j ≢ i → head t j ≡ head s j
  t_head_rest j n = get_or-set_other s.heads i j (head s o) 0 n

  t_vertex : vertex t (head_dart i) ≡ head s o
  t_vertex = dart_vertex t false i ∙ t_head

  t_vertex_rest : (d : ℕ) → d ≢ head_dart i → vertex t d ≡ vertex s d
  t_vertex_rest = each_dart (λ d. d ≢ head_dart i → vertex t d ≡ vertex s d) each
    where
      each : (b : Bool) (j : ℕ) → dart b j ≢ head_dart i → vertex t (dart b j) ≡ vertex s (dart b j)
      each true j n = dart_vertex t true j ∙ sym (dart_vertex s true j)
      each false j n = dart_vertex t false j ∙ t_head_rest j (λ q. n (ap head_dart q)) ∙ sym (dart_vertex s false j)

  t_next : next t (head_dart i) ≡ next s (head_dart o)
  t_next =
      replace_new (head_dart o) (head_dart i) s.nexts (omega (arith, z.nexts, o_in, S.limits.edges_most)) (omega (arith, z.nexts, i_in, S.limits.edges_most))
      ∙ renamed_other (head_dart o) (head_dart i) (next s (head_dart o)) next_head

  t_next_at : (d : ℕ) → d < darts s → d ≢ head_dart i → next t d ≡ renamed (head_dart o) (head_dart i) (next s d)
  t_next_at d h n = replace_at (head_dart o) (head_dart i) s.nexts d n (omega (arith, z.nexts, S.limits.edges_most))

  t_next_before : (d : ℕ) → d < darts s → d ≢ head_dart i → next s d ≡ head_dart o → next t d ≡ head_dart i
  t_next_before d h n e = t_next_at d h n ∙ ap (renamed (head_dart o) (head_dart i)) e ∙ renamed_old (head_dart o) (head_dart i)

  t_next_rest : (d : ℕ) → d < darts s → d ≢ head_dart i → next s d ≢ head_dart o → next t d ≡ next s d
  t_next_rest d h n e = t_next_at d h n ∙ renamed_other (head_dart o) (head_dart i) (next s d) e

  t_unused : Unused t
  t_unused = record {
    tails = S.unused.tails;
    heads = λ j h. t_head_rest j (λ q. omega (arith, i_in)) ∙ S.unused.heads j h;
    nexts = λ d h. replace_zero (head_dart o) (head_dart i) s.nexts d (λ q. omega (arith, i_in)) (omega arith) (S.unused.nexts d h);
  }

  -- the last edge gets the number o, and the last vertex the number v
  abbrev s₁ : Sheet
  s₁ = last_edge_to t o

  abbrev s' : Sheet
  s' = last_vertex_to s₁ v

  abbrev l : ℕ
  l = s.edges - 1

  abbrev w : ℕ
  w = s.vertices - 1

  l_in : l < s.edges
  l_in = omega (arith, three_edges)

  last : suc l ≡ s.edges
  last = omega (arith, three_edges)

  s₁_edges : s₁.edges ≡ l
  s₁_edges = last_edges t t_sized S.limits.edges_most o o_in

  s₁_vertices : s₁.vertices ≡ s.vertices
  s₁_vertices = last_vertices t t_sized S.limits.edges_most o o_in

  s₁_sized : Sized s₁
  s₁_sized = last_sized t t_sized S.limits.edges_most o o_in

  edges_fewer : s'.edges ≡ l
  edges_fewer = named_edges s₁ s₁_sized v ∙ s₁_edges

  vertices_fewer : s'.vertices ≡ w
  vertices_fewer = omega (arith, named_vertices s₁ s₁_sized v, s₁_vertices)

  smoothed_sized : Sized s'
  smoothed_sized = named_sized s₁ s₁_sized v

  unused : Unused s'
  unused = named_unused s₁ s₁_sized v (omega (arith, s₁_vertices)) (last_unused t t_sized S.limits.edges_most o o_in S.limits.edges_least t_unused)

  -- vertices
  abbrev ρ : ℕ → ℕ
  ρ = exchange v w

  renamed_vertex : (x : ℕ) → x ≢ v → renamed w v x ≡ ρ x
  renamed_vertex x n = by_cases (ℕ_discrete x w)
      (λ e. cc (renamed_old w v, exchange_second v w))
      (λ e. renamed_other w v x e ∙ sym (exchange_other v w n e))

  vertex_at : (d : ℕ) → d < 2 * l → vertex t (swap o l d) ≢ v → vertex s' d ≡ ρ (vertex t (swap o l d))
  vertex_at d h n =
      named_vertex s₁ s₁_sized v (omega (arith, s₁_edges, S.limits.edges_most)) d (omega (arith, s₁_edges))
      ∙ ap (λ x. renamed (x - 1) v (vertex s₁ d)) s₁_vertices
      ∙ ap (renamed w v) (last_vertex t t_sized S.limits.edges_most o o_in d h)
      ∙ renamed_vertex (vertex t (swap o l d)) n

  -- next darts
  next_at : (d : ℕ) → d < 2 * l → next t (swap o l d) ≢ tail_dart o → next t (swap o l d) ≢ head_dart o → next s' d ≡ swap o l (next t (swap o l d))
  next_at d h a c = named_next s₁ s₁_sized v d ∙ last_next t t_sized S.limits.edges_most o o_in d h a c

  -- the edit of the map
  abbrev M : Map
  M = exchanged s o l ρ

  abbrev b : ℕ
  b = swap o l (head_dart i)

  b_back : swap o l b ≡ head_dart i
  b_back = swap_back s o l o_in l_in (head_dart i) (own_in false)

  -- darts other than b
  module _ (d : ℕ) (h : d < 2 * l) (n : d ≢ b) where
    d_in : swap o l d < darts s
    d_in = swap_below s o l o_in l_in d (omega arith)

    d_other : swap o l d ≢ head_dart i
    d_other e = n (swap_from s o l o_in l_in d (head_dart i) (omega arith) e)

    rest_before : M.next d ≡ head_dart l → next s' d ≡ b
    rest_before q =
        let e : next s (swap o l d) ≡ head_dart o = swap_from s o l o_in l_in (next s (swap o l d)) (head_dart l) (B.rotation.below (swap o l d) d_in) q ∙ swap_second o l false in
        let f : next t (swap o l d) ≡ head_dart i = t_next_before (swap o l d) d_in d_other e in
        next_at d h (λ p. omega arith) (λ p. omega (arith, i_other)) ∙ ap (swap o l) f

    rest_next : M.next d ≢ head_dart l → next s' d ≡ M.next d
    rest_next q =
        let e : next s (swap o l d) ≢ head_dart o = λ p. q (ap (swap o l) p ∙ swap_first o l false) in
        let f : next t (swap o l d) ≡ next s (swap o l d) = t_next_rest (swap o l d) d_in d_other e in
        next_at d h (λ p. d_other (before_tail (swap o l d) d_in (sym f ∙ p))) (λ p. e (sym f ∙ p)) ∙ ap (swap o l) f

    rest_vertex : vertex s' d ≡ M.vertex d
    rest_vertex =
        let f : vertex t (swap o l d) ≡ vertex s (swap o l d) = t_vertex_rest (swap o l d) d_other in
        vertex_at d h (λ p. not_own (own_only (swap o l d) d_in (sym f ∙ p))) ∙ ap ρ f
      where
        not_own : ((c : Bool) × (swap o l d ≡ own c)) → ⊥
        not_own (true, e) = swap_not s o l o_in l_in last true d h e
        not_own (false, e) = d_other e

  smoothed : (r : ℕ → ℕ) → Smoothed (map_with s' r) M b
  smoothed r =
      let e = edges_fewer in
      let at_tail : darts s' ≡ tail_dart l = omega arith in
      let at_head : suc (darts s') ≡ head_dart l = omega arith in
      let low : b < 2 * l = swap_low s o l o_in l_in last false i i_in i_other in
      record {
        grown = exchanged_grown s o l ρ o_in l_in s' r (omega (arith, three_edges)) o_not_root (λ q. omega (arith, three_edges));
        vertices = omega (arith, vertices_fewer);
        b_below = omega arith;
        b_head = ap is_tail b_back ∙ dart_kind false i;
        ring_b = ap (λ x. swap o l (next s x)) b_back ∙ ap (swap o l) (next_own false) ∙ swap_first o l true ∙ sym at_tail;
        ring_tail = ap (λ x. swap o l (next s x)) (ap (swap o l) at_tail ∙ swap_second o l true) ∙ ap (swap o l) (next_own true);
        vertex_tail = ap (λ x. ρ (vertex s x)) (ap (swap o l) at_tail ∙ swap_second o l true) ∙ ap ρ (own_vertex true) ∙ exchange_first v w ∙ sym vertices_fewer;
        next_b =
            let f : next t (swap o l b) ≡ next s (head_dart o) = ap (next t) b_back ∙ t_next in
            next_at b low (λ p. next_head_tail (sym f ∙ p)) (λ p. next_head (sym f ∙ p)) ∙ ap (swap o l) f
            ∙ ap (λ x. swap o l (next s x)) (sym (ap (swap o l) at_head ∙ swap_second o l false));
        next_before = λ {d} h n q. rest_before d (omega arith) n (q ∙ at_head);
        next_rest = λ {d} h n q. rest_next d (omega arith) n (λ p. q (p ∙ sym at_head));
        vertex_b =
            let f : vertex t (swap o l b) ≡ head s o = ap (vertex t) b_back ∙ t_vertex in
            vertex_at b low (λ p. (S.joins o o_in).different (edge_end true ∙ sym p ∙ f)) ∙ ap ρ (f ∙ sym (dart_vertex s false o))
            ∙ ap (λ x. ρ (vertex s x)) (sym (ap (swap o l) at_head ∙ swap_second o l false));
        vertex_rest = λ {d} h n. rest_vertex d (omega arith) n;
      }

  P : Plane M
  P = exchanged_plane s o l ρ o_in l_in S (exchange_bijection v w v_in (omega arith)) (exchange_other v w (λ q. omega arith) (λ q. omega arith)) (exchange_other v w (λ q. omega arith) (λ q. omega arith))

  abbrev rows : ℕ → ℕ
  rows = M.row

  rises : Rises (map_with s' rows) rows
  rises = smoothed_rises P.bipolar (smoothed rows) rows (λ d h q. P.bipolar.rises h q)

  smoothed_sound : Sound s'
  smoothed_sound =
      let e = edges_fewer in
      let f = vertices_fewer in
      limited_sound s' rows (smoothed_plane P (smoothed rows) (walks_with s' rows (omega (arith, S.limits.edges_most))) rises)
      (omega (arith, S.limits, three_edges)) unused

-- an accepted call was not refused for anything
pub take_out_vertex_whole : TakeOutVertexWhole
unfolding take_out_vertex incoming_edge outgoing_edge take_out_vertex_answer refusal_number out_degree in_degree
take_out_vertex_whole s v z e =
    let a = passed NotSound (not (sound s)) _ e in
    let c = passed NotInSheet (no_vertex s v) _ a.1 in
    let ins = eqb (in_degree s v) 1 in
    let out = eqb (out_degree s v) 1 in
    let d = or_parts (eqb v 0 || eqb v 1) (not (ins && out)) (passed VertexNeeded (eqb v 0 || eqb v 1 || not (ins && out)) _ c.1).0 in
    let f = or_parts (eqb v 0) (eqb v 1) d.0 in
    let g = (and-eq-true_iff ins out).0 (not-false (ins && out) d.1) in
    let S = was_sound s z a.0 in
    let v_in : v < s.vertices = leb-false s.vertices v c.0 in
    let one = each_one (eqb-true (out_degree s v) 1 g.1) (eqb-true (in_degree s v) 1 g.0) in
    let not_source = eqb-false v 0 f.0 in
    let not_sink = eqb-false v 1 f.1 in
    (smoothed_sound s z S v v_in not_source not_sink one, smoothed_sized s z S v v_in not_source not_sink one)
  where
    each_one : out_degree s v ≡ 1 → in_degree s v ≡ 1 → (b : Bool) → degree s b v ≡ 1
    each_one p q true = p
    each_one p q false = q
