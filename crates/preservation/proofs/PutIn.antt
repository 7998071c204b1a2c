-- Put in keeps a sheet sound. Assumes nothing.
use Rattle.std.proofs.Common.{Ok, ℕ, ◌+◌, ◌<◌, ◌≡◌, refl, sym, ◌∙◌, ap, ◌≢◌, Bool, true, false, not, ◌||◌, List, add-one, arith, eqb, get_or, set, length, length-set, get_or-set_same, get_or-set_other, leb-false}
use Rattle.std.proofs.lemmas.Bool.{eqb-false, or_parts}
use Rattle.surgery.specs.Edits.{Subdivided}
use Rattle.surgery.proofs.Grow.{head_not_alone}
use Rattle.surgery.proofs.Subdivide.{subdivided_plane, subdivided_rises}
use Rattle.clauses.specs.declared.Sheet.{Sheet}
use Rattle.clauses.specs.Darts.{tail_dart, head_dart, opposite}
use Rattle.sheet.specs.Darts.{Sized, tail, head, darts, vertex, next}
use Rattle.sheet.specs.Sound.{Sound, Unused}
use Rattle.sheet.specs.Check.{sound, row}
use Rattle.soundness.specs.Maps.{map_with, map_of}
use Rattle.sheet.proofs.Darts.{dart, dart_kind, dart_below, by_dart, dart_opposite, dart_vertex}
use Rattle.soundness.proofs.Plane.{plane_of}
use Rattle.soundness.proofs.Law.{was_sound}
use Rattle.answers.specs.declared.Refusal.TheVariants.{NotSound, NotInSheet, RootEdge, Full}
use Rattle.answers.specs.Answers.{refusal_number}
use Rattle.edit.specs.Calls.{no_edge, put_in_answer}
use Rattle.edit.specs.Changes.{renamed, replace_dart, put_in}
use Rattle.preservation.specs.Laws.{PutInWhole}
use Rattle.preservation.proofs.Maps.{kept_sound, grown, new_head}
use Rattle.answers.proofs.Refusals.{passed}
use Rattle.preservation.proofs.Places.{renamed_old, renamed_other, replace_size, replace_new, replace_at, replace_zero}

module _ (s : Sheet) (z : Sized s) (S : Sound s) (k : ℕ) (k_in : k < s.edges) (k_other : k ≢ 0) (n_room : s.vertices < 128) (m_room : s.edges < 256) where
  abbrev s' : Sheet
  s' = put_in s k

  abbrev m : ℕ
  m = s.edges

  -- the arrays, store by store
  abbrev heads₁ : List ℕ
  heads₁ = set s.heads m (head s k)

  heads₁_size : length heads₁ ≡ 256
  heads₁_size = length-set s.heads m (head s k) ∙ z.heads

  abbrev nexts₁ : List ℕ
  nexts₁ = replace_dart (head_dart k) (head_dart m) s.nexts

  nexts₁_size : length nexts₁ ≡ 512
  nexts₁_size = replace_size (head_dart k) (head_dart m) s.nexts ∙ z.nexts

  abbrev nexts₂ : List ℕ
  nexts₂ = set nexts₁ (head_dart k) (tail_dart m)

  nexts₂_size : length nexts₂ ≡ 512
  nexts₂_size = length-set nexts₁ (head_dart k) (tail_dart m) ∙ nexts₁_size

  put_in_sized : Sized s'
  unfolding put_in
  put_in_sized = record {
    tails = length-set s.tails m s.vertices ∙ z.tails;
    heads = length-set heads₁ k s.vertices ∙ heads₁_size;
    nexts = length-set nexts₂ (tail_dart m) (head_dart k) ∙ nexts₂_size;
  }

  vertices_more : s'.vertices ≡ s.vertices + 1
  unfolding put_in
  vertices_more = refl

  edges_more : s'.edges ≡ m + 1
  unfolding put_in
  edges_more = refl

  -- tails and heads
  tail_new : tail s' m ≡ s.vertices
  unfolding put_in
  tail_new = get_or-set_same s.tails m s.vertices 0 (omega (arith, z.tails))

  tail_old : (j : ℕ) → j ≢ m → tail s' j ≡ tail s j
  unfolding put_in
  tail_old j n = get_or-set_other s.tails m j s.vertices 0 n

  head_split : head s' k ≡ s.vertices
  unfolding put_in
  head_split = get_or-set_same heads₁ k s.vertices 0 (omega (arith, heads₁_size))

  head_new : head s' m ≡ head s k
  unfolding put_in
  head_new = get_or-set_other heads₁ k m s.vertices 0 (λ e. omega arith) ∙ get_or-set_same s.heads m (head s k) 0 (omega (arith, z.heads))

  head_old : (j : ℕ) → j ≢ k → j ≢ m → head s' j ≡ head s j
  unfolding put_in
  head_old j n l = get_or-set_other heads₁ k j s.vertices 0 n ∙ get_or-set_other s.heads m j (head s k) 0 l

  -- next darts
  next_split : next s' (head_dart k) ≡ tail_dart m
  unfolding put_in
  next_split =
      get_or-set_other nexts₂ (tail_dart m) (head_dart k) (head_dart k) 0 (λ e. omega arith)
      ∙ get_or-set_same nexts₁ (head_dart k) (tail_dart m) 0 (omega (arith, nexts₁_size))

  next_tail : next s' (tail_dart m) ≡ head_dart k
  unfolding put_in
  next_tail = get_or-set_same nexts₂ (tail_dart m) (head_dart k) 0 (omega (arith, nexts₂_size))

  next_old : (d : ℕ) → d ≢ head_dart k → d ≢ tail_dart m → next s' d ≡ get_or nexts₁ d 0
  unfolding put_in
  next_old d a b = get_or-set_other nexts₂ (tail_dart m) d (head_dart k) 0 b ∙ get_or-set_other nexts₁ (head_dart k) d (tail_dart m) 0 a

  next_head : next s' (head_dart m) ≡ renamed (head_dart k) (head_dart m) (next s (head_dart k))
  next_head =
      next_old (head_dart m) (λ e. omega arith) (λ e. omega arith)
      ∙ replace_new (head_dart k) (head_dart m) s.nexts (omega (arith, z.nexts)) (omega (arith, z.nexts))

  next_rest : (d : ℕ) → d < darts s → d ≢ head_dart k → next s' d ≡ renamed (head_dart k) (head_dart m) (next s d)
  next_rest d h n =
      next_old d n (λ e. omega arith) ∙ replace_at (head_dart k) (head_dart m) s.nexts d (λ e. omega arith) (omega (arith, z.nexts))

  unused : Unused s'
  unused = record {
    tails = λ j h. tail_old j (λ q. omega (arith, edges_more)) ∙ S.unused.tails j (omega (arith, edges_more));
    heads = λ j h. head_old j (λ q. omega (arith, edges_more)) (λ q. omega (arith, edges_more)) ∙ S.unused.heads j (omega (arith, edges_more));
    nexts = λ d h.
        let e = edges_more in
        next_old d (λ q. omega arith) (λ q. omega arith)
        ∙ replace_zero (head_dart k) (head_dart m) s.nexts d (λ q. omega arith) (λ q. omega arith) (S.unused.nexts d (omega arith));
  }

  -- the edit of the map
  b_other : head_dart k ≢ opposite 0
  b_other e = omega (arith, dart_opposite true 0)

  b_next : next s (head_dart k) ≢ head_dart k
  b_next = head_not_alone (plane_of S).bipolar (dart_below false k_in) (dart_kind false k) b_other

  vertex_rest : (d : ℕ) → d < darts s → d ≢ head_dart k → vertex s' d ≡ vertex s d
  vertex_rest = by_dart s (λ d. d ≢ head_dart k → vertex s' d ≡ vertex s d) each
    where
      each : (c : Bool) (j : ℕ) → j < s.edges → dart c j ≢ head_dart k → vertex s' (dart c j) ≡ vertex s (dart c j)
      each true j h n = dart_vertex s' true j ∙ tail_old j (λ q. omega arith) ∙ sym (dart_vertex s true j)
      each false j h n = dart_vertex s' false j ∙ head_old j (λ q. n (ap head_dart q)) (λ q. omega arith) ∙ sym (dart_vertex s false j)

  subdivided : (r : ℕ → ℕ) → Subdivided (map_of s) (map_with s' r) (head_dart k)
  subdivided r = record {
    grown = grown s s' (row s) r edges_more;
    vertices = vertices_more ∙ add-one s.vertices;
    b_below = dart_below false k_in;
    b_head = dart_kind false k;
    b_other = b_other;
    next_b = next_split;
    next_tail = next_tail;
    next_head = ap (next s') (new_head s) ∙ next_head ∙ renamed_other (head_dart k) (head_dart m) (next s (head_dart k)) b_next;
    next_before = λ {d} h n e. next_rest d h n ∙ ap (renamed (head_dart k) (head_dart m)) e ∙ renamed_old (head_dart k) (head_dart m) ∙ sym (new_head s);
    next_rest = λ {d} h n e. next_rest d h n ∙ renamed_other (head_dart k) (head_dart m) (next s d) e;
    vertex_b = dart_vertex s' false k ∙ head_split;
    vertex_tail = dart_vertex s' true m ∙ tail_new;
    vertex_head = ap (vertex s') (new_head s) ∙ dart_vertex s' false m ∙ head_new ∙ sym (dart_vertex s false k);
    vertex_rest = λ {d} h n. vertex_rest d h n;
  }

  put_in_sound : Sound s'
  put_in_sound =
      let P = plane_of S in
      kept_sound s' (omega (arith, vertices_more, edges_more, S.limits)) unused (λ r w u. subdivided_plane P (subdivided r) w u)
      (subdivided_rises {M' = map_with s' (row s)} P.bipolar (subdivided (row s)) (row s) (λ d h t. P.bipolar.rises h t))

-- what an accepted call was given
pub record Given (s : Sheet) (k : ℕ) : Type 0 where
  pub is_sound : Sound s
  pub k_in : k < s.edges
  pub k_other : k ≢ 0
  pub n_room : s.vertices < 128
  pub m_room : s.edges < 256

pub put_in_given : (s : Sheet) (k : ℕ) → Sized s → put_in_answer s k ≡ Ok tt → Given s k
unfolding put_in_answer refusal_number
put_in_given s k z e =
    let a = passed NotSound (not (sound s)) _ e in
    let b = passed NotInSheet (no_edge s k) _ a.1 in
    let c = passed RootEdge (eqb k 0) _ b.1 in
    let d = or_parts (eqb s.vertices 128) (eqb s.edges 256) (passed Full (eqb s.vertices 128 || eqb s.edges 256) _ c.1).0 in
    let S = was_sound s z a.0 in
    record {
      is_sound = S;
      k_in = leb-false s.edges k b.0;
      k_other = eqb-false k 0 c.0;
      n_room = omega (arith, S.limits.vertices_most, eqb-false s.vertices 128 d.0);
      m_room = omega (arith, S.limits.edges_most, eqb-false s.edges 256 d.1);
    }

pub put_in_whole : PutInWhole
put_in_whole s k z e =
    let g = put_in_given s k z e in
    (put_in_sound s z g.is_sound k g.k_in g.k_other g.n_room g.m_room, put_in_sized s z g.is_sound k g.k_in g.k_other g.n_room g.m_room)
