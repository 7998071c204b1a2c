-- Take out a wire keeps a sheet sound. Assumes nothing.
use Rattle.std.proofs.Common.{ℕ, suc, ◌-◌, ◌*◌, ◌<◌, ◌≡◌, refl, sym, ◌∙◌, ap, ◌≢◌, inl, inr, Bool, true, false, not, ◌||◌, List, arith, eqb, get_or, length, eqb-true, leb-false, eq-eqb}
use Rattle.std.proofs.lemmas.Bool.{eqb-false, or_parts}
use Rattle.counting.proofs.Iterate.{either}
use Rattle.planarmap.specs.Map.{Map, Bipolar, Plane}
use Rattle.surgery.specs.Edits.{Deleted}
use Rattle.surgery.specs.Statements.{Rises}
use Rattle.surgery.proofs.Delete.{deleted_plane, deleted_rises}
use Rattle.clauses.specs.declared.Sheet.{Sheet}
use Rattle.clauses.specs.Darts.{tail_dart, head_dart, is_tail}
use Rattle.sheet.specs.Darts.{Sized, tail, head, darts, vertex, next}
use Rattle.sheet.specs.Sound.{Unused, Sound}
use Rattle.sheet.specs.Check.{sound, row}
use Rattle.soundness.specs.Maps.{map_with, map_of}
use Rattle.sheet.proofs.Darts.{dart, dart_kind, dart_below, dart_vertex}
use Rattle.soundness.proofs.Plane.{plane_of}
use Rattle.soundness.proofs.Law.{was_sound}
use Rattle.answers.specs.declared.Refusal.TheVariants.{NotSound, NotInSheet, RootEdge, EdgeNeeded}
use Rattle.answers.specs.Answers.{refusal_number}
use Rattle.edit.specs.Changes.{renamed, remove_dart, last_edge_to, take_out_edge}
use Rattle.edit.specs.Calls.{no_edge, out_degree, in_degree, take_out_edge_answer}
use Rattle.preservation.specs.Laws.{TakeOutEdgeWhole}
use Rattle.preservation.proofs.Maps.{walks_with, limited_sound}
use Rattle.answers.proofs.Refusals.{passed}
use Rattle.preservation.proofs.Places.{renamed_old, renamed_other}
use Rattle.preservation.proofs.Removing.{remove_size, remove_at, remove_zero}
use Rattle.preservation.proofs.Exchange.{swap, swap_back, swap_below, swap_from, swap_second, swap_low, swap_not, swap_high, exchanged, exchanged_plane, exchanged_grown}
use Rattle.preservation.proofs.LastEdge.{last_edges, last_vertices, last_vertex, last_next, last_sized, last_unused}
use Rattle.preservation.proofs.Degrees.{end_of, degree, another}

module _ (s : Sheet) (z : Sized s) (S : Sound s) (k : ℕ) (k_in : k < s.edges) where
  abbrev nexts₁ : List ℕ
  nexts₁ = remove_dart (tail_dart k) s.nexts

  -- both darts of k have left their rings
  abbrev t : Sheet
  t = record {
    vertices = s.vertices;
    edges = s.edges;
    tails = s.tails;
    heads = s.heads;
    nexts = remove_dart (head_dart k) nexts₁;
  }

  nexts₁_size : length nexts₁ ≡ 512
  nexts₁_size = remove_size (tail_dart k) s.nexts ∙ z.nexts

  t_sized : Sized t
  t_sized = record { tails = z.tails; heads = z.heads; nexts = remove_size (head_dart k) nexts₁ ∙ nexts₁_size }

  first_at : (d : ℕ) → d < darts s → get_or nexts₁ d 0 ≡ renamed (tail_dart k) (next s (tail_dart k)) (next s d)
  first_at d h = remove_at (tail_dart k) s.nexts d (omega (arith, z.nexts, S.limits.edges_most))

  next_at : (d : ℕ) → d < darts s → next t d ≡ renamed (head_dart k) (get_or nexts₁ (head_dart k) 0) (get_or nexts₁ d 0)
  next_at d h = remove_at (head_dart k) nexts₁ d (omega (arith, nexts₁_size, S.limits.edges_most))

  same_vertex : (d : ℕ) → vertex t d ≡ vertex s d
  unfolding vertex
  same_vertex d = refl

  -- the two darts of k are at different vertices
  ends_apart : (b : Bool) → vertex s (dart b k) ≢ vertex s (dart (not b) k)
  ends_apart true e = (S.joins k k_in).different (sym (dart_vertex s true k) ∙ e ∙ dart_vertex s false k)
  ends_apart false e = (S.joins k k_in).different (sym (dart_vertex s true k) ∙ sym e ∙ dart_vertex s false k)

  B : Bipolar (map_of s)
  B = (plane_of S).bipolar

  next_apart : (b : Bool) → next s (dart b k) ≢ dart (not b) k
  next_apart b e = ends_apart b (sym (B.next_vertex (dart_below b k_in)) ∙ ap (vertex s) e)

  -- next darts of t: those of k are passed over
  next_over : (b : Bool) (d : ℕ) → d < darts s → next s d ≡ dart b k → next t d ≡ next s (dart b k)
  next_over true d h e =
      let f : get_or nexts₁ d 0 ≡ next s (tail_dart k) = first_at d h ∙ ap (renamed (tail_dart k) (next s (tail_dart k))) e ∙ renamed_old (tail_dart k) (next s (tail_dart k)) in
      next_at d h ∙ ap (renamed (head_dart k) (get_or nexts₁ (head_dart k) 0)) f
      ∙ renamed_other (head_dart k) (get_or nexts₁ (head_dart k) 0) (next s (tail_dart k)) (next_apart true)
  next_over false d h e =
      let f : get_or nexts₁ d 0 ≡ head_dart k = first_at d h ∙ ap (renamed (tail_dart k) (next s (tail_dart k))) e
      ∙ renamed_other (tail_dart k) (next s (tail_dart k)) (head_dart k) (omega arith) in
      next_at d h ∙ ap (renamed (head_dart k) (get_or nexts₁ (head_dart k) 0)) f
      ∙ renamed_old (head_dart k) (get_or nexts₁ (head_dart k) 0)
      ∙ first_at (head_dart k) (dart_below false k_in) ∙ renamed_other (tail_dart k) (next s (tail_dart k)) (next s (head_dart k)) (next_apart false)

  next_rest : (d : ℕ) → d < darts s → ((b : Bool) → next s d ≢ dart b k) → next t d ≡ next s d
  next_rest d h n =
      next_at d h ∙ ap (renamed (head_dart k) (get_or nexts₁ (head_dart k) 0)) (first_at d h ∙ renamed_other (tail_dart k) (next s (tail_dart k)) (next s d) (n true))
      ∙ renamed_other (head_dart k) (get_or nexts₁ (head_dart k) 0) (next s d) (n false)

  -- the last edge gets the number k
  abbrev s' : Sheet
  s' = last_edge_to t k

  abbrev l : ℕ
  l = s.edges - 1

  edges_fewer : s'.edges ≡ l
  edges_fewer = last_edges t t_sized S.limits.edges_most k k_in

  l_in : l < s.edges
  l_in = omega arith

  last : suc l ≡ s.edges
  last = omega arith

  other_next : (d : ℕ) → d < 2 * l → ((b : Bool) → next t (swap k l d) ≢ dart b k) → next s' d ≡ swap k l (next t (swap k l d))
  other_next d h n = last_next t t_sized S.limits.edges_most k k_in d h (n true) (n false)

  over : (b : Bool) (d : ℕ) → d < 2 * l → swap k l (next s (swap k l d)) ≡ dart b l → next s' d ≡ swap k l (next s (swap k l (dart b l)))
  over b d h q =
      let x = swap k l d in
      let x_in : x < darts s = swap_below s k l k_in l_in d (omega arith) in
      let e : next s x ≡ dart b k = swap_from s k l k_in l_in (next s x) (dart b l) (B.rotation.below x x_in) q ∙ swap_second k l b in
      let f : next t x ≡ next s (dart b k) = next_over b x x_in e in
      other_next d h (λ c p. elim (either c b) [
        | inl r ↦ swap_not s k l k_in l_in last b d h (B.rotation.one_one x (dart b k) x_in (dart_below b k_in) (e ∙ ap (λ y. dart y k) (sym r) ∙ sym p ∙ f))
        | inr r ↦ next_apart b (sym f ∙ p ∙ ap (λ y. dart y k) r)
      ]) ∙ ap (swap k l) f ∙ ap (λ y. swap k l (next s y)) (sym (swap_second k l b))

  rest : (d : ℕ) → d < 2 * l → swap k l (next s (swap k l d)) < 2 * l → next s' d ≡ swap k l (next s (swap k l d))
  rest d h g =
      let x = swap k l d in
      let n : (b : Bool) → next s x ≢ dart b k = λ b. swap_high s k l k_in l_in last b (next s x) g in
      let f : next t x ≡ next s x = next_rest x (swap_below s k l k_in l_in d (omega arith)) n in
      other_next d h (λ b q. n b (sym f ∙ q)) ∙ ap (swap k l) f

  -- the edit of the map
  abbrev M : Map
  M = exchanged s k l (λ v. v)

  module _ (k_other : k ≢ 0) (three : s.edges ≢ 2) (many : (b : Bool) → degree s b (end_of s b k) ≢ 1) where
    other : (b : Bool) → (d : ℕ) × (d < 2 * l) × (M.vertex d ≡ M.vertex (dart b l)) × (M.out d ≡ b)
    other b =
        let (j, g, n, q) = another (λ x. eqb (end_of s b x) (end_of s b k)) s.edges k k_in (eq-eqb (end_of s b k) (end_of s b k) refl) (many b) in
        let back : swap k l (swap k l (dart b j)) ≡ dart b j = swap_back s k l k_in l_in (dart b j) (dart_below b g) in (
          swap k l (dart b j),
          swap_low s k l k_in l_in last b j g n,
          ap (vertex s) back ∙ dart_vertex s b j ∙ eqb-true (end_of s b j) (end_of s b k) q
              ∙ sym (ap (vertex s) (swap_second k l b) ∙ dart_vertex s b k),
          ap is_tail back ∙ dart_kind b j,
        )

    deleted : (r : ℕ → ℕ) → Deleted (map_with s' r) M
    deleted r =
        let e = edges_fewer in
        let at_tail : darts s' ≡ tail_dart l = omega arith in
        let at_head : suc (darts s') ≡ head_dart l = omega arith in
        record {
          grown = exchanged_grown s k l (λ v. v) k_in l_in s' r (omega arith) k_other (λ q. omega (arith, S.limits.edges_least));
          vertices = last_vertices t t_sized S.limits.edges_most k k_in;
          root_below = omega (arith, S.limits.edges_least);
          next = record {
            over_x = λ {d} h q. over true d (omega arith) (q ∙ at_tail) ∙ ap M.next (sym at_tail);
            over_y = λ {d} h q. over false d (omega arith) (q ∙ at_head) ∙ ap M.next (sym at_head);
            rest = λ {d} h q. rest d (omega arith) (omega arith);
          };
          vertex = λ {d} h. last_vertex t t_sized S.limits.edges_most k k_in d (omega arith) ∙ same_vertex (swap k l d);
          other_out = let (d, g, v, o) = other true in (d, omega arith, v ∙ ap M.vertex (sym at_tail), o);
          other_in = let (d, g, v, o) = other false in (d, omega arith, v ∙ ap M.vertex (sym at_head), o);
        }

    P : Plane M
    P = exchanged_plane s k l (λ v. v) k_in l_in S (record { to_below = λ v h. h; from_below = λ v h. h; from_to = λ v h. refl; to_from = λ v h. refl }) refl refl

    rises : Rises (map_with s' (row s)) (row s)
    rises = deleted_rises P.bipolar (deleted (row s)) (row s) (λ d h o. P.bipolar.rises h o)

    t_unused : Unused t
    t_unused = record {
      tails = S.unused.tails;
      heads = S.unused.heads;
      nexts = λ d h. remove_zero (head_dart k) nexts₁ d (omega arith) (remove_zero (tail_dart k) s.nexts d (omega arith) (S.unused.nexts d h));
    }

    deleted_sound : Sound s'
    deleted_sound =
        let e = edges_fewer in
        let v = last_vertices t t_sized S.limits.edges_most k k_in in
        limited_sound s' (row s) (deleted_plane P (deleted (row s)) (walks_with s' (row s) (omega (arith, S.limits.edges_most))) rises)
        (omega (arith, S.limits)) (last_unused t t_sized S.limits.edges_most k k_in S.limits.edges_least t_unused)

  deleted_sized : Sized s'
  deleted_sized = last_sized t t_sized S.limits.edges_most k k_in

-- an accepted call was not refused for anything
pub take_out_edge_whole : TakeOutEdgeWhole
unfolding take_out_edge take_out_edge_answer refusal_number out_degree in_degree
take_out_edge_whole s k z e =
    let a = passed NotSound (not (sound s)) _ e in
    let b = passed NotInSheet (no_edge s k) _ a.1 in
    let c = passed RootEdge (eqb k 0) _ b.1 in
    let two = eqb s.edges 2 in
    let out = eqb (out_degree s (tail s k)) 1 in
    let ins = eqb (in_degree s (head s k)) 1 in
    let d = or_parts (two || out) ins (passed EdgeNeeded (two || out || ins) _ c.1).0 in
    let f = or_parts two out d.0 in
    let S = was_sound s z a.0 in
    let k_in : k < s.edges = leb-false s.edges k b.0 in
    let k_other : k ≢ 0 = eqb-false k 0 c.0 in
    let many = each_many (eqb-false (out_degree s (tail s k)) 1 f.1) (eqb-false (in_degree s (head s k)) 1 d.1) in
    (deleted_sound s z S k k_in k_other (eqb-false s.edges 2 f.0) many, deleted_sized s z S k k_in)
  where
    each_many : out_degree s (tail s k) ≢ 1 → in_degree s (head s k) ≢ 1 → (b : Bool) → degree s b (end_of s b k) ≢ 1
    each_many o i true = o
    each_many o i false = i
