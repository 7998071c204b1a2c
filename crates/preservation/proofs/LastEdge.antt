-- The last edge gets the number of an edge that goes. Assumes nothing.
use Rattle.std.proofs.Common.{ℕ, ◌-◌, ◌*◌, ◌≤◌, ◌<◌, ◌≡◌, refl, sym, ◌∙◌, ap, ◌≢◌, Bool, true, false, List, arith, get_or, set, length, length-set, get_or-set_same, get_or-set_other}
use Rattle.std.proofs.Math.Logic.{by_cases}
use Rattle.std.proofs.Math.Decide.{ℕ_discrete}
use Rattle.surgery.specs.Renumber.{exchange}
use Rattle.surgery.proofs.Renumber.{exchange_first, exchange_second, exchange_other}
use Rattle.clauses.specs.declared.Sheet.{Sheet}
use Rattle.clauses.specs.Darts.{tail_dart, head_dart}
use Rattle.sheet.specs.Darts.{Sized, tail, head, vertex, next}
use Rattle.sheet.specs.Sound.{Unused}
use Rattle.sheet.proofs.Darts.{dart, each_dart, by_dart, dart_vertex}
use Rattle.edit.specs.Changes.{renamed, replace_dart, last_edge_to}
use Rattle.preservation.proofs.Places.{renamed_old, renamed_other, replace_size, replace_zero}
use Rattle.preservation.proofs.Removing.{replaced_at, moved_size, moved_at, moved_zero}
use Rattle.preservation.proofs.Exchange.{swap, swap_dart, swap_both}

-- the darts of the last edge named as those of k
module _ (k l : ℕ) where
  abbrev relabelled : ℕ → ℕ
  relabelled x = renamed (head_dart l) (head_dart k) (renamed (tail_dart l) (tail_dart k) x)

  -- of any other dart than those of k this is its place after the exchange
  relabelled_swap : (x : ℕ) → x ≢ tail_dart k → x ≢ head_dart k → relabelled x ≡ swap k l x
  relabelled_swap = each_dart (λ x. x ≢ tail_dart k → x ≢ head_dart k → relabelled x ≡ swap k l x) each
    where
      each : (b : Bool) (j : ℕ) → dart b j ≢ tail_dart k → dart b j ≢ head_dart k → relabelled (dart b j) ≡ swap k l (dart b j)
      each true j n o = by_cases (ℕ_discrete j l)
          (λ e. cc (renamed_old (tail_dart l) (tail_dart k), renamed_other (head_dart l) (head_dart k) (tail_dart k) (omega arith), swap_dart k l true j, exchange_second k l))
          (λ e. ap (renamed (head_dart l) (head_dart k)) (renamed_other (tail_dart l) (tail_dart k) (tail_dart j) (λ q. omega arith))
          ∙ renamed_other (head_dart l) (head_dart k) (tail_dart j) (λ q. omega arith)
          ∙ sym (swap_dart k l true j ∙ ap tail_dart (exchange_other k l (λ q. n (ap tail_dart q)) e)))
      each false j n o = ap (renamed (head_dart l) (head_dart k)) (renamed_other (tail_dart l) (tail_dart k) (head_dart j) (λ q. omega arith)) ∙ by_cases (ℕ_discrete j l)
          (λ e. cc (renamed_old (head_dart l) (head_dart k), swap_dart k l false j, exchange_second k l))
          (λ e. renamed_other (head_dart l) (head_dart k) (head_dart j) (λ q. omega arith)
          ∙ sym (swap_dart k l false j ∙ ap head_dart (exchange_other k l (λ q. o (ap head_dart q)) e)))

module _ (t : Sheet) (z : Sized t) (few : t.edges ≤ 256) (k : ℕ) (k_in : k < t.edges) where
  abbrev t' : Sheet
  t' = last_edge_to t k

  abbrev l : ℕ
  l = t.edges - 1

  pub last_edges : t'.edges ≡ l
  unfolding last_edge_to
  last_edges = refl

  pub last_vertices : t'.vertices ≡ t.vertices
  unfolding last_edge_to
  last_vertices = refl

  pub last_tail : (j : ℕ) → j < l → tail t' j ≡ tail t (exchange k l j)
  unfolding last_edge_to
  last_tail j h = moved_at t.tails k l (omega arith) (omega (arith, z.tails)) j h

  pub last_head : (j : ℕ) → j < l → head t' j ≡ head t (exchange k l j)
  unfolding last_edge_to
  last_head j h = moved_at t.heads k l (omega arith) (omega (arith, z.heads)) j h

  pub last_vertex : (d : ℕ) → d < 2 * l → vertex t' d ≡ vertex t (swap k l d)
  last_vertex d h = by_dart t' (λ x. vertex t' x ≡ vertex t (swap k l x)) each d (omega (arith, last_edges))
    where
      each : (b : Bool) (j : ℕ) → j < t'.edges → vertex t' (dart b j) ≡ vertex t (swap k l (dart b j))
      each true j g = dart_vertex t' true j ∙ last_tail j (omega (arith, last_edges)) ∙ sym (ap (vertex t) (swap_dart k l true j) ∙ dart_vertex t true (exchange k l j))
      each false j g = dart_vertex t' false j ∙ last_head j (omega (arith, last_edges)) ∙ sym (ap (vertex t) (swap_dart k l false j) ∙ dart_vertex t false (exchange k l j))

  -- next darts
  abbrev nexts₁ : List ℕ
  nexts₁ = replace_dart (tail_dart l) (tail_dart k) t.nexts

  nexts₁_size : length nexts₁ ≡ 512
  nexts₁_size = replace_size (tail_dart l) (tail_dart k) t.nexts ∙ z.nexts

  abbrev nexts₂ : List ℕ
  nexts₂ = replace_dart (head_dart l) (head_dart k) nexts₁

  nexts₂_size : length nexts₂ ≡ 512
  nexts₂_size = replace_size (head_dart l) (head_dart k) nexts₁ ∙ nexts₁_size

  abbrev nexts₃ : List ℕ
  nexts₃ = set nexts₂ (tail_dart l) 0

  nexts₃_size : length nexts₃ ≡ 512
  nexts₃_size = length-set nexts₂ (tail_dart l) 0 ∙ nexts₂_size

  pub last_sized : Sized t'
  unfolding last_edge_to
  last_sized = record {
    tails = moved_size t.tails k l (omega arith) (omega (arith, z.tails)) ∙ z.tails;
    heads = moved_size t.heads k l (omega arith) (omega (arith, z.heads)) ∙ z.heads;
    nexts = length-set nexts₃ (head_dart l) 0 ∙ nexts₃_size;
  }

  next_kept : (d : ℕ) → d ≢ tail_dart l → d ≢ head_dart l → next t' d ≡ get_or nexts₂ d 0
  unfolding last_edge_to
  next_kept d a b = get_or-set_other nexts₃ (head_dart l) d 0 0 b ∙ get_or-set_other nexts₂ (tail_dart l) d 0 0 a

  first_at : (d : ℕ) → d ≢ tail_dart l → d < 512 → get_or nexts₁ d 0 ≡ renamed (tail_dart l) (tail_dart k) (next t (exchange (tail_dart k) (tail_dart l) d))
  first_at d n h = replaced_at (tail_dart l) (tail_dart k) t.nexts (omega (arith, z.nexts)) (omega (arith, z.nexts)) d n (omega (arith, z.nexts))

  second_at : (d : ℕ) → d ≢ head_dart l → d < 512 → get_or nexts₂ d 0 ≡ renamed (head_dart l) (head_dart k) (get_or nexts₁ (exchange (head_dart k) (head_dart l) d) 0)
  second_at d n h = replaced_at (head_dart l) (head_dart k) nexts₁ (omega (arith, nexts₁_size)) (omega (arith, nexts₁_size)) d n (omega (arith, nexts₁_size))

  next_named : (d : ℕ) → d < 2 * l → next t' d ≡ relabelled k l (next t (swap k l d))
  next_named d h =
      let e = exchange (head_dart k) (head_dart l) d in
      let apart : (e ≢ tail_dart l) × (e < 512) = by_cases (ℕ_discrete d (head_dart k))
      (λ q. let f : e ≡ head_dart l = ap (exchange (head_dart k) (head_dart l)) q ∙ exchange_first (head_dart k) (head_dart l) in (omega arith, omega arith))
      (λ q. let f : e ≡ d = exchange_other (head_dart k) (head_dart l) q (λ p. omega arith) in (omega arith, omega arith)) in
      next_kept d (λ q. omega arith) (λ q. omega arith)
      ∙ second_at d (λ q. omega arith) (omega arith)
      ∙ ap (renamed (head_dart l) (head_dart k)) (first_at e apart.0 apart.1)
      ∙ ap (λ x. relabelled k l (next t x)) (swap_both k l d)

  pub last_next : (d : ℕ) → d < 2 * l → next t (swap k l d) ≢ tail_dart k → next t (swap k l d) ≢ head_dart k → next t' d ≡ swap k l (next t (swap k l d))
  last_next d h a b = next_named d h ∙ relabelled_swap k l (next t (swap k l d)) a b

  -- unused entries
  pub last_unused : 2 ≤ t.edges → Unused t → Unused t'
  unfolding last_edge_to
  last_unused two u = record {
    tails = λ j h. moved_zero t.tails k l (omega arith) (omega (arith, z.tails)) j h (λ g. u.tails j (omega arith));
    heads = λ j h. moved_zero t.heads k l (omega arith) (omega (arith, z.heads)) j h (λ g. u.heads j (omega arith));
    nexts = nexts;
  }
    where
      nexts : (d : ℕ) → 2 * l ≤ d → next t' d ≡ 0
      nexts d h = by_cases (ℕ_discrete d (head_dart l))
          (λ e. ap (next t') e ∙ get_or-set_same nexts₃ (head_dart l) 0 0 (omega (arith, nexts₃_size)))
          (λ e. get_or-set_other nexts₃ (head_dart l) d 0 0 e ∙ by_cases (ℕ_discrete d (tail_dart l))
          (λ f. ap (λ x. get_or nexts₃ x 0) f ∙ get_or-set_same nexts₂ (tail_dart l) 0 0 (omega (arith, nexts₂_size)))
          (λ f. get_or-set_other nexts₂ (tail_dart l) d 0 0 f
          ∙ replace_zero (head_dart l) (head_dart k) nexts₁ d (λ q. omega arith) (λ q. omega arith)
          (replace_zero (tail_dart l) (tail_dart k) t.nexts d (λ q. omega arith) (λ q. omega arith) (u.nexts d (omega arith)))))
