-- Two edges of a map change their numbers. Assumes nothing.
use Rattle.std.proofs.Common.{ℕ, suc, ◌+◌, ◌*◌, ◌/◌, ◌<◌, ◌≡◌, sym, ◌∙◌, ap, ◌≢◌, Bool, true, false, not, arith}
use Rattle.std.proofs.Math.Logic.{by_cases}
use Rattle.std.proofs.Math.Decide.{ℕ_discrete}
use Rattle.counting.specs.Orbits.{Bijection}
use Rattle.planarmap.specs.Map.{Map, Plane}
use Rattle.surgery.specs.Edits.{Grown}
use Rattle.surgery.specs.Renumber.{renumber, exchange}
use Rattle.surgery.proofs.Renumber.{renumber_plane, exchange_bijection, exchange_first, exchange_second, exchange_other}
use Rattle.clauses.specs.declared.Sheet.{Sheet}
use Rattle.clauses.specs.Darts.{tail_dart, head_dart, is_tail, opposite}
use Rattle.sheet.specs.Darts.{darts}
use Rattle.sheet.specs.Sound.{Sound}
use Rattle.soundness.specs.Maps.{map_with, map_of}
use Rattle.sheet.proofs.Darts.{dart, dart_kind, dart_edge, dart_below, each_dart, by_dart, dart_opposite}
use Rattle.soundness.proofs.Plane.{plane_of}
use Rattle.preservation.proofs.Maps.{new_head}

-- the darts of the edges k and l change places
unfoldable pub swap : ℕ → ℕ → ℕ → ℕ
swap k l d = dart (is_tail d) (exchange k l (d / 2))

module _ (k l : ℕ) where
  pub swap_dart : (b : Bool) (j : ℕ) → swap k l (dart b j) ≡ dart b (exchange k l j)
  unfolding swap
  swap_dart b j = rw (dart_kind b j, dart_edge b j)

  pub swap_kind : (d : ℕ) → is_tail (swap k l d) ≡ is_tail d
  swap_kind = each_dart (λ d. is_tail (swap k l d) ≡ is_tail d) (λ b j. ap is_tail (swap_dart b j) ∙ dart_kind b (exchange k l j) ∙ sym (dart_kind b j))

  pub swap_first : (b : Bool) → swap k l (dart b k) ≡ dart b l
  swap_first b = swap_dart b k ∙ ap (dart b) (exchange_first k l)

  pub swap_second : (b : Bool) → swap k l (dart b l) ≡ dart b k
  swap_second b = swap_dart b l ∙ ap (dart b) (exchange_second k l)

  pub swap_opposite : (d : ℕ) → swap k l (opposite d) ≡ opposite (swap k l d)
  swap_opposite = each_dart (λ d. swap k l (opposite d) ≡ opposite (swap k l d)) (λ b j.
      ap (swap k l) (dart_opposite b j) ∙ swap_dart (not b) j ∙ sym (dart_opposite b (exchange k l j)) ∙ ap opposite (sym (swap_dart b j)))

  -- the tail darts and the head darts, one after the other
  exchange_dart : (b : Bool) (j : ℕ) → exchange (dart b k) (dart b l) (dart b j) ≡ dart b (exchange k l j)
  exchange_dart b j = by_cases (ℕ_discrete j k)
      (λ e. cc (exchange_first (dart b k) (dart b l), exchange_first k l))
      (λ e. by_cases (ℕ_discrete j l)
      (λ f. cc (exchange_second (dart b k) (dart b l), exchange_second k l))
      (λ f. exchange_other (dart b k) (dart b l) (λ q. e (same_edge j k q)) (λ q. f (same_edge j l q)) ∙ ap (dart b) (sym (exchange_other k l e f))))
    where
      same_edge : (x y : ℕ) → dart b x ≡ dart b y → x ≡ y
      same_edge x y q = sym (dart_edge b x) ∙ ap (λ d. d / 2) q ∙ dart_edge b y

  pub swap_both : (d : ℕ) → exchange (tail_dart k) (tail_dart l) (exchange (head_dart k) (head_dart l) d) ≡ swap k l d
  swap_both = each_dart (λ d. exchange (tail_dart k) (tail_dart l) (exchange (head_dart k) (head_dart l) d) ≡ swap k l d) each
    where
      each : (b : Bool) (j : ℕ) → exchange (tail_dart k) (tail_dart l) (exchange (head_dart k) (head_dart l) (dart b j)) ≡ swap k l (dart b j)
      each true j =
          ap (exchange (tail_dart k) (tail_dart l)) (exchange_other (head_dart k) (head_dart l) (λ q. omega arith) (λ q. omega arith))
          ∙ exchange_dart true j ∙ sym (swap_dart true j)
      each false j =
          ap (exchange (tail_dart k) (tail_dart l)) (exchange_dart false j)
          ∙ exchange_other (tail_dart k) (tail_dart l) (λ q. omega arith) (λ q. omega arith) ∙ sym (swap_dart false j)

-- of the edges of a sheet
module _ (s : Sheet) (k l : ℕ) (h : k < s.edges) (i : l < s.edges) where
  edges : Bijection s.edges (exchange k l) (exchange k l)
  edges = exchange_bijection k l h i

  pub swap_back : (d : ℕ) → d < darts s → swap k l (swap k l d) ≡ d
  swap_back = by_dart s (λ d. swap k l (swap k l d) ≡ d)
      (λ b j g. ap (swap k l) (swap_dart k l b j) ∙ swap_dart k l b (exchange k l j) ∙ ap (dart b) (edges.from_to j g))

  pub swap_below : (d : ℕ) → d < darts s → swap k l d < darts s
  swap_below = by_dart s (λ d. swap k l d < darts s) (λ b j g. rw (swap_dart k l b j) (dart_below b (edges.to_below j g)))

  -- a dart comes from where it goes
  pub swap_from : (d e : ℕ) → d < darts s → swap k l d ≡ e → d ≡ swap k l e
  swap_from d e g q = sym (swap_back d g) ∙ ap (swap k l) q

  -- if l is the last edge, the darts before it are those of the edges other than k
  module _ (last : suc l ≡ s.edges) where
    pub swap_low : (b : Bool) (j : ℕ) → j < s.edges → j ≢ k → swap k l (dart b j) < 2 * l
    swap_low b j g n =
        let other : exchange k l j ≢ l = λ q. n (sym (edges.from_to j g) ∙ ap (exchange k l) q ∙ exchange_second k l) in
        rw (swap_dart k l b j) (dart_below b (omega (arith, edges.to_below j g)))

    low_not : (b : Bool) (d : ℕ) → d < 2 * l → d ≢ dart b l
    low_not true d g q = omega arith
    low_not false d g q = omega arith

    pub swap_not : (b : Bool) (d : ℕ) → d < 2 * l → swap k l d ≢ dart b k
    swap_not b d g q = low_not b d g (swap_from d (dart b k) (omega arith) q ∙ swap_first k l b)

    pub swap_high : (b : Bool) (d : ℕ) → swap k l d < 2 * l → d ≢ dart b k
    swap_high b d g q = low_not b (swap k l d) g (ap (swap k l) q ∙ swap_first k l b)

  pub swap_bijection : Bijection (darts s) (swap k l) (swap k l)
  swap_bijection = record { to_below = swap_below; from_below = swap_below; from_to = swap_back; to_from = swap_back }

-- The map of a sheet, the edges k and l with each other's numbers, the vertices renumbered by ρ, which undoes itself.
abbrev pub exchanged : Sheet → ℕ → ℕ → (ℕ → ℕ) → Map
exchanged s k l ρ = renumber (map_of s) (swap k l) (swap k l) ρ ρ

module _ (s : Sheet) (k l : ℕ) (ρ : ℕ → ℕ) (h : k < s.edges) (i : l < s.edges) where
  pub exchanged_plane : Sound s → Bijection s.vertices ρ ρ → ρ 0 ≡ 0 → ρ 1 ≡ 1 → Plane (exchanged s k l ρ)
  exchanged_plane S vertices source sink = renumber_plane (plane_of S) (swap_bijection s k l h i) vertices source sink

  exchanged_opposite : (d : ℕ) → d < darts s → (exchanged s k l ρ).opposite d ≡ opposite d
  exchanged_opposite d g = swap_opposite k l (swap k l d) ∙ ap opposite (swap_back s k l h i d g)

  -- it has the last edge more than the map of a sheet with one edge fewer
  pub exchanged_grown : (s' : Sheet) (r : ℕ → ℕ) → s.edges ≡ s'.edges + 1 → k ≢ 0 → l ≢ 0 → Grown (map_with s' r) (exchanged s k l ρ)
  exchanged_grown s' r e n o =
      let m = s'.edges in
      let g = new_head s' in
      record {
        darts = omega arith;
        edges = omega arith;
        root = swap_dart k l true 0 ∙ ap tail_dart (exchange_other k l (λ q. n (sym q)) (λ q. o (sym q)));
        paired = record {
          at_x = exchanged_opposite (tail_dart m) (omega arith) ∙ dart_opposite true m ∙ sym g;
          at_y = exchanged_opposite (suc (darts s')) (omega arith) ∙ ap opposite g ∙ dart_opposite false m;
          rest = λ {d} b. exchanged_opposite d (omega arith);
        };
        tail_out = swap_kind k l (tail_dart m) ∙ dart_kind true m;
        head_in = swap_kind k l (suc (darts s')) ∙ ap is_tail g ∙ dart_kind false m;
        out_rest = λ {d} b. swap_kind k l d;
      }
