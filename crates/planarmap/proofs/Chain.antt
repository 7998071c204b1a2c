-- The chain lemma: the front edges of a closed set stand one above the other.
use Rattle.std.proofs.Common.{◌≡◌, sym, ◌∙◌, ap, Bool, true, false, not, ◌≢◌, ◌⊎◌, inl, inr, ℕ, zero, suc, ◌+◌, ◌≤◌, ◌<◌, arith}
use Rattle.std.proofs.Math.Bool.{not-not}
use Rattle.std.proofs.Math.Decide.{ℕ_discrete, dec_le}
use Rattle.planarmap.specs.Map.{Map, Bipolar, Plane}
use Rattle.planarmap.specs.Contact.{RowEnds, Under}
use Rattle.planarmap.proofs.Laws.{root_dart, Nearer, nearer_trans, falls, opposite_is, nearer, by_rows}
use Rattle.planarmap.proofs.Corners.{one_corner}
use Rattle.planarmap.proofs.Frontier.{Closed, Front, flip, partner, one_front}

module _ {M : Map} (B : Bipolar M) where
  -- a vertex other than one of the root's has a dart of the other kind
  has : (b : Bool) {v : ℕ} → v < M.vertices → v ≢ M.vertex (root_dart M b) → (d : ℕ) × (d < M.darts) × (M.vertex d ≡ v) × (M.out d ≡ not b)
  has true h n = B.has_in h (λ e. n (e ∙ sym B.root_tail))
  has false h n = B.has_out h (λ e. n (e ∙ sym B.root_head))

  -- so the root's tail is below every other vertex, and its head above
  outermost : (b : Bool) (d : ℕ) → d < M.darts → M.vertex d ≢ M.vertex (root_dart M b) → Nearer M b (M.vertex (root_dart M b)) (M.vertex d)
  outermost b = by_rows B b (λ d. M.vertex d ≢ M.vertex (root_dart M b) → Nearer M b (M.vertex (root_dart M b)) (M.vertex d)) (λ d h ih n.
      let (x, k, same, i) = has b (B.vertex_below h) n in
      let y = B.opposite_below k in
      let step : Nearer M b (M.vertex (M.opposite x)) (M.vertex d) = rw same at (rw (B.opposite_opposite k) at (nearer B b y (opposite_is B k i ∙ not-not b))) in
      elim (ℕ_discrete (M.vertex (M.opposite x)) (M.vertex (root_dart M b))) [
        | yes z ↦ rw z at step
        | no z ↦ nearer_trans M b (M.vertex (root_dart M b)) (M.vertex (M.opposite x)) (M.vertex d) (ih (M.opposite x) y step z) step
      ])

  pub row_ends : RowEnds M
  row_ends = record {
    lowest = λ {v} h n. let (d, k, same, _) = B.has_in h n in rw (same, B.root_tail) at (outermost true d k (λ z. n (sym same ∙ z ∙ B.root_tail)));
    highest = λ {v} h n. let (d, k, same, _) = B.has_out h n in rw (same, B.root_head) at (outermost false d k (λ z. n (sym same ∙ z ∙ B.root_head)));
  }

  -- a vertex not above vertex 0 is vertex 0, and one not below vertex 1 is vertex 1
  pub at_source : {v : ℕ} → v < M.vertices → M.row v ≤ M.row 0 → v ≡ 0
  at_source {v} h k = elim (ℕ_discrete v 0) [ yes e ↦ e | no n ↦ absurd (omega (arith, row_ends.lowest h n)) ]

  pub at_sink : {v : ℕ} → v < M.vertices → M.row 1 ≤ M.row v → v ≡ 1
  at_sink {v} h k = elim (ℕ_discrete v 1) [ yes e ↦ e | no n ↦ absurd (omega (arith, row_ends.highest h n)) ]

module _ {M : Map} (P : Plane M) {S : ℕ → Bool} (C : Closed M S) where
  B : Bipolar M
  B = P.bipolar

  tails : {d e : ℕ} → Front M S true d → Front M S true e → M.vertex d ≡ M.vertex e → d ≡ e
  tails = one_front B C (one_corner P)

  -- by induction on the rows of the tails: compare d with the front edge that ends where e begins
  chain_at : (k d e : ℕ) → M.row (M.vertex d) + M.row (M.vertex e) < k → Front M S true d → Front M S true e
      → M.row (M.vertex d) ≤ M.row (M.vertex e) → (d ≡ e) ⊎ Under M d e
  chain_at zero d e h D E o = absurd (omega arith)
  chain_at (suc k) d e h D E o =
      let (y, same, ends) = partner B C false E in
      elim ends [
        | inr (is_root, _) ↦
            let z : M.vertex e ≡ 0 = sym same ∙ ap M.vertex is_root ∙ B.root_tail in
            inl (tails D E (at_source B (B.vertex_below D.below) (omega (arith, ap M.row z)) ∙ sym z))
        | inl Y ↦
            let w = M.opposite y in
            let W : Front M S true w = flip B C Y in
            let head : M.vertex (M.opposite w) ≡ M.vertex e = ap M.vertex (B.opposite_opposite Y.below) ∙ same in
            let up : M.row (M.vertex w) < M.row (M.vertex e) = omega (arith, falls B Y.below Y.kind, ap M.row same) in
            elim (dec_le (M.row (M.vertex d)) (M.row (M.vertex w))) [
              | yes p ↦ elim (chain_at k d w (omega arith) D W p) [
                | inl q ↦
                    let joint : M.vertex (M.opposite d) ≡ M.vertex e = ap (λ x. M.vertex (M.opposite x)) q ∙ head in
                    inr (record { not_above = omega (arith, ap M.row joint); meeting = λ _. joint })
                | inr u ↦ inr (record { not_above = omega arith; meeting = λ q. absurd (omega arith) })
              ]
              | no p ↦ elim (chain_at k w d (omega arith) W D (omega arith)) [
                | inl q ↦ absurd (omega (arith, ap (λ x. M.row (M.vertex x)) q))
                | inr u ↦ inl (tails D E (sym (u.meeting (omega (arith, ap M.row head))) ∙ head))
              ]
            ]
      ]

  pub chain : {d e : ℕ} → Front M S true d → Front M S true e → M.row (M.vertex d) ≤ M.row (M.vertex e) → (d ≡ e) ⊎ Under M d e
  chain {d} {e} = chain_at (suc (M.row (M.vertex d) + M.row (M.vertex e))) d e (omega arith)
