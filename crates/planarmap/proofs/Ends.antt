-- Only the root has the root's right face on its right, or the root's left face on its left; every other face is beside another edge.
use Rattle.std.proofs.Common.{◌≡◌, refl, sym, ◌∙◌, ap, Bool, true, false, not, inl, inr, ℕ, ◌<◌}
use Rattle.std.proofs.Math.Bool.{not-not}
use Rattle.counting.proofs.Iterate.{either}
use Rattle.planarmap.specs.Map.{Map, Bipolar, Plane}
use Rattle.planarmap.specs.Corners.{Corner, corner_face}
use Rattle.planarmap.specs.Order.{Ends}
use Rattle.planarmap.proofs.Laws.{differ, root_dart, next_below, face_next, opposite_is, opposite_one_one, nearer, by_rows, root_below, root_opposite, pole}
use Rattle.planarmap.proofs.Corners.{has_corners, one_corner}

module _ {M : Map} (P : Plane M) where
  B : Bipolar M
  B = P.bipolar

  one_extreme : (b : Bool) {d e : ℕ} → Corner M b b d → Corner M b b e → corner_face M d ≡ corner_face M e → d ≡ e
  one_extreme true = (one_corner P).bottom
  one_extreme false = (one_corner P).top

  -- along the face on the far side of d, away from d, to the corner where the walk turns: it is the root's
  root_end : (b : Bool) (d : ℕ) → d < M.darts → M.out d ≡ b → M.face (M.opposite d) ≡ M.face (M.opposite (root_dart M b)) → d ≡ root_dart M b
  root_end b = by_rows B b (λ d. M.out d ≡ b → M.face (M.opposite d) ≡ M.face (M.opposite (root_dart M b)) → d ≡ root_dart M b) (λ d h ih o p.
      let r = root_below B b in
      let n = next_below B h in
      let back = B.opposite_opposite n in
      elim (either (M.out (M.next d)) b) [
        | inl q ↦ one_extreme b
            (record { below = h; first = o; second = q })
            (record { below = r; first = pole B b r refl; second = pole B b (next_below B r) (B.next_vertex r) })
            (face_next B h ∙ p ∙ sym (face_next B r))
        | inr q ↦
            let x = M.opposite (M.next d) in
            let k = B.opposite_below n in
            let kind : M.out x ≡ b = opposite_is B n q ∙ not-not b in
            let at_d : M.vertex (M.opposite x) ≡ M.vertex d = ap M.vertex back ∙ B.next_vertex h in
            let is_root = ih x k (rw at_d at (nearer B b k kind)) kind (ap M.face back ∙ face_next B h ∙ p) in
            differ b o (pole B (not b) h (sym at_d ∙ ap (λ y. M.vertex (M.opposite y)) is_root ∙ ap M.vertex (root_opposite B b)))
      ])

  pub ends : Ends M
  ends = record {
    right = λ {e} E p. root_end true e E.below E.is_out p;
    left = λ {e} E p. opposite_one_one B E.below B.root_below (root_end false (M.opposite e) (B.opposite_below E.below) (opposite_is B E.below E.is_out)
        (ap M.face (B.opposite_opposite E.below) ∙ p ∙ ap M.face (sym (B.opposite_opposite B.root_below))));
    entered = λ {c} h n.
        let (d, K, p) = (has_corners B).top h in
        let k = next_below B K.below in
        let q = ap M.face (B.opposite_opposite k) ∙ p in (
          M.opposite (M.next d),
          record { below = B.opposite_below k; is_out = opposite_is B k K.second },
          (λ is_root. n (sym q ∙ ap (λ x. M.face (M.opposite x)) is_root)),
          q,
        );
    passed = λ {c} h n.
        let (d, K, p) = (has_corners B).bottom h in
        (M.next d, record { below = next_below B K.below; is_out = K.second }, (λ is_root. n (sym p ∙ ap M.face is_root)), p);
  }
