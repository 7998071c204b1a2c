-- To the right of every vertex but 0 and 1 stands an edge: on the far side of the face to its right, which goes up past the vertex's row.
use Rattle.std.proofs.Common.{◌≡◌, refl, sym, ◌∙◌, ap, true, false, ℕ, ◌≤◌, ◌<◌, arith}
use Rattle.std.proofs.Math.Decide.{dec_le}
use Rattle.counting.proofs.Iterate.{by_bool}
use Rattle.planarmap.specs.Map.{Map, Bipolar, Plane, walk}
use Rattle.planarmap.specs.Corners.{Top, Right, corner_face}
use Rattle.planarmap.specs.Contact.{Neighbour}
use Rattle.planarmap.proofs.Laws.{previous, next_below, walk_below, walk_vertex, walk_face, face_next, opposite_is, falls, by_rows}
use Rattle.planarmap.proofs.Corners.{one_corner}

module _ {M : Map} (P : Plane M) where
  B : Bipolar M
  B = P.bipolar

  abbrev level : ℕ → ℕ
  level d = M.row (M.vertex d)

  -- no walk of a face is above its top
  abbrev Under : ℕ → Type 0
  Under d = (t : ℕ) × Top M t × (corner_face M t ≡ M.face d) × (level d ≤ level t)

  under_top : (d : ℕ) → d < M.darts → Under d
  under_top = by_rows B false Under (λ d h ih.
      let (p, (l, e), q) = previous B h in
      -- the walk that leads to d leaves by the other dart of p
      let y = M.opposite p in
      let k = B.opposite_below l in
      let same : M.face y ≡ M.face d = sym (face_next B l) ∙ ap M.face q in
      by_bool (M.out p)
      (λ o. higher d (ih y k (rw (sym e) (B.rises l o))) same (omega (arith, B.rises l o, ap M.row e)))
      (λ i. by_bool (M.out d)
      (λ o. higher d (ih (walk M d) (walk_below B h) (rw (walk_vertex B h) (B.rises h o))) (walk_face B h) (omega (arith, B.rises h o, ap M.row (walk_vertex B h))))
      (λ i₁. (p, record { below = l; first = i; second = ap M.out q ∙ i₁ }, ap M.face q, omega (arith, ap M.row e)))))
    where
      higher : (d : ℕ) {e : ℕ} → Under e → M.face e ≡ M.face d → level d < level e → Under d
      higher d (t, T, f, l) s h = (t, T, f ∙ s, omega arith)

  module _ {k : ℕ} (R : Right M k) where
    abbrev c : ℕ
    c = corner_face M k

    -- the walk goes down from the vertex, and up again
    rising : (d : ℕ) → d < M.darts → M.face d ≡ c → level d ≤ level k → (u : ℕ) × (u < M.darts) × (M.face u ≡ c) × (M.out u ≡ true) × (level u ≤ level k)
    rising = by_rows B true (λ d. M.face d ≡ c → level d ≤ level k → (u : ℕ) × (u < M.darts) × (M.face u ≡ c) × (M.out u ≡ true) × (level u ≤ level k))
        (λ d h ih f l. by_bool (M.out d)
        (λ o. (d, h, f, o, l))
        (λ i.
        let down : level (walk M d) < level d = omega (arith, falls B h i, ap M.row (walk_vertex B h)) in
        ih (walk M d) (walk_below B h) down (walk_face B h ∙ f) (omega arith)))

    -- it does not turn below the vertex, since the only top of the face is above
    climbing : (d : ℕ) → d < M.darts → M.face d ≡ c → M.out d ≡ true → level d ≤ level k → (e : ℕ) × Neighbour M k e
    climbing = by_rows B false (λ d. M.face d ≡ c → M.out d ≡ true → level d ≤ level k → (e : ℕ) × Neighbour M k e) (λ d h ih f o l.
        let up = ap M.row (walk_vertex B h) in
        elim (dec_le (level k) (level (M.opposite d))) [
          | yes t ↦ (d, record { edge = record { below = h; is_out = o }; beside = f; from = l; to = t })
          | no n ↦ by_bool (M.out (walk M d))
              (λ o₁. ih (walk M d) (walk_below B h) (omega (arith, B.rises h o, up)) (walk_face B h ∙ f) o₁ (omega (arith, up)))
              (λ i.
              let T : Top M (M.opposite d) = record { below = B.opposite_below h; first = opposite_is B h o; second = i } in
              let (t, U, g, m) = under_top (M.opposite k) (B.opposite_below R.below) in
              let one = (one_corner P).top T U (walk_face B h ∙ f ∙ face_next B R.below ∙ sym g) in
              absurd (omega (arith, ap level one, B.rises R.below R.first)))
        ])

    pub neighbour : (e : ℕ) × Neighbour M k e
    neighbour =
        let (u, h, f, o, l) = rising (M.next k) (next_below B R.below) refl (omega (arith, ap M.row (B.next_vertex R.below))) in
        climbing u h f o l
