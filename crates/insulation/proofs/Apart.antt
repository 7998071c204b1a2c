-- In whole numbers plate and mask are apart: by the chain lemma, for the faces up to a column. Assumes nothing.
use Rattle.std.proofs.Common.{◌≡◌, sym, ◌∙◌, ap, ◌≢◌, inl, inr, false, ℕ, ◌-◌, ◌≤◌, ◌<◌, arith}
use Rattle.std.proofs.Math.Decide.{ℕ_discrete}
use Rattle.counting.proofs.Iterate.{clash}
use Rattle.planarmap.specs.Map.{Map, Bipolar, Plane, walk}
use Rattle.planarmap.specs.Order.{Edge}
use Rattle.planarmap.specs.Columns.{ColumnLaws}
use Rattle.planarmap.specs.Contact.{Extent}
use Rattle.planarmap.proofs.Laws.{walk_below, walk_vertex, walk_face, opposite_is}
use Rattle.planarmap.proofs.Frontier.{flip}
use Rattle.planarmap.proofs.Chain.{at_source, at_sink, chain}
use Rattle.planarmap.proofs.Contact.{closed, front_at, rises_at, last_at, covers, chain_lemma}
use Rattle.insulation.specs.Mask.{Beside, Uprights, MaskApart}
use Rattle.insulation.proofs.Beside.{Past, past}

module _ {M : Map} (P : Plane M) {column : ℕ → ℕ} (L : ColumnLaws M column) where
  B : Bipolar M
  B = P.bipolar

  abbrev row_at : ℕ → ℕ
  row_at d = M.row (M.vertex d)

  -- d and e cross the column of d, so d would end below the level of e
  edge_level : {d e : ℕ} → Edge M d → Edge M e → e ≢ M.root → d ≢ e → column (M.face e) ≤ column (M.face d)
      → column (M.face d) < column (M.face (M.opposite e)) → row_at d ≤ row_at e → row_at e < row_at (M.opposite d) → ⊥
  edge_level {d} {e} D E n other l r up down = elim (ℕ_discrete d M.root) [
    | yes z ↦ omega (arith, last_at P L (B.opposite_below E.below), ap (λ x. column (M.face x)) z)
    | no k ↦
        elim (chain_lemma P L (column (M.face d)) d e
        (record { edge = D; not_root = k; left = omega arith; right = L.rises d D k }) (record { edge = E; not_root = n; left = l; right = r }) up) [
          | inl q ↦ other q
          | inr u ↦ omega arith
        ]
  ]

  module _ {first last : ℕ → ℕ} (X : Extent M column first last) where
    -- Where the walk of f goes down past the row of v, its edge w there crosses the column before f, and so does an edge that leaves v. So w ends at v, and
    -- the walk comes down to v and goes on down: f is to the right of v, and v ends before the column of f.
    inner : {v f d : ℕ} → v < M.vertices → v ≢ 0 → v ≢ 1 → first v < column f → column f ≤ last v → Past M f (M.row v) d → ⊥
    inner {v} {f} {d} h n0 n1 l r D =
        let c = column f - 1 in
        let x = walk M d in
        let k : x < M.darts = walk_below B D.below in
        let at_f = walk_face B D.below ∙ D.face in
        let not_root : x ≢ M.opposite M.root = λ z. omega (arith, L.first, ap column (sym at_f ∙ ap M.face z)) in
        let left = rises_at P L false k D.down not_root in
        let W = flip B (closed P L c) (front_at P L false {c = c} k D.down (omega (arith, ap column at_f)) (omega (arith, ap column at_f))) in
        let (y, same, Y) = covers P L X {c = c} h n0 n1 (omega arith) (omega arith) in
        elim (chain P (closed P L c) W Y (omega (arith, D.to, ap M.row same))) [
          | inl q ↦ omega (arith, D.to, ap row_at q, ap M.row same)
          | inr u ↦
              let head : M.vertex (M.opposite (M.opposite x)) ≡ M.vertex (M.opposite d) = ap M.vertex (B.opposite_opposite k) ∙ walk_vertex B D.below in
              let at_v : M.vertex (M.opposite d) ≡ v = sym head ∙ u.meeting (omega (arith, D.from, u.not_above, ap M.row head, ap M.row same)) ∙ same in
              let comes = D.comes_down (omega (arith, ap M.row at_v)) in
              omega (arith, X.to_right (record { below = B.opposite_below D.below; first = opposite_is B D.below comes; second = D.down }), ap last at_v, ap column at_f)
        ]

    vertex_upright : {v f a b : ℕ} → v < M.vertices → first v < column f → column f ≤ last v
        → Beside M f a → Beside M f b → row_at a < M.row v → M.row v ≤ row_at b → ⊥
    vertex_upright {v} {f} {a} {b} h l r S T up down = elim (ℕ_discrete v 0) [
      | yes z ↦ omega (arith, ap M.row (at_source B (B.vertex_below S.edge.below) (omega (arith, ap M.row z))), ap M.row z)
      | no n0 ↦ elim (ℕ_discrete v 1) [
        | yes z ↦ clash T.edge.is_out (B.sink T.edge.below (at_sink B (B.vertex_below T.edge.below) (omega (arith, ap M.row z))))
        | no n1 ↦ let (d, D) = past B S T up down in inner h n0 n1 l r D
      ]
    ]

    pub mask_apart : {low high : ℕ → ℕ} → Uprights M low high → MaskApart M column first last low high
    mask_apart U = record {
      edge_level = edge_level;
      vertex_upright = λ h k l r up down.
          let (a, S, p) = (U.begins k).found in
          let (b, T, q) = (U.ends k).found in
          vertex_upright h l r S T (omega arith) (omega arith);
    }
