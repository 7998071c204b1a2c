-- The edges of a vertex stand between the faces to its left and to its right; so vertices that begin at their edges and go on to the face to their
-- right are within the limits, and reach all their edges.
use Rattle.std.proofs.Common.{◌≡◌, refl, sym, ap, Bool, true, false, ℕ, ◌≤◌, ◌<◌, arith, leb-true, leb-false, le-leb}
use Rattle.std.proofs.Math.Decide.{ℕ_discrete}
use Rattle.std.proofs.lemmas.Bool.{lt-leb}
use Rattle.counting.proofs.Iterate.{by_bool}
use Rattle.planarmap.specs.Map.{Map, Bipolar, Plane}
use Rattle.planarmap.specs.Corners.{Left, Right, corner_face, OneCorner}
use Rattle.planarmap.specs.Columns.{ColumnLaws}
use Rattle.planarmap.specs.Contact.{Extent, edge_column, Least, Long, Reaches}
use Rattle.planarmap.proofs.Laws.{off_root}
use Rattle.planarmap.proofs.Corners.{has_corners, one_corner}
use Rattle.planarmap.proofs.Frontier.{from_corner, to_corner}
use Rattle.planarmap.proofs.Contact.{left_at, closed, front_at, rises_at}

pub column_of_law : (M : Map) (column : ℕ → ℕ) (b : Bool) (d : ℕ) → M.out d ≡ b → edge_column M column d ≡ left_at M column b d
unfolding edge_column
column_of_law M column true d o = rw o
column_of_law M column false d o = rw o

module _ {M : Map} (P : Plane M) {column : ℕ → ℕ} (L : ColumnLaws M column) where
  B : Bipolar M
  B = P.bipolar

  K : OneCorner M
  K = one_corner P

  abbrev at : ℕ → ℕ
  at d = column (M.face d)

  pub left_span : {l d : ℕ} → Left M l → d < M.darts → M.vertex d ≡ M.vertex l → column (corner_face M l) ≤ edge_column M column d
  left_span {l} {d} A h e =
      by_bool (M.out d)
      (λ o. rw (column_of_law M column true d o)
      (leb-true (at (M.next l)) (at d) (from_corner B (closed P L (at d)) K true A h e o (le-leb (at d) (at d) (omega arith)))))
      (λ i.
      let c = at (M.opposite d) in
      rw (column_of_law M column false d i)
      (leb-true (at (M.next l)) c (to_corner B (closed P L c) K false A (off_root B A refl false)
      (front_at P L false h i (omega arith) (rises_at P L false h i (off_root B A e false))) e)))

  pub right_span : {k d : ℕ} → Right M k → d < M.darts → M.vertex d ≡ M.vertex k → edge_column M column d < column (corner_face M k)
  right_span {k} {d} A h e =
      by_bool (M.out d)
      (λ o. rw (column_of_law M column true d o)
      (leb-false (at (M.next k)) (at d) (to_corner B (closed P L (at d)) K true A (off_root B A refl true)
      (front_at P L true h o (omega arith) (rises_at P L true h o (off_root B A e true))) e)))
      (λ i.
      let c = at (M.opposite d) in
      rw (column_of_law M column false d i)
      (leb-false (at (M.next k)) c (from_corner B (closed P L c) K false A h e i (lt-leb (at d) c (rises_at P L false h i (off_root B A e false))))))

  -- ---- how a vertex is drawn

  from_least : {l k : ℕ} → Left M l → Least M column (M.vertex l) k → column (corner_face M l) ≤ k
  from_least A F = let (d, h, e, p) = F.found in omega (arith, left_span A h e)

  module _ {first last : ℕ → ℕ} where
    pub long_extent : Long M column first last → Extent M column first last
    long_extent F = record {
      from_left = λ A. from_least A (F.begins (B.vertex_below A.below));
      to_right = λ A. omega (arith, F.ends A);
    }

    pub long_reaches : Long M column first last → Reaches M column first last
    long_reaches F d h = (
      (F.begins (B.vertex_below h)).least d h refl,
      elim (ℕ_discrete (M.vertex d) 0) [
        | yes z ↦ omega (arith, F.source.greatest d h z, ap last z)
        | no n0 ↦ elim (ℕ_discrete (M.vertex d) 1) [
          | yes z ↦ omega (arith, F.sink.greatest d h z, ap last z)
          | no n1 ↦
              let (k, A, e) = (has_corners B).right (B.vertex_below h) n0 n1 in
              omega (arith, F.ends A, right_span A h (sym e), ap last e)
        ]
      ],
    )
