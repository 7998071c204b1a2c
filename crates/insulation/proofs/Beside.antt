-- The edges beside a face: there is one; and where the row of a tail beside it is at least r, of another less, the walk of the face goes down past r.
-- Assumes nothing.
use Rattle.std.proofs.Common.{◌≡◌, refl, sym, ◌∙◌, ap, ◌≢◌, inl, inr, Bool, true, false, cond, ℕ, ◌≤◌, ◌<◌, leb, leb-true, leb-false, le-leb, arith}
use Rattle.std.proofs.Math.Decide.{ℕ_discrete}
use Rattle.std.proofs.lemmas.Bool.{lt-leb}
use Rattle.counting.proofs.Iterate.{by_bool, turn_between}
use Rattle.planarmap.specs.Map.{Map, Bipolar, Plane, walk}
use Rattle.planarmap.proofs.Laws.{walk_below, walk_vertex, walk_face, opposite_is}
use Rattle.planarmap.proofs.Ends.{ends}
use Rattle.planarmap.proofs.Order.{sides_differ}
use Rattle.insulation.specs.Mask.{Beside, AllBeside}

pub all_beside : {M : Map} → Plane M → 1 < M.edges → AllBeside M
all_beside {M} P h f l = elim (ℕ_discrete f (M.face (M.opposite M.root))) [
  | no n ↦ let (e, E, k, q) = (ends P).entered l n in (e, record { edge = E; not_root = k; side = inr q })
  | yes z ↦
      let B = P.bipolar in
      let n : f ≢ M.face M.root = λ q. sides_differ P h M.root (record { below = B.root_below; is_out = B.root_out }) (sym q ∙ z) in
      let (e, E, k, q) = (ends P).passed l n in
      (e, record { edge = E; not_root = k; side = inl q })
]

-- the row of the tail of a dart's edge
unfoldable tail_row : Map → ℕ → ℕ
tail_row M d = cond (M.out d) (M.row (M.vertex d)) (M.row (M.vertex (M.opposite d)))

-- From the dart d of the face f the walk goes down an edge, past row r; d's edge is wholly above r, or goes down to it.
pub record Past (M : Map) (f r d : ℕ) : Type 0 where
  pub below : d < M.darts
  pub face : M.face d ≡ f
  pub down : M.out (walk M d) ≡ false
  pub to : M.row (M.vertex (M.opposite (walk M d))) < r
  pub from : r ≤ M.row (M.vertex (M.opposite d))
  pub comes_down : M.row (M.vertex (M.opposite d)) ≤ r → M.out d ≡ false

module _ {M : Map} (B : Bipolar M) where
  tail_row_law : (b : Bool) (d : ℕ) → M.out d ≡ b → tail_row M d ≡ cond b (M.row (M.vertex d)) (M.row (M.vertex (M.opposite d)))
  unfolding tail_row
  tail_row_law b d o = rw o refl

  -- a dart of the walk of f
  record In (f d : ℕ) : Type 0 where
    below : d < M.darts
    face : M.face d ≡ f

  -- an edge beside f has one
  dart_of : {f e : ℕ} → Beside M f e → (d : ℕ) × In f d × (tail_row M d ≡ M.row (M.vertex e))
  dart_of {f} {e} S = elim S.side [
    | inl q ↦ (e, record { below = S.edge.below; face = q }, tail_row_law true e S.edge.is_out)
    | inr q ↦ (
      M.opposite e,
      record { below = B.opposite_below S.edge.below; face = q },
      tail_row_law false (M.opposite e) (opposite_is B S.edge.below S.edge.is_out) ∙ ap (λ d. M.row (M.vertex d)) (B.opposite_opposite S.edge.below),
    )
  ]

  -- where the tail of the edge of a dart is not below row r, and that of the next one is
  turned : {f r d : ℕ} → In f d → r ≤ tail_row M d → tail_row M (walk M d) < r → Past M f r d
  turned {f} {r} {d} D from to =
      let x = walk M d in
      let no_higher : tail_row M d ≤ M.row (M.vertex (M.opposite d))
      = by_bool (M.out d) (λ o. omega (arith, tail_row_law true d o, B.rises D.below o)) (λ i. omega (arith, tail_row_law false d i)) in
      let down : M.out x ≡ false
      = by_bool (M.out x) (λ o. absurd (omega (arith, no_higher, tail_row_law true x o, ap M.row (walk_vertex B D.below)))) (λ i. i) in
      record {
        below = D.below;
        face = D.face;
        down = down;
        to = omega (arith, tail_row_law false x down);
        from = omega (arith, no_higher);
        comes_down = λ l. by_bool (M.out d) (λ o. absurd (omega (arith, tail_row_law true d o, B.rises D.below o))) (λ i. i);
      }

  -- so between a tail beside f that is not below r and one that is
  pub past : {f r a b : ℕ} → Beside M f a → Beside M f b → M.row (M.vertex a) < r → r ≤ M.row (M.vertex b) → (d : ℕ) × Past M f r d
  past {f} {r} S T up down =
      let (d, D, p) = dart_of T in
      let (e, E, q) = dart_of S in
      let (i, there) = B.walks.joins d e D.below E.below (D.face ∙ sym E.face) in
      let test : ℕ → Bool = λ x. leb r (tail_row M x) in
      let (x, X, t, u) = turn_between (walk M) test true (In f)
      (λ x X. record { below = walk_below B X.below; face = walk_face B X.below ∙ X.face })
      i d D (le-leb r (tail_row M d) (omega arith)) (ap test there ∙ lt-leb r (tail_row M e) (omega arith)) in
      (x, turned X (leb-true r (tail_row M x) t) (leb-false r (tail_row M (walk M x)) u))
