-- Columns exist, rise across every edge but the root, and are fewer than the faces.
use Rattle.std.proofs.Common.{◌≡◌, refl, ap, ◌≢◌, ℕ, suc, ◌-◌, ◌≤◌, ◌<◌, arith}
use Rattle.std.proofs.Math.Decide.{ℕ_discrete, dec_lt}
use Rattle.counting.specs.Paths.{Circle, Longest}
use Rattle.counting.specs.Paths.Path.{more}
use Rattle.counting.proofs.Iterate.{by_bool, clash}
use Rattle.counting.proofs.Pigeonhole.{find}
use Rattle.counting.proofs.Pigeonhole.Found.{at, nowhere}
use Rattle.counting.proofs.Paths.{rank_path, no_circle, short, reached, longest}
use Rattle.planarmap.specs.Map.{Map, Bipolar, Plane}
use Rattle.planarmap.specs.Order.{Edge}
use Rattle.planarmap.specs.Columns.{FaceStep, Column, FaceGraph, ColumnLaws}
use Rattle.planarmap.specs.Columns.FaceStep.{across, over_root}
use Rattle.planarmap.proofs.Laws.{by_size}
use Rattle.planarmap.proofs.Ends.{ends}
use Rattle.planarmap.proofs.Order.{face_order, root_rises}

-- ---- steps between faces

-- across e, which is not the root
record Across (M : Map) (b c e : ℕ) : Type 0 where
  edge : Edge M e
  not_root : e ≢ M.root
  left : M.face e ≡ b
  right : M.face (M.opposite e) ≡ c

across? : (M : Map) (b c e : ℕ) → Dec (Across M b c e)
across? M b c e = elim (dec_lt e M.darts) [
  | no k ↦ no (λ a. k a.edge.below)
  | yes h ↦
      by_bool (M.out e)
      (λ o. elim (ℕ_discrete e M.root) [
        | yes r ↦ no (λ a. a.not_root r)
        | no r ↦ elim (ℕ_discrete (M.face e) b) [
          | no k ↦ no (λ a. k a.left)
          | yes p ↦ elim (ℕ_discrete (M.face (M.opposite e)) c) [
            | no k ↦ no (λ a. k a.right)
            | yes q ↦ yes (record { edge = record { below = h; is_out = o }; not_root = r; left = p; right = q })
          ]
        ]
      ])
      (λ o. no (λ a. clash a.edge.is_out o))
]

module _ {M : Map} (P : Plane M) where
  B : Bipolar M
  B = P.bipolar

  start : ℕ
  start = M.face (M.opposite M.root)

  root_inside : (M.face M.root < M.faces) × (M.face (M.opposite M.root) < M.faces)
  root_inside = (B.walks.inside M.root B.root_below, B.walks.inside (M.opposite M.root) (B.opposite_below B.root_below))

  step_below : (b c : ℕ) → FaceStep M b c → b < M.faces
  step_below b c (across {e} E n p q) = rw p at (B.walks.inside e E.below)
  step_below b c (over_root p q) = omega (arith, root_inside)

  step_into : (b c : ℕ) → FaceStep M b c → c < M.faces
  step_into b c (across {e} E n p q) = rw q at (B.walks.inside (M.opposite e) (B.opposite_below E.below))
  step_into b c (over_root p q) = omega (arith, root_inside)

  -- a rank of the faces rises along each step
  acyclic : 1 < M.edges → ¬ Circle (FaceStep M)
  acyclic h = no_circle (face_order P).0 rises
    where
      rises : (b c : ℕ) → FaceStep M b c → (face_order P).0 b < (face_order P).0 c
      rises b c (across {e} E n p q) = rw (p, q) at ((face_order P).1 e E n)
      rises b c (over_root p q) = rw (p, q) at (root_rises P h)

  prior : (c : ℕ) → c < M.faces → c ≢ start → (b : ℕ) × FaceStep M b c
  unfolding start
  prior c h n = let (e, E, k, q) = (ends P).entered h n in (M.face e, across E k refl q)

  pub face_graph : 1 < M.edges → FaceGraph M
  unfolding start
  face_graph h = record { no_circle = acyclic h; reached = reached M.faces step_below start prior (acyclic h) }

  -- ---- columns

  step? : (b c : ℕ) → Dec (FaceStep M b c)
  step? b c = elim (find (Across M b c) (across? M b c) M.darts) [
    | at e h a _ ↦ yes (across a.edge a.not_root a.left a.right)
    | nowhere none ↦ elim (ℕ_discrete (M.face (M.opposite M.root)) b) [
      | yes p ↦ elim (ℕ_discrete (M.face M.root) c) [
        | yes q ↦ yes (over_root p q)
        | no k ↦ no (λ s. only_across none s (λ _ q. k q))
      ]
      | no k ↦ no (λ s. only_across none s (λ p _. k p))
    ]
  ]
    where
      only_across : ((e : ℕ) → e < M.darts → ¬ Across M b c e) → FaceStep M b c → (M.face (M.opposite M.root) ≡ b → M.face M.root ≡ c → ⊥) → ⊥
      only_across none (across {e} E n p q) k = none e E.below (record { edge = E; not_root = n; left = p; right = q })
      only_across none (over_root p q) k = k p q

  pub columns : 1 < M.edges → (column : ℕ → ℕ) × Column M column
  unfolding start
  columns h = (λ c. (at_face c (dec_lt c M.faces)).0, λ c l. (at_face c (dec_lt c M.faces)).1 l)
    where
      at_face : (c : ℕ) → Dec (c < M.faces) → (k : ℕ) × (c < M.faces → Longest (FaceStep M) start c k)
      at_face c (yes l) =
          let G = face_graph h in
          let (j, path) = G.reached c l in
          let (k, L) = longest M.faces step_below step? G.no_circle l path in
          (k, λ _. L)
      at_face c (no n) = (0, λ l. absurd (n l))

  pub column_laws : {column : ℕ → ℕ} → Column M column → ColumnLaws M column
  unfolding start
  column_laws {column} C = record {
    rises = λ e E n. rises (M.face e) (M.face (M.opposite e)) (across E n refl refl);
    first = omega (arith, rank_path column rises (C start start_below).path);
    last = λ {c} h. last c h;
    fewer = λ {c} h. fewer c h;
  }
    where
      rises : (b c : ℕ) → FaceStep M b c → column b < column c
      rises b c s = (C c (step_into b c s)).most (suc (column b)) (more (C b (step_below b c s)).path s)

      start_below : start < M.faces
      start_below = root_inside.1

      fewer : (c : ℕ) → c < M.faces → column c < M.faces
      fewer c h = short M.faces step_below (no_circle column rises) h (C c h).path

      last : (c : ℕ) → c < M.faces → column c ≤ column (M.face M.root)
      last = by_size (λ c. M.faces - column c) (λ c. c < M.faces → column c ≤ column (M.face M.root)) (λ c ih h. elim (ℕ_discrete c (M.face M.root)) [
        | yes q ↦ omega (arith, ap column q)
        | no q ↦
            let (e, E, n, p) = (ends P).passed h q in
            let s : FaceStep M c (M.face (M.opposite e)) = across E n p refl in
            let up = rises c (M.face (M.opposite e)) s in
            let l = step_into c (M.face (M.opposite e)) s in
            omega (arith, ih (M.face (M.opposite e)) (omega (arith, fewer c h, fewer (M.face (M.opposite e)) l)) l)
      ])
