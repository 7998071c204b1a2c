-- The ring of each bar stands in its order, in the drawing of a sound sheet.
use Rattle.std.proofs.Common.{◌≡◌, sym, ◌∙◌, ◌≢◌, ℕ, ◌/◌, ◌<◌, arith}
use Rattle.std.proofs.Math.Logic.{by_cases}
use Rattle.std.proofs.Math.Decide.{ℕ_discrete}
use Rattle.planarmap.specs.Contact as plane
use Rattle.planarmap.specs.Rotation.{Before}
use Rattle.planarmap.specs.Rotation as plane_order
use Rattle.planarmap.specs.Rotation.Before.{rising, turning, falling}
use Rattle.planarmap.specs.Rotation.Follows.{directly, round}
use Rattle.planarmap.proofs.Rotation.{clockwise}
use Rattle.clauses.specs.declared.Sheet.{Sheet}
use Rattle.sheet.specs.Darts.{darts, vertex}
use Rattle.sheet.specs.Sound.{Sound}
use Rattle.sheet.specs.Check.{column}
use Rattle.soundness.specs.Maps.{map_of}
use Rattle.soundness.proofs.Law.{rotation_of}
use Rattle.soundness.proofs.Plane.{plane_of}
use Rattle.sheet.proofs.Darts.{edge_below}
use Rattle.drawing.specs.Draw.{drawing_of}
use Rattle.drawing.specs.Clear.{dart_column, Clockwise}
use Rattle.drawing.proofs.Segments.{edge_stands, column_at, laws}
use Rattle.drawing.proofs.Rings.{Step}
use Rattle.drawing.proofs.Rings.Step.{rising as step_rising, turning as step_turning, falling as step_falling}
use Rattle.drawing.proofs.Turning.{step_trans, not_step, Forward, Once, clockwise as clockwise_if_once}

module _ {s : Sheet} (S : Sound s) where
  order : plane_order.Clockwise (map_of s) (column s)
  order = clockwise (plane_of S) (laws S)

  -- as the drawing shows it
  value_at : {d : ℕ} → d < darts s → dart_column (drawing_of s) d ≡ plane.edge_column (map_of s) (column s) d
  value_at {d} h = edge_stands s (d / 2) (edge_below s h) ∙ sym (column_at s d)

  drawn : {d e : ℕ} → d < darts s → e < darts s → Before (map_of s) (column s) d e → Step (dart_column (drawing_of s)) d e
  drawn h k (rising a b l) = step_rising a b (omega (arith, value_at h, value_at k))
  drawn h k (turning a b) = step_turning a b
  drawn h k (falling a b l) = step_falling a b (omega (arith, value_at h, value_at k))

  -- a descent is the last dart of its vertex
  descent_last : (d : ℕ) → d < darts s → ¬ Forward s (drawing_of s) d → (e : ℕ) → e < darts s → vertex s e ≡ vertex s d → e ≢ d → Step (dart_column (drawing_of s)) e d
  descent_last d h n e k q z = elim (order.follows h) [
    | directly b _ ↦ absurd (n (drawn h ((rotation_of S).perm.below d h) b))
    | round l _ ↦ drawn k h (l e k q z)
  ]

  pub ordered : (v : ℕ) → v < s.vertices → Clockwise s (drawing_of s) v
  ordered v = clockwise_if_once S (drawing_of s) v once
    where
      once : Once s (drawing_of s) v
      once d e h k p q x y = by_cases (ℕ_discrete d e) (λ z. z)
          (λ z. absurd (not_step (step_trans (descent_last e k y d h (p ∙ sym q) z) (descent_last d h x e k (q ∙ sym p) (λ w. z (sym w))))))
