-- A drawing passes exactly where every ring is in clockwise order. Assumes nothing.
use Rattle.std.proofs.Common.{refl, sym, ◌∙◌, ℕ, arith}
use Rattle.std.proofs.Math.Logic.{by_cases}
use Rattle.std.proofs.Math.Decide.{ℕ_discrete, dec_lt}
use Rattle.counting.proofs.Iterate.{by_bool, clash}
use Rattle.clauses.specs.declared.Sheet.{Sheet}
use Rattle.clauses.specs.Darts.{is_tail}
use Rattle.sheet.specs.Darts.{darts, vertex, next}
use Rattle.soundness.proofs.Rings.{vertex_below}
use Rattle.soundness.proofs.Tests.{Says, lt_says, eq_says, and_says, not_says, all_says, some_says, reworded}
use Rattle.drawing.specs.declared.Drawing.{Drawing}
use Rattle.drawing.specs.Clear.{dart_column}
use Rattle.drawing.proofs.Rings.{Step}
use Rattle.drawing.proofs.Rings.Step.{rising, turning, falling}
use Rattle.drawing.proofs.Turning.{step_up, step_down, step_never, Forward, Once, clockwise, clockwise_once}
use Rattle.ringorder.specs.Order.{before, is_descent, descends_at, in_order}
use Rattle.ringorder.specs.Laws.{InOrderLaw}

before_says : (value : ℕ → ℕ) (d e : ℕ) → Says (before (is_tail d) (is_tail e) (value d) (value e)) (Step value d e)
unfolding before
before_says value d e = by_bool (is_tail d)
    (λ p. by_bool (is_tail e)
    (λ q. reworded (rw (p, q) (lt_says (value d) (value e))) (λ l. rising p q l) (λ k. step_up p q k))
    (λ q. (λ t. turning p q, λ k. rw (p, q) refl)))
    (λ p. by_bool (is_tail e)
    (λ q. (λ t. clash (rw (p, q) at t) refl, λ k. absurd (step_never p q k)))
    (λ q. reworded (rw (p, q) (lt_says (value e) (value d))) (λ l. falling p q l) (λ k. step_down p q k)))

module _ (s : Sheet) (D : Drawing) where
  descent_says : (d : ℕ) → Says (is_descent s D d) (¬ Forward s D d)
  unfolding is_descent
  descent_says d = not_says (before_says (dart_column D) d (next s d))

  -- two descents of the ring of one bar are one
  once_says : Says (in_order s D) ((v : ℕ) → Once s D v)
  unfolding in_order descends_at
  once_says =
      reworded
      (all_says (darts s) (λ d _. not_says (and_says (descent_says d) (some_says d (λ e. and_says (descent_says e) (eq_says (vertex s e) (vertex s d)))))))
      (λ f v d e h k p q x y. by_cases (ℕ_discrete d e) (λ z. z) (λ z. by_cases (dec_lt d e)
      (λ l. absurd (f e k (y, (d, l, (x, p ∙ sym q)))))
      (λ l. absurd (f d h (x, (e, omega arith, (y, q ∙ sym p)))))))
      (λ g d h (x, (e, l, (y, q))). omega (arith, g (vertex s d) e d (omega arith) h q refl y x))

pub in_order_law : InOrderLaw
in_order_law s D S = reworded (once_says s D)
    (λ once v. clockwise S D v (once v))
    (λ all v d e h k p q. clockwise_once s D v (all v (rw (sym p) (vertex_below s S.joins d h))) d e h k p q)
