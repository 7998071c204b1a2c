-- `takeoutedge::degree` meets its contract, which is its loop's invariant at the last end. Assumes nothing.
use Rattle.std.proofs.Common.{refl, sym, ◌∙◌, eqb, get_or, eq-eqb, ne_eqb, add-one, arith}
use Rattle.counting.specs.Counts.{count}
use Rattle.counting.proofs.Counts.{count_le}
use Rattle.takeoutedge.proofs.degree.Goals as goal
use Rattle.takeoutedge.proofs.degree.Goals.{then-from-v, else-from-v}

pub loop-end-init : goal.loop-end-init
unfolding count
loop-end-init c = refl

pub overflow_add-found : goal.overflow_add-found
overflow_add-found c = let a = c.args in
    omega (arith, count_le (λ k. eqb (get_or a.ends.now k 0) a.v) c.loop-end.end-index)

pub loop-end-preserved : goal.loop-end-preserved
unfolding count
loop-end-preserved c =
    let l = c.loop-end in
    let here = c.from.ensures in
    rw (add-one l.end-index) (elim c.if-from-v.branch [
      | then-from-v w ↦ rw (eq-eqb _ _ (sym here ∙ w.if-from-v.true)) (omega arith)
      | else-from-v w ↦ rw (ne_eqb _ _ (λ q. w.if-from-v.false (here ∙ q))) (omega arith)
    ])
