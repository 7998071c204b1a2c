-- `Placement::spans` meets its contract. Assumes nothing.
use Rattle.std.proofs.Common.{◌≡◌, ◌∙◌, arith}
use Rattle.insulationmask.proofs.Placed.{left_at, left_below, right_at, right_below}
use Rattle.insulationmask.proofs.Widening.{unwidened, widened_more, all_widened}
use Rattle.insulationmask.proofs.Placement.spans.Goals as goal

pub loop-k-init : goal.loop-k-init
loop-k-init c = unwidened c.args.self.sheet.now

pub loop-k-preserved : goal.loop-k-preserved
loop-k-preserved c =
    let P = c.requires in
    let k = c.loop-k.k in
    widened_more _ k (omega arith) _ c.loop-k.invariant _ _ (c.from-left.ensures ∙ left_at P k) (c.from-right.ensures ∙ right_at P k)
    (omega (arith, c.from-left.ensures, left_below P k)) (omega (arith, c.from-right.ensures, right_below P k)) _ c.row-row.ensures _ _ c.widened.ensures c.widened-in-loop-k.ensures

pub returns : goal.returns
returns c =
    let all : c.loop-k.k ≡ c.args.self.sheet.now.edges = omega (arith, c.requires.sound.limits.edges_least) in
    all_widened c.requires.sound _ (rw all at c.loop-k.invariant)
