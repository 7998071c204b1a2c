-- `first_darts` meets its contract: from the last edge down, what is left is filled. Assumes nothing.
use Rattle.std.proofs.Common.{◌≡◌, ◌+◌, ◌-◌, arith}
use Rattle.writesheet.proofs.Firsts.{filled_more, filled_all}
use Rattle.writesheet.proofs.first_darts.Goals as goal

pub loop-k-preserved : goal.loop-k-preserved
loop-k-preserved c =
    let z : c.loop-k.k ≡ c.loop-k.k - 1 + 1 = omega arith in
    rw (c.head_dart.ensures.0, c.tail_dart.ensures.0) (filled_more _ _ _ (rw z at c.loop-k.invariant) _ _ c.from.ensures c.from-in-loop-k.ensures)

pub returns : goal.returns
returns c =
    let z : c.loop-k.k ≡ 0 = omega arith in
    filled_all c.requires (rw z at c.loop-k.invariant)
