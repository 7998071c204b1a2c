-- `Lists::chain` meets its contract, which is its loop's invariant at edge 0. Assumes nothing.
use Rattle.std.proofs.Common.{◌≡◌, refl, suc, ◌-◌, arith}
use Rattle.digraph.proofs.Chaining.{unchained, chained_more}
use Rattle.digraph.proofs.Lists.chain.Goals as goal

pub loop-k-init : goal.loop-k-init
loop-k-init c = unchained _ _ c.requires.few

pub loop-k-preserved : goal.loop-k-preserved
loop-k-preserved c =
    let s = c.requires in
    let z : c.loop-k.k ≡ suc (c.loop-k.k - 1) = omega arith in
    chained_more (rw z at c.loop-k.invariant) (omega arith) s.few _ c.from-v.ensures (omega (arith, c.from-v.ensures, s.inside (c.loop-k.k - 1) (omega arith))) s.inside

pub returns : goal.returns
returns c = let z : c.loop-k.k ≡ 0 = omega arith in (refl, rw z at c.loop-k.invariant)
