-- `Darts::has_poles` meets its contract, which is its loop's invariant at the last vertex. Assumes nothing.
use Rattle.std.proofs.Common.{◌≡◌, refl, sym, ◌∙◌, arith, length-take}
use Rattle.counting.proofs.Below.{all_none}
use Rattle.digraph.proofs.Tests.{entry_of}
use Rattle.rings.proofs.Poles.{pole_tests, poles_tested, poles_next}
use Rattle.rings.proofs.Darts.has_poles.Goals as goal

pub loop-v-init : goal.loop-v-init
loop-v-init c = λ P W. sym (all_none (pole_tests P))

pub loop-v-preserved : goal.loop-v-preserved
loop-v-preserved c = λ P W.
    let (in_n, ei) = entry_of c.args.n c.args.into.now c.loop-v-test.true refl in
    poles_next P c.requires.1 W c.loop-v.v (omega arith) _ ei c.loop-v.only (c.loop-v.invariant P W)

pub returns : goal.returns
returns c = λ P W.
    let e : c.loop-v.v ≡ c.args.n = omega (arith, length-take c.args.n c.args.into.now) in
    rw e at (c.loop-v.invariant P W) ∙ poles_tested P c.args.n
