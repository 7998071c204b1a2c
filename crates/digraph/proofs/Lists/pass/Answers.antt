-- `Lists::pass` meets its contract: its loop's invariant is `Turn`, of every digraph with these lists. Assumes nothing.
use Rattle.std.proofs.Common.{refl, sym, arith}
use Rattle.digraph.specs.Inner.{Listed}
use Rattle.digraph.specs.Inner.Listed.{at_head}
use Rattle.digraph.proofs.Chaining.{listed_in, list_in, split, later_on}
use Rattle.digraph.proofs.Passing.{begin, end_in, end_room, low_level, step, finish}
use Rattle.digraph.proofs.Settling.{head_in}
use Rattle.digraph.proofs.Lists.pass.Goals as goal

pub offset_bounds-sorting-head : goal.offset_bounds-sorting-head
offset_bounds-sorting-head c = omega (arith, head_in c.requires.1 c.requires.0)

pub bounds-sorting-head : goal.bounds-sorting-head
bounds-sorting-head c = head_in c.requires.1 c.requires.0

pub loop-k-init : goal.loop-k-init
loop-k-init c = λ L S.
    let ev = c.from-v.ensures in
    let ek = c.from-k.ensures in
    let G = L.graph in
    begin G S c.requires.0 _ ev _ refl _
    (λ j l e. rw (ek, ← e) (L.chained.listed j (omega arith) l))
    (λ j l. (listed_in l, L.chained.at_end _ j (omega (arith, ev, S.progress.queued.node _ c.requires.0, G.within.few_nodes)) (rw ek at l)))

-- an edge waits for its end, so the queue has room for it
pub pass-requires : goal.pass-requires
pass-requires c =
    let u = c.requires.1 in
    let T = c.loop-k.invariant u.listing u.settled in
    let at : Listed c.args.self.now.graph.edges c.args.self.now.after c.loop-k.k c.loop-k.k = at_head c.loop-k-test.true in
    let few = u.listing.graph.within in (
      omega (arith, end_in u.listing.graph T _ at _ c.from.ensures, few.few_nodes),
      omega (arith, low_level u.listing.graph T, few.few_edges),
      omega arith,
      omega (arith, end_room u.listing.graph T _ at _ c.from.ensures),
    )

pub loop-k-preserved : goal.loop-k-preserved
loop-k-preserved c = λ L S.
    let in_k = c.loop-k-test.true in
    let ek = c.from-k-in-loop-k.ensures in
    step L.graph c.pass.ensures (c.loop-k.invariant L S) _ refl _ (at_head in_k) c.from.ensures (λ j l. split l (sym ek)) (λ j l. later_on L.chained in_k ek l)

pub returns : goal.returns
returns c = λ L S. finish L.graph (c.loop-k.invariant L S) (λ j l. omega (arith, list_in l, c.loop-k-test.false))
