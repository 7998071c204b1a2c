-- The loop keeps `Turn`, of every digraph with these lists.
use Rattle.std.proofs.Common.{◌-◌}
use Rattle.digraph.specs.Inner.{Listed, Listing, Settled}
use Rattle.digraph.proofs.Passing.{Turn}
use Rattle.digraph.proofs.Lists.pass.Given as goal

abbrev pub invariant-loop-k : goal.invariant-loop-k
invariant-loop-k l =
    let s = l.initial.sorting in
    (L : Listing l.self.graph.edges l.self.graph.to.now l.self.first l.self.after) → Settled L.graph l.head s.waiting s.level s.queue s.end
    → Turn L.graph (λ j. Listed l.self.graph.edges l.self.after j l.k) l.head l.v l.row l.sorting.waiting l.sorting.level l.sorting.queue l.sorting.end

abbrev pub decreases-loop-k : goal.decreases-loop-k
decreases-loop-k l = l.self.graph.edges - l.k
