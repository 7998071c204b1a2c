-- The edges from k on are on the lists.
use Rattle.digraph.specs.Inner.{Chained}
use Rattle.digraph.proofs.Lists.chain.Given as goal

abbrev pub invariant-loop-k : goal.invariant-loop-k
invariant-loop-k l = Chained l.k l.graph.edges l.graph.from.now l.first l.after
