-- `Digraph::is_within` meets its contract: it passes where the counts are within the arrays and the ends are nodes. Assumes nothing.
use Rattle.std.proofs.Common.{false, sym, ◌∙◌, arith}
use Rattle.std.proofs.lemmas.Bool.{false≢true}
use Rattle.digraph.proofs.Tests.{within_met}
use Rattle.digraph.proofs.Digraph.is_within.Goals as goal

pub returns-then-nodes-gt256 : goal.returns-then-nodes-gt256
returns-then-nodes-gt256 c = within_met _ _ _ _ false (λ f. absurd (false≢true f)) (λ W. absurd (omega (arith, c.then-nodes-gt256.either, W.few_nodes, W.few_edges)))

pub returns-then-are_nodes : goal.returns-then-are_nodes
returns-then-are_nodes c = within_met _ _ _ _ _
    (λ t. record {
      few_nodes = omega arith;
      few_edges = omega arith;
      from_in = c.are_nodes.ensures.0 c.if-are_nodes.true;
      to_in = c.are_nodes-then-are_nodes.ensures.0 t;
    })
    (λ W. c.are_nodes-then-are_nodes.ensures.1 W.to_in)

pub returns-else-are_nodes : goal.returns-else-are_nodes
returns-else-are_nodes c = within_met _ _ _ _ _
    (λ t. absurd (false≢true (sym c.if-are_nodes.false ∙ t)))
    (λ W. c.are_nodes.ensures.1 W.from_in)
