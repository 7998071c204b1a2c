-- `Digraph::levels_within` meets its contract: its answers mean what `levels_of` means, and the meaning says it all. Assumes nothing.
use Rattle.std.proofs.Common.{◌∙◌, arith}
use Rattle.digraph.proofs.Settling.{underway, answer}
use Rattle.digraph.proofs.Digraph.levels_within.Goals as goal

pub chain-lists-requires : goal.chain-lists-requires
chain-lists-requires c =
    let W = c.requires in
    record { few = W.few_edges; inside = λ k h. omega (arith, W.from_in k h, W.few_nodes) }

pub start-sorting-requires : goal.start-sorting-requires
start-sorting-requires c =
    let W = c.requires in
    (W.few_nodes, record { few = W.few_edges; inside = λ k h. omega (arith, W.to_in k h, W.few_nodes) })

pub settle-requires : goal.settle-requires
settle-requires c =
    let s = c.start-sorting in
    underway _ c.requires c.chain-lists.result c.chain-lists.ensures s.result s.ensures.waiting s.ensures.queued s.ensures.level

pub returns : goal.returns
returns c =
    let s = c.start-sorting in
    c.then_some.ensures ∙ answer _ c.requires c.chain-lists.result c.chain-lists.ensures s.result s.ensures.waiting s.ensures.queued s.ensures.level c.settle.new.sorting c.settle.ensures
