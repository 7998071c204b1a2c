use Rattle.std.proofs.Common.{inl, inr, rules}
use Rattle.contact.proofs.Covering.{block_taken, block_marked}
use Rattle.contact.proofs.columns.Columns.cover_block.Goals as goal
use Rattle.contact.proofs.columns.Columns.cover_block.Goals.{then-self-block-via-then-self-block, then-self-block-via-else-self-block+then-self-block-2}

pub returns-then-self-block : goal.returns-then-self-block
returns-then-self-block c =
    let taken = block_taken c.requires.0 c.requires.2 c.args.block c.requires.1 in
    elim c.then-self-block.branch [
      | then-self-block-via-then-self-block w ↦ taken (inl w.if-self-block.true)
      | then-self-block-via-else-self-block+then-self-block-2 w ↦ taken (inr w.if-self-block-2.true)
    ]

pub returns : goal.returns
returns c = block_marked c.requires.0 c.args.block (search rules) c.if-self-block.false c.if-self-block-2.false
