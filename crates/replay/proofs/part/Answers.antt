use Rattle.replay.proofs.Parts.{part_is}
use Rattle.replay.proofs.part.Goals as goal

pub returns : goal.returns
returns c =
    let args = c.args in
    part_is args.text.now args.start args.end _ _ c.min-to.ensures c.min-from.ensures
