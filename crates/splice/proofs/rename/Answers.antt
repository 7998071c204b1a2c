-- `splice::rename` meets its contract. Assumes nothing.
use Rattle.std.proofs.Common.{arith}
use Rattle.std.proofs.lemmas.List.Edits.{map_over_more}
use Rattle.std.proofs.lemmas.List.{get_or_default}
use Rattle.edit.specs.Changes.{renamed}
use Rattle.splice.proofs.rename.Goals as goal

pub loop-dart-preserved : goal.loop-dart-preserved
loop-dart-preserved c =
    let a = c.args in
    let l = c.loop-dart in
    rw c.renamed.ensures (map_over_more (renamed a.old a.new) a.table.now l.table l.dart-index _ c.loop-dart-test.true l.invariant (get_or_default l.table l.dart-index 0 _ (omega arith)))
