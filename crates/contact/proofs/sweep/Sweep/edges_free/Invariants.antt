-- The wires of the row before k are swept.
use Rattle.std.proofs.Common.{◌≡◌, ◌-◌, ◌<◌}
use Rattle.contact.specs.Lists.{Before}
use Rattle.contact.specs.Free.{row_of, high_of}
use Rattle.contact.specs.Sweep.{Swept}
use Rattle.contact.proofs.sweep.Sweep.edges_free.Given as goal

abbrev pub invariant-loop-k : goal.invariant-loop-k
invariant-loop-k l =
    let R = l.rows in
    let D = R.drawing.now in
    record {
      here : l.k < R.edges → high_of D l.k ≡ l.row;
      swept : Swept R.vertices D l.row (Before R.vertices (row_of D) l.row 0) (Before R.edges (high_of D) l.row l.k) l.self;
    }

abbrev pub decreases-loop-k : goal.decreases-loop-k
decreases-loop-k l = l.rows.edges - l.k
