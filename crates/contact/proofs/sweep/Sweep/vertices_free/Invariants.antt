-- The bars of the row before v are swept.
use Rattle.std.proofs.Common.{◌≡◌, ◌+◌, ◌-◌, ◌<◌}
use Rattle.contact.specs.Lists.{Before}
use Rattle.contact.specs.Free.{row_of, high_of}
use Rattle.contact.specs.Sweep.{Swept}
use Rattle.contact.proofs.sweep.Sweep.vertices_free.Given as goal

abbrev pub invariant-loop-v : goal.invariant-loop-v
invariant-loop-v l =
    let R = l.rows in
    let D = R.drawing.now in
    record {
      here : l.v < R.vertices → row_of D l.v ≡ l.row;
      swept : Swept R.vertices D (l.row + 1) (Before R.vertices (row_of D) l.row l.v) (Before R.edges (high_of D) (l.row + 1) 0) l.self;
    }

abbrev pub decreases-loop-v : goal.decreases-loop-v
decreases-loop-v l = l.rows.vertices - l.v
