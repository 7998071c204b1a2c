-- The walk kept to darts of the vertex and did not return, and the edges out of it are passed so far if its darts form a ring.
use Rattle.std.proofs.Common.{◌+◌, ◌-◌, ◌<◌}
use Rattle.digraph.specs.Inner.{Settled}
use Rattle.rings.specs.Inner.{Round, Placed}
use Rattle.rings.proofs.Rings.{Going}
use Rattle.rings.proofs.Walking.{Here}
use Rattle.rings.proofs.Darts.pass.Given as goal

abbrev pub invariant-loop-step : goal.invariant-loop-step
invariant-loop-step l =
    let r = l.self in
    let s = l.initial.sorting in
    record {
      going : Going r.count r.at.now r.nexts.now l.start l.v l.d (l.step - 1);
      end_in : l.sorting.end < s.end + l.step;
      here : Round r.count r.at.now r.nexts.now l.start l.v l.size → (P : Placed r.count r.at.now) → Settled P.graph l.head s.waiting s.level s.queue s.end
          → Here P r.nexts.now l.start l.size (l.step - 1) l.head l.v l.row s l.sorting;
    }
