-- What is left of the path gives what the whole gives; each vertex raises the places by one at most.
use Rattle.std.proofs.Common.{◌≡◌, ◌+◌, ◌-◌, ◌<◌}
use Rattle.orientation.specs.Inner.{Low}
use Rattle.orientation.specs.Ears.{put_along}
use Rattle.orientation.proofs.put_along.Given as goal

abbrev pub invariant-loop-vertex : goal.invariant-loop-vertex
invariant-loop-vertex l = record {
  inside : l.v < 128;
  low : Low (65000 + l._vertex) l.order;
  rest : put_along (128 - l._vertex) l.parents l.u l.up l.v l.order ≡ put_along 128 l.parents l.u l.up l.first l.fn.order;
}
