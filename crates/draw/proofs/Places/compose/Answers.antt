-- `draw::compose` meets its contract. Assumes nothing.
use Rattle.std.proofs.Common.{refl}
use Rattle.draw.specs.Inner.{drawing_from}
use Rattle.draw.proofs.Places.compose.Goals as goal

pub returns : goal.returns
unfolding drawing_from
returns c = rw (c.vertex_segments.ensures, c.edge_segments.ensures) refl
