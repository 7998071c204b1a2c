use Rattle.std.proofs.Common.{◌≡◌}
use Rattle.drawing.specs.Draw.{no_vertex_segment}
use Rattle.counting.specs.Below.{table}
use Rattle.draw.specs.Inner.{vertex_from}
use Rattle.draw.proofs.Places.vertex_segments.Given as goal

abbrev pub invariant-loop-k : goal.invariant-loop-k
invariant-loop-k l = l.vertices ≡ table (vertex_from l.self.sheet.now.tails l.self.rows.now l.self.columns.now l.self.ends.now l.k) l.self.sheet.now.vertices 128 no_vertex_segment
