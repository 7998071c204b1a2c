-- `unreached` meets its contract: its table is that of the segments. Assumes nothing.
use Rattle.std.proofs.Common.{◌≡◌, rules}
use Rattle.drawing.specs.Draw.{no_vertex_segment}
use Rattle.draw.specs.Inner.{unreached_from}
use Rattle.draw.proofs.unreached.Goals as goal

pub returns : goal.returns
unfolding unreached_from
returns c = let z : c.default.result ≡ no_vertex_segment = search rules in rw z at (c.table.ensures (unreached_from c.args.rows.now) (λ k x h p. search rules))
