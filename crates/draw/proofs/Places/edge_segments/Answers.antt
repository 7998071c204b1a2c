-- `edge_segments` meets its contract: its table is that of the segments. Assumes nothing.
use Rattle.std.proofs.Common.{◌≡◌, rules}
use Rattle.drawing.specs.Draw.{no_edge_segment}
use Rattle.draw.specs.Inner.{edge_from}
use Rattle.draw.proofs.Places.edge_segments.Goals as goal

pub returns : goal.returns
unfolding edge_from
returns c =
    let a = c.args in
    let z : c.default.result ≡ no_edge_segment = search rules in
    rw z at (c.table.ensures (edge_from a.self.sheet.now.tails a.self.sheet.now.heads a.self.rows.now a.self.columns.now) (λ k x h p. search rules))
