-- `table` meets its contract. The first k entries are filled. Assumes nothing.
use Rattle.std.proofs.Common.{arith, length-take-le, replicate}
use Rattle.counting.proofs.Tables.{table_front, table_more, table_whole}
use Rattle.draw.proofs.table.Goals as goal

pub loop-k-init : goal.loop-k-init
loop-k-init g c = λ of p. table_front of g.row.N _ c.args.m c.requires.few

pub loop-k-preserved : goal.loop-k-preserved
loop-k-preserved g c = λ of p. table_more of _ _ c.loop-k.k (omega arith) _ (c.loop-k.invariant of p) _ (p c.loop-k.k _ (omega arith) c.entry.ensures)

pub returns : goal.returns
returns g c = λ of p. table_whole of g.row.N _ c.args.m c.loop-k.k (omega (arith, length-take-le c.args.m (replicate g.row.N c.args.zero))) (omega arith) _ (c.loop-k.invariant of p)
