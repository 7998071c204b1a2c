-- `draw::vertex_segments` meets its contract. The segments reach as far as those of the first k edges that leave the vertices. Assumes nothing.
use Rattle.std.proofs.Common.{◌≡◌, refl, ◌∙◌, arith}
use Rattle.drawing.specs.Draw.{no_vertex_segment}
use Rattle.counting.proofs.Tables.{table_agree}
use Rattle.draw.proofs.Widening.{reached_none, widened_more, sink_put}
use Rattle.draw.proofs.Places.vertex_segments.Goals as goal

pub loop-k-init : goal.loop-k-init
loop-k-init c = c.unreached-vertices.ensures ∙ table_agree _ 128 no_vertex_segment _ _ (λ v _. reached_none _ _ _ _ v)

pub loop-k-preserved : goal.loop-k-preserved
loop-k-preserved c =
    let k = c.loop-k.k in
    widened_more _ _ _ _ _ k (c.requires.2.inside k c.loop-k-test.true) _ c.loop-k.invariant _ c.from-tail.ensures _ c.widened.ensures

pub returns : goal.returns
returns c =
    let all : c.loop-k.k ≡ c.args.self.sheet.now.edges = omega arith in
    sink_put _ _ _ _ _ _ c.requires.0 _ (rw all at c.loop-k.invariant) _ refl
