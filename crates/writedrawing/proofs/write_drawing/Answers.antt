-- `writedrawing::write_drawing` meets its contract: a sheet that draw refuses, then a buffer that is too short is refused. Assumes nothing.
use Rattle.std.proofs.Common.{◌≡◌, rules, Err, arith}
use Rattle.writedrawing.proofs.Answered.{refused, is_so, limits, is_drawing, drawing_put}
use Rattle.writedrawing.proofs.Texts.{drawing_short, segments_are}
use Rattle.writedrawing.proofs.write_drawing.Goals as goal

pub returns-in_err-drawing : goal.returns-in_err-drawing
returns-in_err-drawing c =
    let e : c.from_residual.result ≡ Err c.in_err-drawing.field-0.0 = search rules in
    rw e (refused _ _ c.draw.ensures _ c.in_err-drawing.was _)

pub shared_ref_as_front-text : goal.shared_ref_as_front-text
shared_ref_as_front-text c = (limits _ _ c.draw.ensures _ c.in_ok-drawing.was).vertices_most

pub shared_ref_as_front-text-2 : goal.shared_ref_as_front-text-2
shared_ref_as_front-text-2 c = (limits _ _ c.draw.ensures _ c.in_ok-drawing.was).edges_most

pub write_front-requires : goal.write_front-requires
write_front-requires c =
    let s = c.args.s in
    let d = c.in_ok-drawing.drawing in
    let l = limits _ _ c.draw.ensures _ c.in_ok-drawing.was in
    rw (segments_are d s.vertices s.edges (omega (arith, l.vertices_most)) (omega (arith, l.edges_most))) (drawing_short d s.vertices s.edges l.vertices_most l.edges_most)

pub returns : goal.returns
returns c =
    let s = c.args.s in
    let d = c.in_ok-drawing.drawing in
    let p = c.draw.ensures in
    let a = c.in_ok-drawing.was in
    let l = limits _ _ p _ a in
    let z = segments_are d s.vertices s.edges (omega (arith, l.vertices_most)) (omega (arith, l.edges_most)) in
    drawing_put _ (is_so _ _ p _ a) d (is_drawing _ _ p _ a) _ (rw z at c.write_front.ensures.0) c.ok_or.ensures.value (rw z at c.write_front.ensures.1)
