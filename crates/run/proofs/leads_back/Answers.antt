-- `run::leads_back` meets its contract. From vertex 0, or by the rows, or by the circles of the graph with edge 0 replaced. Assumes nothing.
use Rattle.std.proofs.Common.{◌<◌, sym, ◌∙◌, ap, is_none, arith}
use Rattle.std.proofs.Math.Bool.{not, not-not}
use Rattle.digraph.proofs.Relaxation.{is_none_found}
use Rattle.run.proofs.Closing.{from_root, not_higher, by_circle}
use Rattle.run.proofs.leads_back.Goals as goal

pub returns-then-b-eq0 : goal.returns-then-b-eq0
returns-then-b-eq0 c = let a = c.args in sym (from_root a.s a.a a.b c.requires.0 c.if-b-eq0.true)

pub offset_bounds-rows-a : goal.offset_bounds-rows-a
offset_bounds-rows-a c =
    let in_a : c.args.a < 256 = let p = c.requires.0 in omega (arith, p.a_in, p.sound.limits.vertices_most) in
    omega (arith, in_a)

pub bounds-rows-a : goal.bounds-rows-a
bounds-rows-a c =
    let in_a : c.args.a < 256 = let p = c.requires.0 in omega (arith, p.a_in, p.sound.limits.vertices_most) in
    in_a

pub offset_bounds-rows-b : goal.offset_bounds-rows-b
offset_bounds-rows-b c =
    let in_b : c.args.b < 256 = let p = c.requires.0 in omega (arith, p.b_in, p.sound.limits.vertices_most) in
    omega (arith, in_b)

pub bounds-rows-b : goal.bounds-rows-b
bounds-rows-b c =
    let in_b : c.args.b < 256 = let p = c.requires.0 in omega (arith, p.b_in, p.sound.limits.vertices_most) in
    in_b

pub returns-then-rows-a : goal.returns-then-rows-a
returns-then-rows-a c =
    let a = c.args in
    sym (not_higher a.s a.a a.b c.requires.0 (rw c.requires.1 at c.if-rows-a.true))

pub returns : goal.returns
returns c = let a = c.args in
    sym (not-not c.is_none.result) ∙ ap not (sym c.is_none.ensures) ∙ ap is_none c.levels.ensures ∙ is_none_found _ ∙ by_circle a.s a.a a.b c.requires.0 c.if-b-eq0.false
