-- `levels` meets its contract. Assumes nothing.
use Rattle.std.proofs.Common.{refl, sym, ◌∙◌, arith}
use Rattle.rings.proofs.Walking.{placed_readable}
use Rattle.rings.proofs.Outcome.{placed, no_poles, no_rings, underway, answer}
use Rattle.rings.proofs.levels.Goals as goal

pub of-darts-requires : goal.of-darts-requires
of-darts-requires c =
    let (few, T, H) = c.requires in
    placed_readable (placed few T H refl c.places-at.ensures)

pub start-sorting-requires : goal.start-sorting-requires
start-sorting-requires c =
    let (few, T, H) = c.requires in
    let (en, em, _, et) = c.digraph.ensures in
    (omega (arith, en), rw (em, et) (record { few = H.few; inside = λ k l. omega (arith, few, H.inside k l) }))

pub has_poles-requires : goal.has_poles-requires
has_poles-requires c = (c.requires.0, c.of-darts.ensures.3)

pub returns-then-not-has_poles : goal.returns-then-not-has_poles
returns-then-not-has_poles c =
    let (few, T, H) = c.requires in
    let (_, gm, _, gt) = c.digraph.ensures in
    let (ec, ea, _, _, _) = c.of-darts.ensures in
    let here = c.has_poles.ensures (placed few T H ec (ea ∙ c.places-at.ensures)) (rw (gm, gt) at c.start-sorting.ensures.waiting) in
    no_poles _ _ _ _ _ (sym here ∙ c.if-not-has_poles.true)

pub settle-requires : goal.settle-requires
settle-requires c =
    let (few, T, H) = c.requires in
    let (gn, gm, _, gt) = c.digraph.ensures in
    let (ec, ea, en, D, E) = c.of-darts.ensures in
    let s = c.start-sorting.ensures in
    underway few T H _ ec (ea ∙ c.places-at.ensures) D E _ (rw (gm, gt) at s.waiting) (rw gn at s.queued) s.level

pub returns-then-not-settle : goal.returns-then-not-settle
returns-then-not-settle c =
    let (few, T, H) = c.requires in
    let (ec, ea, en, D, E) = c.of-darts.ensures in
    rw en at (no_rings few T H ec (ea ∙ c.places-at.ensures) _ (c.settle.ensures.none c.if-not-settle.true))

pub returns : goal.returns
returns c =
    let (few, T, H) = c.requires in
    let (gn, gm, _, gt) = c.digraph.ensures in
    let (ec, ea, en, D, E) = c.of-darts.ensures in
    let s = c.start-sorting.ensures in
    let W = rw (gm, gt) at s.waiting in
    let here = c.has_poles.ensures (placed few T H ec (ea ∙ c.places-at.ensures)) W in
    let O = c.settle.ensures.rings c.if-not-settle.false in
    c.then_some.ensures
    ∙ rw en at (answer few T H c.of-darts.result ec (ea ∙ c.places-at.ensures) D E c.start-sorting.result W (rw gn at s.queued) s.level c.settle.new.sorting O (sym here ∙ c.if-not-has_poles.false))
