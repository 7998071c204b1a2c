-- `Darts::pass` meets its contract. Where the walk comes back after as many steps as the vertex has darts, the edges out of the vertex were passed on it, each once. Assumes nothing.
use Rattle.std.proofs.Common.{◌≡◌, ◌<◌, ◌-◌, suc, refl, sym, ◌∙◌, arith, ⊎_elim}
use Rattle.rings.proofs.Rings.{going_none, going_in, going_outside, going_elsewhere, going_early, going_long, going_back, going_on}
use Rattle.rings.proofs.Walking.{walk_begin, walk_more, head_in, head_small, dart_small, level_small, none_passed, start_at, size_is, tail_small, ring_passed, differ, agree}
use Rattle.digraph.proofs.Passing.{end_moves}
use Rattle.rings.proofs.Darts.pass.Goals as goal
use Rattle.rings.proofs.Darts.pass.Goals.{then-self-d-via-then-self-d, then-self-d-via-else-self-d+then-from-v}

pub offset_bounds-sorting-head : goal.offset_bounds-sorting-head
offset_bounds-sorting-head c = omega (arith, head_small c.requires.1 c.requires.0)

pub bounds-sorting-head : goal.bounds-sorting-head
bounds-sorting-head c = omega (arith, head_small c.requires.1 c.requires.0)

pub returns-then-size-eq0-clause-rings : goal.returns-then-size-eq0-clause-rings
returns-then-size-eq0-clause-rings c = λ _. none_passed c.requires.1 c.requires.0 _ c.from-v.ensures _ c.from-size.ensures c.if-size-eq0.true

pub loop-step-init : goal.loop-step-init
loop-step-init c =
    let (h, U) = c.requires in
    let ev = c.from-v.ensures in
    let ez = c.from-size.ensures in
    let (there, at_v) = start_at U h _ ev _ ez c.if-size-eq0.false _ c.from-start.ensures in
    record {
      going = going_none _ there at_v;
      end_in = omega arith;
      here = λ R P S. walk_begin (omega arith) R (size_is U h _ ev _ ez) P _ S h ev _ refl;
    }

pub pass_dart-requires : goal.pass_dart-requires
pass_dart-requires c =
    let (h, U) = c.requires in
    let ev = c.from-v.ensures in
    let in_d = going_in c.loop-step.invariant.going in (
      dart_small U h in_d,
      omega (arith, head_in U.placed _ in_d),
      level_small U h _ ev,
      tail_small U h _ ev _ c.from-size.ensures c.if-size-eq0.false _ c.from-start.ensures c.loop-step-test.true (omega (arith, c.loop-step.invariant.end_in)),
    )

pub returns-then-self-d-clause-none : goal.returns-then-self-d-clause-none
returns-then-self-d-clause-none c = λ _ O. elim c.then-self-d.branch [
  | then-self-d-via-then-self-d w ↦ going_outside c.loop-step.invariant.going _ c.from-d.ensures w.if-self-d.true O
  | then-self-d-via-else-self-d+then-from-v w ↦ going_elsewhere c.loop-step.invariant.going _ c.from-d.ensures (λ q. w.if-from-v.true (w.from.ensures ∙ q)) O
]

pub returns-then-d-start-clause-none : goal.returns-then-d-start-clause-none
returns-then-d-start-clause-none c = λ _ O.
    let (h, U) = c.requires in
    let many = size_is U h _ c.from-v.ensures _ c.from-size.ensures in
    let going = c.loop-step.invariant.going in
    ⊎_elim
    (λ w. going_early going O _ c.from-d.ensures w.0 (omega (arith, many, c.loop-step-test.true, w.1)))
    (λ w. going_long going O _ c.from-d.ensures w.0 (omega (arith, many, w.1)))
    (differ c.from-d.result c.from-start.result c.loop-step.step c.from-size.result c.if-d-start.true)

pub loop-step-preserved : goal.loop-step-preserved
loop-step-preserved c =
    let (h, U) = c.requires in
    let going = c.loop-step.invariant.going in
    let same = agree c.from-d.result c.from-start.result c.loop-step.step c.from-size.result c.if-d-start.false in
    record {
      going = going_on going _ c.from-d.ensures (omega arith) c.if-self-d.false (sym c.from.ensures ∙ c.if-from-v.false) (λ q. omega (arith, same.0 q));
      end_in = omega (arith, end_moves c.pass_dart.ensures);
      here = λ R P S. walk_more (omega arith) R (size_is U h _ c.from-v.ensures _ c.from-size.ensures) P (c.loop-step.invariant.here R P S) (omega arith) _ going.place c.pass_dart.ensures (omega arith);
    }

pub returns-else-size-eq0-clause-rings : goal.returns-else-size-eq0-clause-rings
returns-else-size-eq0-clause-rings c = absurd (omega (arith, c.loop-step.auto.step-end (omega arith)))

pub returns-else-d-start-clause-rings : goal.returns-else-d-start-clause-rings
returns-else-d-start-clause-rings c =
    let (h, U) = c.requires in
    let ev = c.from-v.ensures in
    let ez = c.from-size.ensures in
    let going = c.loop-step.invariant.going in
    let last : c.loop-step.step ≡ c.from-size.result = omega arith in
    let next : c.from-size.result ≡ suc (c.loop-step.step - 1) = omega arith in
    let inside : c.loop-step.step - 1 < c.from-size.result = omega arith in
    let back = (agree c.from-d.result c.from-start.result c.loop-step.step c.from-size.result c.if-d-start.false).1 last in
    let R = going_back going _ c.from-d.ensures next back in
    λ _. ring_passed U h _ ev _ ez c.if-size-eq0.false _ c.from-start.ensures R
    (λ P S. walk_more (omega arith) R (size_is U h _ ev _ ez) P (c.loop-step.invariant.here R P S) inside _ going.place c.pass_dart.ensures next)
