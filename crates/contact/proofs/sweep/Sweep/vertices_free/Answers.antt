-- `Sweep::vertices_free` meets its contract, which is its loop's invariant at the end of the row's list. Assumes nothing.
use Rattle.std.proofs.Common.{refl, ◌∙◌, arith}
use Rattle.counting.proofs.Iterate.{clash}
use Rattle.contact.proofs.Sweeping.{same, at_first, at_next, at_end, swept_same, bar_more, bar_free}
use Rattle.contact.proofs.sweep.Sweep.vertices_free.Goals as goal

pub loop-v-init : goal.loop-v-init
loop-v-init c =
    let L = c.args.rows.now in
    let (in_row, D) = c.requires.drawn in
    let ev = c.from-v.ensures in
    record {
      here = λ h. rw ev (L.vertices_linked.first_key c.args.row (omega (arith, D.few_rows)) (rw ev at h));
      swept = rw ev (swept_same (at_first L.vertices_linked c.args.row) same (omega arith) c.requires.swept);
    }

pub returns-then-not-free-clause-contact : goal.returns-then-not-free-clause-contact
returns-then-not-free-clause-contact c = λ _ F.
    let L = c.args.rows.now in
    let D = c.requires.drawn.1 in
    let v = c.loop-v.v in
    let in_v = c.loop-v-test.true in
    let at_row = c.loop-v.invariant.here in_v in
    let inside = (D.formed.vertices v in_v).last in
    clash
    (c.cover-free.ensures.free.1 (λ x l r. bar_free c.loop-v.invariant.swept (at_next L.vertices_linked c.args.row v in_v at_row)
    (λ j b. omega (arith, b.key_most, at_row)) (omega (arith, D.few_columns)) _ (omega arith) _ F (λ j b. b.inside) in_v x
    (omega (arith, c.from.ensures)) (omega (arith, c.from-in-loop-v.ensures))))
    c.if-not-free.true

pub loop-v-preserved : goal.loop-v-preserved
loop-v-preserved c =
    let L = c.args.rows.now in
    let D = c.requires.drawn.1 in
    let v = c.loop-v.v in
    let in_v = c.loop-v-test.true in
    let at_row = c.loop-v.invariant.here in_v in
    let inside = (D.formed.vertices v in_v).last in
    let ev = c.from-v-in-loop-v.ensures in
    let free = c.if-not-free.false in
    record {
      here = λ h. rw ev (L.vertices_linked.next_key v (omega arith) in_v (rw ev at h)) ∙ at_row;
      swept = rw ev (bar_more c.loop-v.invariant.swept (at_next L.vertices_linked c.args.row v in_v at_row)
          (λ j b. omega (arith, b.key_most, at_row)) (omega (arith, D.few_columns)) _ (omega arith) _ refl _ c.cover-free.ensures.kept
          (λ x l r. c.cover-free.ensures.free.0 free x (omega (arith, c.from.ensures)) (omega (arith, c.from-in-loop-v.ensures)))
          (rw (c.from.ensures, c.from-in-loop-v.ensures) at (c.cover-free.ensures.marked free)));
    }

pub returns-clause-free : goal.returns-clause-free
returns-clause-free c = λ _. swept_same (at_end c.args.rows.now.vertices_linked c.args.row c.loop-v.v c.loop-v-test.false) same (omega arith) c.loop-v.invariant.swept
