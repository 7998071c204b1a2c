-- `Sweep::edges_free` meets its contract, which is its loop's invariant at the end of the row's list. Assumes nothing.
use Rattle.std.proofs.Common.{◌∙◌, ◌+◌, arith}
use Rattle.contact.proofs.Sweeping.{same, before, key_before, at_first, at_next, at_end, swept_same, wire_more, wire_low, wire_first}
use Rattle.contact.proofs.sweep.Sweep.edges_free.Goals as goal
use Rattle.contact.proofs.sweep.Sweep.edges_free.Goals.{then-crossed-via-then-crossed, then-crossed-via-else-crossed+then-met}

pub loop-k-init : goal.loop-k-init
loop-k-init c =
    let L = c.args.rows.now in
    let (in_row, D) = c.requires.drawn in
    let ek = c.from-k.ensures in
    record {
      here = λ h. rw ek (L.edges_linked.first_key c.args.row (omega (arith, D.few_rows)) (rw ek at h));
      swept = rw ek (swept_same same (at_first L.edges_linked c.args.row) (omega arith) c.requires.swept);
    }

pub returns-then-crossed-clause-contact : goal.returns-then-crossed-clause-contact
returns-then-crossed-clause-contact c = λ _ F.
    let L = c.args.rows.now in
    let D = c.requires.drawn.1 in
    let k = c.loop-k.k in
    let in_k = c.loop-k-test.true in
    let at_row = c.loop-k.invariant.here in_k in
    let E = D.formed.edges k in_k in
    let S = c.loop-k.invariant.swept in
    let M = at_next L.edges_linked c.args.row k in_k at_row in
    let (u, in_u, at_low, on) = D.on_bar k in_k in
    elim c.then-crossed.branch [
      | then-crossed-via-then-crossed w ↦ absurd (omega (
        arith,
        w.if-crossed.true,
        c.mark.ensures,
        wire_low S (λ v h o. before h (rw at_row at o)) _ c.from-x.ensures (omega (arith, E.column, D.few_columns))
            F in_k (λ j b. (b.inside, rw at_row (key_before b))) E.upward u in_u at_low on,
      ))
      | then-crossed-via-else-crossed+then-met w ↦ absurd (omega (arith, w.if-met.true, wire_first S M (λ l b. rw at_row b.key_most) _ c.from-x.ensures (omega (arith, E.column, D.few_columns)) (c.args.row + 1) (omega arith) F in_k (λ j b. b.inside)))
    ]

pub loop-k-preserved : goal.loop-k-preserved
loop-k-preserved c =
    let L = c.args.rows.now in
    let D = c.requires.drawn.1 in
    let k = c.loop-k.k in
    let in_k = c.loop-k-test.true in
    let at_row = c.loop-k.invariant.here in_k in
    let E = D.formed.edges k in_k in
    let ek = c.from-k-in-loop-k.ensures in
    record {
      here = λ h. rw ek (L.edges_linked.next_key k (omega arith) in_k (rw ek at h)) ∙ at_row;
      swept = rw ek (wire_more c.loop-k.invariant.swept (at_next L.edges_linked c.args.row k in_k at_row) (λ l b. rw at_row b.key_most) _ c.from-x.ensures (omega (arith, E.column, D.few_columns)) _ (omega arith)
          (λ v h o. before h (rw at_row at o)) (omega (arith, c.mark.ensures, c.if-crossed.false)) c.if-met.false);
    }

pub returns-clause-free : goal.returns-clause-free
returns-clause-free c = λ _. swept_same same (at_end c.args.rows.now.edges_linked c.args.row c.loop-k.k c.loop-k-test.false) (omega arith) c.loop-k.invariant.swept
