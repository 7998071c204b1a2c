use Rattle.std.proofs.Common.{arith, ◌∙◌, length-set}
use Rattle.readdrawing.proofs.Turns.{entries_over, entries_bad, entries_more}
use Rattle.readdrawing.proofs.entry_lines.Goals as goal

pub returns-in_err-a-clause-entries : goal.returns-in_err-a-clause-entries
returns-in_err-a-clause-entries g c = λ of p.
    let inv = c.loop-k.invariant in
    rw c.from_residual.ensures (entries_bad _ of _ _ _ _ _ (inv.rest of p) c.loop-k-test.true (rw inv.same at c.in_err-a.ensures.line))

pub loop-k-preserved : goal.loop-k-preserved
loop-k-preserved g c =
    let loop = c.loop-k in
    let inv = loop.invariant in
    record {
      same = c.three_line.ensures.text ∙ inv.same;
      size = length-set loop.entries loop.k c.entry.result ∙ inv.size;
      rest = λ of p. entries_more _ of _ _ _ _ _ (inv.rest of p) c.loop-k-test.true (rw inv.same at c.in_ok-a.ensures.line) (p _ _ _ _ c.entry.ensures);
    }

pub returns-clause-entries : goal.returns-clause-entries
returns-clause-entries g c = λ of p. entries_over _ of _ _ _ _ _ (c.loop-k.invariant.rest of p) (omega arith)
