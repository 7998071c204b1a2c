use Rattle.std.proofs.Common.{arith, rules}
use Rattle.program.proofs.Room.{short_buffer, output_put}
use Rattle.verification.proofs.Lines.{answer_short, verify_bound}
use Rattle.verification.proofs.verify.Goals as goal

pub returns-then-buffer-lt-LONGEST_LINE : goal.returns-then-buffer-lt-LONGEST_LINE
returns-then-buffer-lt-LONGEST_LINE c = short_buffer _ _ _ c.if-buffer-lt-LONGEST_LINE.true

pub put_answer-requires : goal.put_answer-requires
put_answer-requires c = omega (arith, answer_short c.check_input-answer.result, c.if-buffer-lt-LONGEST_LINE.false)

pub returns : goal.returns
returns c =
    let p = c.put_answer.ensures.0 in
    output_put _ _ _ c.if-buffer-lt-LONGEST_LINE.false (verify_bound c.args.input.now) (rw c.check_input-answer.ensures at p) _ (search rules)
