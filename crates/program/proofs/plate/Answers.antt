use Rattle.std.proofs.Common.{arith, rules}
use Rattle.program.proofs.Bound.{output_bound}
use Rattle.program.proofs.Room.{short_buffer, output_put}
use Rattle.program.proofs.plate.Goals as goal

pub returns-then-buffer-lt-LONGEST_OUTPUT : goal.returns-then-buffer-lt-LONGEST_OUTPUT
returns-then-buffer-lt-LONGEST_OUTPUT c = short_buffer _ _ _ c.if-buffer-lt-LONGEST_OUTPUT.true

pub put_output-requires : goal.put_output-requires
put_output-requires c = omega (arith, output_bound c.args.input.now, c.if-buffer-lt-LONGEST_OUTPUT.false)

pub returns : goal.returns
returns c = output_put _ _ _ c.if-buffer-lt-LONGEST_OUTPUT.false (output_bound c.args.input.now) c.put_output.ensures.0 _ (search rules)
