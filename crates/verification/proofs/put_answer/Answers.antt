use Rattle.verification.specs.Verify.{answer_line}
use Rattle.verification.proofs.put_answer.Goals as goal

pub bytes-requires : goal.bytes-requires
unfolding answer_line
bytes-requires c = let r = c.requires in rw c.in-Ok.is at r

pub put_refused-requires : goal.put_refused-requires
unfolding answer_line
put_refused-requires c = let r = c.requires in rw c.in-Err.is at r

pub returns-in-Ok : goal.returns-in-Ok
unfolding answer_line
returns-in-Ok c = rw c.in-Ok.is c.bytes.ensures

pub returns-in-Err : goal.returns-in-Err
unfolding answer_line
returns-in-Err c = rw c.in-Err.is c.put_refused.ensures
