-- `run::join_answer` meets its contract. The corners are of two faces of the sheet where they are by the arrays. Assumes nothing.
use Rattle.std.proofs.Common.{arith}
use Rattle.std.proofs.lemmas.Grind.{common_steps}
use Rattle.answers.specs.Refusals.{first}
use Rattle.edit.specs.Calls.{run_answer}
use Rattle.run.proofs.Corners.{corner_is}
use Rattle.run.proofs.join_answer.Goals as goal

pub returns-then-face : goal.returns-then-face
unfolding run_answer first
returns-then-face c =
    let a = c.args in
    let faced = c.requires.0.faced in
    rw (corner_is a.s a.from.edge a.from.vertex a.found.now.faces faced, corner_is a.s a.to.edge a.to.vertex a.found.now.faces faced) (grind (arith, common_steps))

pub returns : goal.returns
unfolding run_answer first
returns c =
    let a = c.args in
    let faced = c.requires.0.faced in
    rw (corner_is a.s a.from.edge a.from.vertex a.found.now.faces faced, corner_is a.s a.to.edge a.to.vertex a.found.now.faces faced) (grind (arith, common_steps))
