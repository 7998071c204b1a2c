use Rattle.program.proofs.Put.{refused_line_law}
use Rattle.program.proofs.put_refused.Goals as goal

pub put_line-requires-clause-room : goal.put_line-requires-clause-room
put_line-requires-clause-room c = rw (refused_line_law _ c.number.ensures) c.requires

pub returns : goal.returns
returns c = rw (refused_line_law _ c.number.ensures) at c.put_line.ensures
