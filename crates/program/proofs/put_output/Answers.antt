use Rattle.std.proofs.Common.{arith}
use Rattle.program.proofs.Cases.{too_long, load_refused, loaded_whole, load_accepted}
use Rattle.program.proofs.put_output.Goals as goal

pub put_refused-requires : goal.put_refused-requires
put_refused-requires c = rw (too_long _ c.if-input-gt-LONGEST_INPUT.true) at c.requires

pub returns-then-input-gt-LONGEST_INPUT : goal.returns-then-input-gt-LONGEST_INPUT
returns-then-input-gt-LONGEST_INPUT c = rw (too_long _ c.if-input-gt-LONGEST_INPUT.true) c.put_refused.ensures

pub put_edits-requires-clause-sound : goal.put_edits-requires-clause-sound
put_edits-requires-clause-sound c = loaded_whole c.args.input.now (omega arith) _ c.load_input.ensures _ c.in-Ok.is

pub put_edits-requires-clause-room : goal.put_edits-requires-clause-room
put_edits-requires-clause-room c = rw (load_accepted c.args.input.now (omega arith) _ c.load_input.ensures _ c.in-Ok.is) at c.requires

pub returns-in-Ok : goal.returns-in-Ok
returns-in-Ok c = rw (load_accepted c.args.input.now (omega arith) _ c.load_input.ensures _ c.in-Ok.is) c.put_edits.ensures

pub put_refused-requires-in-Err : goal.put_refused-requires-in-Err
put_refused-requires-in-Err c = rw (load_refused c.args.input.now (omega arith) _ c.load_input.ensures _ c.in-Err.is) at c.requires

pub returns-in-Err : goal.returns-in-Err
returns-in-Err c = rw (load_refused c.args.input.now (omega arith) _ c.load_input.ensures _ c.in-Err.is) c.put_refused-in-Err.ensures
