use Rattle.std.proofs.Common.{refl}
use Rattle.verification.proofs.Lines.{verify_bound}
use Rattle.program.proofs.Room.{output_fits, output_within, output_in_front}
use Rattle.verify.proofs.VerifyProgram.print.Goals as goal

pub unwrap-requires : goal.unwrap-requires
unwrap-requires c = rw (output_fits _ _ _ c.requires (verify_bound _) _ _ c.verify.ensures) refl

pub returns-clause-in_bounds : goal.returns-clause-in_bounds
returns-clause-in_bounds c = output_within _ _ _ c.requires (verify_bound _) _ _ c.verify.ensures _ c.unwrap.ensures c.verify.auto.buffer

pub returns-clause-output : goal.returns-clause-output
returns-clause-output c = output_in_front _ _ _ c.requires (verify_bound _) _ _ c.verify.ensures _ c.unwrap.ensures
