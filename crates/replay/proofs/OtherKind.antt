-- A kind that there is not: it puts into a wire that no sheet has. Assumes nothing.
use Rattle.std.proofs.Common.{◌≡◌, ◌<◌, ◌^◌, true, refl, Err, arith, le-leb}
use Rattle.clauses.specs.declared.Sheet.{Sheet}
use Rattle.answers.specs.declared.Refusal.TheVariants.{NotInSheet}
use Rattle.answers.specs.Refusals.{first, answering}
use Rattle.sheet.specs.Check.{sound}
use Rattle.edit.specs.Calls.{put_in_answer, put_in_call}

pub no_such_edge : (s : Sheet) → sound s ≡ true → s.edges < 2 ^ 64 → Err NotInSheet ≡ put_in_call s 18446744073709551615
unfolding put_in_answer first answering
no_such_edge s S h = rw (S, le-leb s.edges 18446744073709551615 (omega arith)) refl
