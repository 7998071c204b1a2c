-- `tracefaces::returned` meets its contract. Assumes nothing.
use Rattle.std.proofs.Common.{◌≡◌, refl, ◌∙◌, List, ℕ, replicate, Result, Ok, Err}
use Rattle.std.specs.Result.{result_unwrap_or}
use Rattle.answers.specs.declared.Refusal.{Refusal}
use Rattle.tracefaces.specs.Call.{returned}
use Rattle.tracefaces.proofs.returned.Goals as goal

or_zeros : (answer : Result (List ℕ) Refusal) → result_unwrap_or answer (replicate 512 0) ≡ returned answer
unfolding returned
or_zeros (Ok table) = refl
or_zeros (Err r) = refl

pub returns : goal.returns
returns c = c.unwrap_or.ensures ∙ or_zeros c.args.answer
