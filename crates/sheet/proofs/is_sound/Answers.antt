-- `sheet::is_sound` meets its contract. What `examine` answers. Assumes nothing.
use Rattle.std.proofs.Common.{ap, ◌∙◌, is_ok}
use Rattle.sheet.proofs.Clauses.{findings_answer}
use Rattle.sheet.proofs.is_sound.Goals as goal

pub returns : goal.returns
returns c = c.is_ok.ensures.value ∙ ap is_ok c.examine.ensures ∙ findings_answer _
