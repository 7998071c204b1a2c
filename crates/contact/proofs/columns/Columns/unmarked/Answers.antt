use Rattle.contact.proofs.Covering.{unmarked_kept, unmarked_none}
use Rattle.contact.proofs.columns.Columns.unmarked.Goals as goal

pub returns-clause-kept : goal.returns-clause-kept
returns-clause-kept c = unmarked_kept

pub returns-clause-none : goal.returns-clause-none
returns-clause-none c = unmarked_none
