use Rattle.std.proofs.Common.{◌∙◌, rules}
use Rattle.contact.proofs.Covering.{column_marked}
use Rattle.contact.proofs.columns.Columns.cover_column.Goals as goal

pub returns : goal.returns
returns c = column_marked c.requires.0 c.args.x (search rules) (search rules) (λ e. c.if-mark.false (c.mark.ensures ∙ e))
