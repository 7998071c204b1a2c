-- `draw::returned` meets its contract: the default of a drawing is the record of zeros. Assumes nothing.
use Rattle.std.proofs.Common.{rules, ◌≡◌, Result, Ok, Err}
use Rattle.std.specs.Result.{ResultUnwrapsOrElse}
use Rattle.answers.specs.declared.Refusal.{Refusal}
use Rattle.drawing.specs.declared.Drawing.{Drawing}
use Rattle.drawing.specs.Draw.{no_vertex_segment, no_edge_segment, zero_drawing, returned}
use Rattle.draw.proofs.Filling.{all_same}
use Rattle.draw.proofs.Outcome.{zeros}
use Rattle.draw.proofs.returned.Goals as goal

or_zeros : (P : Drawing → Type 0) → ((d : Drawing) → P d → d ≡ zero_drawing) → (answer : Result Drawing Refusal) (d : Drawing) → ResultUnwrapsOrElse answer P d → d ≡ returned answer
unfolding returned
or_zeros P z (Ok x) d e = e
or_zeros P z (Err r) d p = z d p

pub returns : goal.returns
returns c =
    or_zeros _ (λ d e. zeros d e.0 e.1.0 (all_same no_vertex_segment (λ x p. search rules) _ _ e.1.1.0) (all_same no_edge_segment (λ x p. search rules) _ _ e.1.1.1))
    c.args.answer _ c.unwrap_or_default.ensures
