-- `tracefaces::trace_faces` meets its contract: a sheet that is not sound is refused, and of a sound one the faces are those that its check found. Assumes nothing.
use Rattle.std.proofs.Common.{rules, ◌≡◌, ◌∙◌, ap, Err}
use Rattle.sheet.specs.declared.Findings.{Findings}
use Rattle.sheet.specs.Inner.{findings_in}
use Rattle.sheet.proofs.Found.{not_found, found_is}
use Rattle.tracefaces.proofs.Answered.{not_sound, is_sound}
use Rattle.tracefaces.proofs.trace_faces.Goals as goal

pub returns-in_err-found : goal.returns-in_err-found
returns-in_err-found c =
    let e : c.from_residual.result ≡ Err c.in_err-found.field-0.0 = search rules in
    let (n, q) = not_found _ _ c.examine.ensures _ c.in_err-found.was in
    e ∙ ap Err q ∙ not_sound _ n

pub returns : goal.returns
unfolding findings_in
returns c =
    let (t, q) = found_is _ _ c.examine.ensures _ c.in_ok-found.was in
    is_sound _ t _ (ap (λ (f : Findings). f.faces) q)
