-- `insulationmask::insulation_mask` meets its contract: a sheet that is not sound is refused, and of a sound one the mask composed. Assumes nothing.
use Rattle.std.proofs.Common.{rules, ◌≡◌, sym, ◌∙◌, ap, Ok, Err}
use Rattle.sheet.proofs.Found.{not_found}
use Rattle.draw.proofs.Outcome.{found}
use Rattle.insulationmask.proofs.Outcome.{sound_answered, other_answered}
use Rattle.insulationmask.proofs.insulation_mask.Goals as goal

pub returns-in_err-found : goal.returns-in_err-found
returns-in_err-found c =
    let e : c.from_residual.result ≡ Err c.in_err-found.field-0.0 = search rules in
    let (n, q) = not_found _ _ c.examine.ensures _ c.in_err-found.was in
    e ∙ ap Err q ∙ sym (other_answered _ n)

pub face_columns-columns-requires : goal.face_columns-columns-requires
face_columns-columns-requires c = let F = found (search rules) c.examine.ensures c.in_ok-found.was in (F.has_sound, F.findings)

pub mask-requires : goal.mask-requires
mask-requires c =
    let F = found (search rules) c.examine.ensures c.in_ok-found.was in
    record { sound = F.has_sound; found = F.findings; columns = c.face_columns-columns.ensures }

pub returns : goal.returns
returns c =
    let F = found (search rules) c.examine.ensures c.in_ok-found.was in
    ap Ok c.mask.ensures ∙ sym (sound_answered _ F.is_so)
