-- `draw::draw` meets its contract: a sheet that is not sound is refused, and the drawing of a sound one composed. Assumes nothing.
use Rattle.std.proofs.Common.{rules, ◌≡◌, ◌∙◌, ap, Err}
use Rattle.sheet.proofs.Found.{not_found}
use Rattle.draw.proofs.Laying.{all_beside, all_small, all_laid}
use Rattle.draw.proofs.Outcome.{not_sound, is_sound, found}
use Rattle.draw.proofs.draw.Goals as goal

pub returns-in_err-found : goal.returns-in_err-found
returns-in_err-found c =
    let e : c.from_residual.result ≡ Err c.in_err-found.field-0.0 = search rules in
    let (n, q) = not_found _ _ c.examine.ensures _ c.in_err-found.was in
    e ∙ ap Err q ∙ not_sound _ n

pub face_columns-level-requires : goal.face_columns-level-requires
face_columns-level-requires c = let F = found (search rules) c.examine.ensures c.in_ok-found.was in (F.has_sound, F.findings)

pub edge_columns-columns-requires : goal.edge_columns-columns-requires
edge_columns-columns-requires c = let F = found (search rules) c.examine.ensures c.in_ok-found.was in all_beside F.has_sound F.findings c.face_columns-level.ensures

pub edge_ends-ends-requires : goal.edge_ends-ends-requires
edge_ends-ends-requires c = let F = found (search rules) c.examine.ensures c.in_ok-found.was in all_beside F.has_sound F.findings c.face_columns-level.ensures

pub compose-requires : goal.compose-requires
compose-requires c =
    let F = found (search rules) c.examine.ensures c.in_ok-found.was in
    all_small F.has_sound F.findings c.face_columns-level.ensures c.edge_columns-columns.ensures

pub returns : goal.returns
returns c =
    let F = found (search rules) c.examine.ensures c.in_ok-found.was in
    is_sound _ F.is_so _ (all_laid F.has_sound F.findings c.face_columns-level.ensures c.edge_columns-columns.ensures c.edge_ends-ends.ensures c.compose.ensures)
