-- `draw::face_columns` meets its contract. Assumes nothing.
use Rattle.std.proofs.Common.{refl}
use Rattle.draw.proofs.Laying.{all_within, levels_found}
use Rattle.draw.proofs.face_columns.Goals as goal

pub levels_within-requires : goal.levels_within-requires
levels_within-requires c = all_within c.requires.0 c.requires.1 c.faces_before-from.ensures c.faces_after-to.ensures

pub unwrap-requires : goal.unwrap-requires
unwrap-requires c = rw (levels_found c.requires.0 c.requires.1 c.faces_before-from.ensures c.faces_after-to.ensures c.levels_within.ensures) refl

pub returns : goal.returns
returns c = let q = levels_found c.requires.0 c.requires.1 c.faces_before-from.ensures c.faces_after-to.ensures c.levels_within.ensures in cc
