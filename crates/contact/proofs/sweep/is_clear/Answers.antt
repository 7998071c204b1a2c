-- `is_clear` meets its contract. Assumes nothing.
use Rattle.std.proofs.Common.{sym, ◌∙◌}
use Rattle.contact.proofs.Facts.{all_ends_on_says}
use Rattle.contact.proofs.Numbers.{well_formed_law}
use Rattle.contact.proofs.Meaning.{sweepable, swept_clear, ends_off}
use Rattle.contact.proofs.sweep.is_clear.Goals as goal

pub is_free-requires : goal.is_free-requires
is_free-requires c =
    let r = c.requires in
    sweepable r.sound ((well_formed_law _ _ _).0 r.formed) ((all_ends_on_says _ _).0 (sym c.all_ends_on.ensures ∙ c.if-all_ends_on.true)) r.bounded.0 r.bounded.1

pub returns-then-all_ends_on : goal.returns-then-all_ends_on
returns-then-all_ends_on c =
    let r = c.requires in
    let on = sym c.all_ends_on.ensures ∙ c.if-all_ends_on.true in
    swept_clear r.sound ((well_formed_law _ _ _).0 r.formed) ((all_ends_on_says _ _).0 on) _ c.is_free.ensures on

pub returns-else-all_ends_on : goal.returns-else-all_ends_on
returns-else-all_ends_on c = ends_off _ _ _ c.all_ends_on.ensures c.if-all_ends_on.false
