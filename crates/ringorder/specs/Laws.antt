-- The law of the test of the rings.
use Rattle.std.specs.Prelude.{◌≡◌, ◌↔◌, true}
use Rattle.clauses.specs.declared.Sheet.{Sheet}
use Rattle.sheet.specs.Sound.{Sound}
use Rattle.drawing.specs.declared.Drawing.{Drawing}
use Rattle.drawing.specs.Clear.{InOrder}
use Rattle.ringorder.specs.Order.{in_order}

abbrev pub InOrderLaw : Type 0
InOrderLaw = (s : Sheet) (D : Drawing) → Sound s → in_order s D ≡ true ↔ InOrder s D
