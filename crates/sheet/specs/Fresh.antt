-- The fresh sheet: bars 0 and 1, wires 0 and 1 both from 0 to 1.
use Rattle.std.specs.Prelude.{◌∷◌, replicate}
use Rattle.clauses.specs.declared.Sheet.{Sheet}

unfoldable pub fresh_sheet : Sheet
fresh_sheet = record {
  vertices = 2;
  edges = 2;
  tails = replicate 256 0;
  heads = 1 ∷ 1 ∷ replicate 254 0;
  nexts = 2 ∷ 3 ∷ 0 ∷ 1 ∷ replicate 508 0;
}
