-- The lines of a sheet's text, and what is found before they are written.
use Rattle.std.specs.Prelude.{ℕ, ◌<◌, ◌≡◌, List, [], ◌∷◌, get_or}
use Rattle.counting.specs.Below.{join_below}
use Rattle.text.specs.Written.{line}
use Rattle.clauses.specs.declared.Sheet.{Sheet}
use Rattle.sheet.specs.Darts.{darts, tail, head}
use Rattle.text.specs.Keys.{wire_key, around_key}
use Rattle.writesheet.specs.Rings.{ring_from, lowest_dart, rotation}

abbrev pub edge_text : Sheet → ℕ → List ℕ
edge_text s k = line wire_key (tail s k ∷ head s k ∷ [])

abbrev pub edges_text : Sheet → List ℕ
edges_text s = join_below (edge_text s) s.edges

abbrev pub ring_text : Sheet → ℕ → List ℕ
ring_text s v = line around_key (rotation s v)

abbrev pub rings_text : Sheet → List ℕ
rings_text s = join_below (ring_text s) s.vertices

-- the line of the ring from dart `first` on
abbrev pub ring_line : Sheet → ℕ → List ℕ
ring_line s first = line around_key (ring_from (darts s) s first first)

-- a table of the darts of the vertices' lowest edges
pub record Firsts (s : Sheet) (firsts : List ℕ) : Type 0 where
  pub each : (v : ℕ) → v < s.vertices → get_or firsts v 0 ≡ lowest_dart s v
