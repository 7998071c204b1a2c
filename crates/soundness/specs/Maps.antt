-- A sheet read as a map of darts, with any rows; and with its own.
use Rattle.std.specs.Prelude.{ℕ}
use Rattle.planarmap.specs.Map.{Map}
use Rattle.clauses.specs.declared.Sheet.{Sheet}
use Rattle.clauses.specs.Darts.{opposite, is_tail}
use Rattle.sheet.specs.Darts.{darts, next, vertex}
use Rattle.sheet.specs.Check.{face_count, face, row}

abbrev pub map_with : Sheet → (ℕ → ℕ) → Map
map_with s row = record {
  darts = darts s;
  vertices = s.vertices;
  edges = s.edges;
  faces = face_count s;
  root = 0;
  opposite = opposite;
  next = next s;
  out = is_tail;
  vertex = vertex s;
  face = face s;
  row = row;
}

abbrev pub map_of : Sheet → Map
map_of s = map_with s (row s)
