-- The keys of the lines of a sheet.
use Rattle.std.specs.Prelude.{ℕ, List}
use Rattle.text.specs.Bytes.{bytes}

abbrev pub bars_key : List ℕ
bars_key = bytes "bars="

abbrev pub wires_key : List ℕ
wires_key = bytes "wires="

abbrev pub wire_key : List ℕ
wire_key = bytes "wire="

abbrev pub link_key : List ℕ
link_key = bytes "link="

abbrev pub around_key : List ℕ
around_key = bytes "around="
