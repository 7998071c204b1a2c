-- What load and write sheet owe each other.
use Rattle.std.specs.Prelude.{◌≡◌, List, ◌++◌, ℕ, length, Ok}
use Rattle.clauses.specs.declared.Sheet.{Sheet}
use Rattle.sheet.specs.Darts.{Sized}
use Rattle.sheet.specs.Sound.{Sound}
use Rattle.layout.specs.Mixed.{MixedEnds}
use Rattle.load.specs.declared.Loaded.{Loaded}
use Rattle.load.specs.declared.Form.{Form}
use Rattle.load.specs.Load.{load, load_links, load_from}
use Rattle.writesheet.specs.Write.{sheet_text, write_sheet, buffer_after_sheet}

-- What load accepts is sound, and so is what the load of links accepts.
abbrev pub LoadedSound : Type 0
LoadedSound = (form : Form) (text : List ℕ) (l : Loaded) → load_from form text ≡ Ok l → Sized l.sheet × Sound l.sheet

-- What write sheet writes, load accepts: it gives the same sheet, and takes those bytes, whatever follows them.
abbrev pub RoundTripLaw : Type 0
RoundTripLaw = (s : Sheet) → Sized s → Sound s → (rest : List ℕ) → load (sheet_text s ++ rest) ≡ Ok (record { sheet = s; taken = length (sheet_text s) })

-- So it does with any of its line ends turned into 13 10.
abbrev pub MixedRoundTrip : Type 0
MixedRoundTrip = (s : Sheet) → Sized s → Sound s → (text : List ℕ) → MixedEnds (sheet_text s) text → (rest : List ℕ)
    → load (text ++ rest) ≡ Ok (record { sheet = s; taken = length text })

-- So a sheet that the load of links gave, written out, loads as the same sheet.
abbrev pub LinksRoundTrip : Type 0
LinksRoundTrip = (text : List ℕ) (l : Loaded) → load_links text ≡ Ok l → (rest : List ℕ)
    → load (sheet_text l.sheet ++ rest) ≡ Ok (record { sheet = l.sheet; taken = length (sheet_text l.sheet) })

-- So what the call leaves in its buffer loads as the sheet that was written.
abbrev pub WrittenLoads : Type 0
WrittenLoads = (s : Sheet) → Sized s → (buffer : List ℕ) (count : ℕ) → write_sheet s buffer ≡ Ok count
    → load (buffer_after_sheet s buffer) ≡ Ok (record { sheet = s; taken = count })
