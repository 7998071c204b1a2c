-- The plates checked by hand, as one table about the definitions: what `plate` prints for each input, and what is said of its sheet. (`|` stands for byte 10, `^` for byte 13.)
use Rattle.std.specs.Prelude.{ℕ, Bool, true, false, cond, ◌&&◌, List, [], ◌∷◌, map, eqb}
use Prim.Native.String.{String}
use Rattle.text.specs.Bytes.{bytes}
use Rattle.clauses.specs.declared.Sheet.{Sheet}
use Rattle.sheet.specs.Fresh.{fresh_sheet}
use Rattle.sheet.specs.Check.{face_count}
use Rattle.sheet.specs.Inner.{structured}
use Rattle.program.specs.Program.{input_form, plate_output}
use Rattle.examples.specs.Described.{described}

-- a text with its line ends
unfoldable pub lines : String → List ℕ
lines text = map (λ b. cond (eqb b 124) 10 (cond (eqb b 94) 13 b)) (bytes text)

-- what is said of the sheet that an input describes: no more, that it is the fresh one, how many faces it has
pub data Remark : Type 0 where
  none : Remark
  fresh : Remark
  faces : ℕ → Remark

pub record Plate : Type 0 where
  pub sheet : Remark
  pub input : List ℕ
  pub output : List ℕ

abbrev plate_of : Remark → String → String → Plate
plate_of r i o = record { sheet = r; input = lines i; output = lines o }

abbrev plate : String → String → Plate
plate = plate_of none

unfoldable pub plates : List Plate
plates =
    -- P1 Fresh: rows 2, columns 2, wire 1 in column 0, wire 0 in column 1
    plate_of fresh "bars=2|wires=2|wire=0,1|wire=0,1|around=0,1|around=0,1|" "rows=2|columns=2|bar=0,0,1|bar=1,0,1|wire=1,0,1|wire=0,0,1|"
    -- P2 Three wires 0 to 1, rings 0,1,2 and 0,2,1: columns of wires 0, 1, 2 are 2, 0, 1
    ∷ plate "bars=2|wires=3|wire=0,1|wire=0,1|wire=0,1|around=0,1,2|around=0,2,1|" "rows=2|columns=3|bar=0,0,2|bar=1,0,2|wire=2,0,1|wire=0,0,1|wire=1,0,1|"
    -- P3 The same with both rings 0,1,2: one face, refused 8
    ∷ plate_of (faces 1) "bars=2|wires=3|wire=0,1|wire=0,1|wire=0,1|around=0,1,2|around=0,1,2|" "refused=8|"
    -- P4 Four bars; wires 0-1, 0-2, 2-1, 0-3, 3-1, 2-3; rings 1,3,0; 0,4,2; 2,5,1; 4,3,5: four faces
    ∷ plate_of (faces 4) "bars=4|wires=6|wire=0,1|wire=0,2|wire=2,1|wire=0,3|wire=3,1|wire=2,3|around=1,3,0|around=0,4,2|around=2,5,1|around=4,3,5|" "rows=4|columns=4|bar=0,0,3|bar=3,0,3|bar=1,0,1|bar=2,1,2|wire=3,0,3|wire=0,0,1|wire=0,1,3|wire=2,0,2|wire=1,2,3|wire=1,1,2|"
    -- P5 The input of the section on the program
    ∷ plate "bars=2|wires=2|wire=0,1|wire=0,1|around=0,1|around=0,1|in=1|run=0,1,2,2|" "rows=3|columns=3|bar=0,0,2|bar=2,0,2|bar=1,0,1|wire=2,0,2|wire=0,0,1|wire=0,1,2|wire=1,0,1|"
    -- P6 Then `out=3`: accepted
    ∷ plate "bars=2|wires=2|wire=0,1|wire=0,1|around=0,1|around=0,1|in=1|run=0,1,2,2|out=3|" "rows=3|columns=2|bar=0,0,1|bar=2,0,1|bar=1,0,0|wire=1,0,2|wire=0,0,1|wire=0,1,2|"
    -- P7 Instead `out=2`: 15
    ∷ plate "bars=2|wires=2|wire=0,1|wire=0,1|around=0,1|around=0,1|in=1|run=0,1,2,2|out=2|" "refused=15|rows=3|columns=3|bar=0,0,2|bar=2,0,2|bar=1,0,1|wire=2,0,2|wire=0,0,1|wire=0,1,2|wire=1,0,1|"
    -- P8 Fresh, `out=1`: 15; `in=0`: 12
    ∷ plate_of fresh "bars=2|wires=2|wire=0,1|wire=0,1|around=0,1|around=0,1|out=1|in=0|" "refused=15|refused=12|rows=2|columns=2|bar=0,0,1|bar=1,0,1|wire=1,0,1|wire=0,0,1|"
    -- P9 P4 with `run=3,5,2,2`: both corners in one face, 14; with `run=3,4,2,2`: 13
    ∷ plate "bars=4|wires=6|wire=0,1|wire=0,2|wire=2,1|wire=0,3|wire=3,1|wire=2,3|around=1,3,0|around=0,4,2|around=2,5,1|around=4,3,5|run=3,5,2,2|run=3,4,2,2|" "refused=14|refused=13|rows=4|columns=4|bar=0,0,3|bar=3,0,3|bar=1,0,1|bar=2,1,2|wire=3,0,3|wire=0,0,1|wire=0,1,3|wire=2,0,2|wire=1,2,3|wire=1,1,2|"
    -- `bars=128` passes (the next line is missing), 129 is refused 2; `bars=1` is refused 2; `bars=02` is refused 1
    ∷ plate "bars=128|" "refused=1|"
    ∷ plate "bars=129|" "refused=2|"
    ∷ plate "bars=1|" "refused=2|"
    ∷ plate "bars=02|" "refused=1|"
    -- Line ends from the packaging line: P8 with lines ended in 13 10; in both ways, then 13 13 10, and 13 at the end of the input: 1
    ∷ plate_of fresh "bars=2^|wires=2^|wire=0,1^|wire=0,1^|around=0,1^|around=0,1^|out=1^|in=0^|" "refused=15|refused=12|rows=2|columns=2|bar=0,0,1|bar=1,0,1|wire=1,0,1|wire=0,0,1|"
    ∷ plate_of fresh "bars=2^|wires=2|wire=0,1|wire=0,1^|around=0,1|around=0,1^|out=1|in=0^|in=1^^|in=1^" "refused=15|refused=12|refused=1|refused=1|rows=2|columns=2|bar=0,0,1|bar=1,0,1|wire=1,0,1|wire=0,0,1|"
    -- A 13 anywhere else in a sheet: `bars=129` would be 2, but 13 alone, 13 13 10 and 10 13 are refused 1
    ∷ plate "bars=129^" "refused=1|"
    ∷ plate "bars=129^^|" "refused=1|"
    ∷ plate "bars=2|^wires=1|" "refused=1|"
    -- Bars long enough for the clip: P4 with `in=1`: bar 4 goes from column 0 to 1
    ∷ plate "bars=4|wires=6|wire=0,1|wire=0,2|wire=2,1|wire=0,3|wire=3,1|wire=2,3|around=1,3,0|around=0,4,2|around=2,5,1|around=4,3,5|in=1|" "rows=5|columns=4|bar=0,0,3|bar=4,0,3|bar=2,0,1|bar=3,1,2|bar=1,0,1|wire=3,0,4|wire=0,0,1|wire=0,2,4|wire=2,0,3|wire=1,3,4|wire=1,2,3|wire=0,1,2|"
    -- A blank file: the fresh sheet. A byte 10, 13 10, a space, edit lines: some bytes, and 1
    ∷ plate_of fresh "" "rows=2|columns=2|bar=0,0,1|bar=1,0,1|wire=1,0,1|wire=0,0,1|"
    ∷ plate "|" "refused=1|"
    ∷ plate "^|" "refused=1|"
    ∷ plate " " "refused=1|"
    ∷ plate "in=1|run=0,1,2,2|" "refused=1|"
    -- Links, which can be directed in one way: 0 to 2 to 1
    ∷ plate_of (faces 2) "bars=3|wires=3|link=0,1|link=1,2|link=2,0|around=0,2|around=0,1|around=1,2|" "rows=3|columns=2|bar=0,0,1|bar=2,0,1|bar=1,0,0|wire=1,0,2|wire=0,1,2|wire=0,0,1|"
    -- They can't where a bar hangs on one link, nor where two parts are joined at one bar: 19; so too where n − m + f isn't 2
    ∷ plate "bars=3|wires=3|link=0,1|link=0,1|link=0,2|around=0,1,2|around=0,1|around=2|" "refused=19|"
    ∷ plate "bars=4|wires=5|link=0,1|link=0,1|link=0,2|link=2,3|link=3,0|around=0,1,2,4|around=0,1|around=2,3|around=3,4|" "refused=19|"
    ∷ plate "bars=3|wires=4|link=0,1|link=0,1|link=0,1|link=2,0|around=0,1,2,3|around=0,1,2|around=3|" "refused=19|"
    -- Link 0 is `link=0,1`, else 5; P3 of links: 8; a `wire=` line among links, and a `link=` line among wires: 1
    ∷ plate "bars=2|wires=2|link=1,0|link=0,1|around=0,1|around=0,1|" "refused=5|"
    ∷ plate "bars=2|wires=3|link=0,1|link=1,0|link=0,1|around=0,1,2|around=0,1,2|" "refused=8|"
    ∷ plate "bars=2|wires=2|link=0,1|wire=0,1|around=0,1|around=0,1|" "refused=1|"
    ∷ plate "bars=2|wires=2|wire=0,1|link=0,1|around=0,1|around=0,1|" "refused=1|"
    ∷ []

-- two texts are the same
unfoldable pub same : List ℕ → List ℕ → Bool
same [] [] = true
same [] (y ∷ ys) = false
same (x ∷ xs) [] = false
same (x ∷ xs) (y ∷ ys) = eqb x y && same xs ys

unfoldable pub same_sheet : Sheet → Sheet → Bool
same_sheet s t =
    eqb s.vertices t.vertices && eqb s.edges t.edges && same s.tails t.tails && same s.heads t.heads && same s.nexts t.nexts

-- the sheet is as the remark says
unfoldable pub as_remarked : Remark → Sheet → Bool
as_remarked none s = true
as_remarked fresh s = same_sheet s fresh_sheet
as_remarked (faces f) s = structured s && eqb (face_count s) f

-- the test: `plate` prints what the table says, and the sheet is as it says, of each plate
unfoldable pub all_printed : List Plate → Bool
all_printed [] = true
all_printed (p ∷ ps) = (same (plate_output p.input) p.output && as_remarked p.sheet (described (input_form p.input) p.input)) && all_printed ps
