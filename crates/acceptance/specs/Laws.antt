-- Which texts load accepts, and which number falls otherwise.
use Rattle.std.specs.Prelude.{◌≡◌, ◌↔◌, ◌⊎◌, List, ◌++◌, ℕ, length, take, drop, true, Ok, is_ok}
use Rattle.layout.specs.Mixed.{MixedEnds}
use Rattle.answers.specs.Answers.{answer_number}
use Rattle.clauses.specs.declared.Sheet.{Sheet}
use Rattle.sheet.specs.Darts.{Sized}
use Rattle.sheet.specs.Sound.{Sound}
use Rattle.writesheet.specs.Rings.{rotation}
use Rattle.writesheet.specs.Write.{sheet_lines}
use Rattle.orientation.specs.Links.{Choice}
use Rattle.load.specs.declared.Form.{Form}
use Rattle.load.specs.declared.Form.TheVariants.{Directed, Undirected}
use Rattle.load.specs.Load.{load_from, load, load_links, returned}
use Rattle.acceptance.specs.Loading.{LoadAnswered}

-- Both loads answer as laid down.
abbrev pub LoadAnsweredLaw : Type 0
LoadAnsweredLaw = (form : Form) (text : List ℕ) (present : Sheet)
    → LoadAnswered form text present (answer_number (load_from form text)) (returned present (load_from form text)).sheet (returned present (load_from form text)).taken

-- What is laid down for load leaves nothing free: no other answer is as laid down.
abbrev pub AnsweredOnce : Type 0
AnsweredOnce = (text : List ℕ) (present : Sheet) (number : ℕ) (sheet : Sheet) (taken : ℕ) → LoadAnswered Directed text present number sheet taken
    → (number ≡ answer_number (load text)) × (sheet ≡ (returned present (load text)).sheet) × (taken ≡ (returned present (load text)).taken)

-- Every answer that is as laid down for the load of links has the number that ours has, takes as many bytes, and its sheet has the same links.
abbrev pub LinksAnsweredOnce : Type 0
LinksAnsweredOnce = (text : List ℕ) (present : Sheet) (number : ℕ) (sheet : Sheet) (taken : ℕ) → LoadAnswered Undirected text present number sheet taken
    → (number ≡ answer_number (load_links text)) × (taken ≡ (returned present (load_links text)).taken) × Choice (returned present (load_links text)).sheet sheet

-- a list that begins t places later, and goes on from its front
unfoldable pub turned : ℕ → List ℕ → List ℕ
turned t ws = drop t ws ++ take t ws

-- a written sheet, but with the ring of bar v turned by `turn v` places
unfoldable pub turned_text : Sheet → (ℕ → ℕ) → List ℕ
turned_text s turn = sheet_lines s (λ v. turned (turn v) (rotation s v))

-- a sound sheet stands at the front of the text, each ring beginning anywhere, each line ending in 10 alone or in 13 10, and any bytes follow
pub record Begins (text : List ℕ) : Type 0 where
  pub sheet : Sheet
  pub sized : Sized sheet
  pub sound : Sound sheet
  pub turn : ℕ → ℕ
  pub lines : List ℕ
  pub mixed : MixedEnds (turned_text sheet turn) lines
  pub rest : List ℕ
  pub whole : text ≡ lines ++ rest

-- Load accepts the text of no bytes, and besides it exactly these texts.
abbrev pub LoadAccepts : Type 0
LoadAccepts = (text : List ℕ) → is_ok (load text) ≡ true ↔ ((length text ≡ 0) ⊎ Begins text)

-- Of a text that begins so it gives that sheet, and takes its bytes.
abbrev pub LoadGives : Type 0
LoadGives = (s : Sheet) → Sized s → Sound s → (turn : ℕ → ℕ) (lines : List ℕ) → MixedEnds (turned_text s turn) lines → (rest : List ℕ)
    → load (lines ++ rest) ≡ Ok (record { sheet = s; taken = length lines })
