-- Load as document 01 lays it down: 'Line by line; on a line, shape first: 1 … 2 … 3 … 4 … After the last line: 5, 6, 7, 8.', and document 02 a load of no bytes
-- and the load of links, which is the second form of it.
use Rattle.std.specs.Prelude.{ℕ, suc, ◌≤◌, ◌<◌, ◌≡◌, ◌≢◌, ◌⊎◌, List, [], ◌∷◌, ◌++◌, get_or, length}
use Rattle.counting.specs.Paths.{Circle}
use Rattle.text.specs.Keys.{bars_key, wires_key, around_key}
use Rattle.layout.specs.Layout.{LineAt}
use Rattle.answers.specs.Clauses.{Clause, ◌when◌, First}
use Rattle.clauses.specs.Darts.{End, HasEnd}
use Rattle.clauses.specs.declared.Sheet.{Sheet}
use Rattle.sheet.specs.Darts.{Sized, sheet_of, tail, head, next}
use Rattle.sheet.specs.Fresh.{fresh_sheet}
use Rattle.sheet.specs.Sound.{Unused, Leads, Poles, Euler}
use Rattle.orientation.specs.Links.{Choice, Bipolar, Orientable}
use Rattle.load.specs.declared.Form.{Form}
use Rattle.load.specs.declared.Form.TheVariants.{Directed, Undirected}
use Rattle.load.specs.Load.{edge_key}

-- ---- what load answers

-- 0 or the refusal number, the sheet returned and the bytes taken
pub record Result : Type 0 where
  pub number : ℕ
  pub sheet : Sheet
  pub taken : ℕ

-- The present sheet comes back, 0 bytes taken.
abbrev pub refusal : Sheet → ℕ → Result
refusal present number = record { number = number; sheet = present; taken = 0 }

-- the sheet, and how many bytes of the text it took
abbrev pub acceptance : Sheet → ℕ → Result
acceptance s taken = record { number = 0; sheet = s; taken = taken }

-- ---- lines

-- n or m outside its limits, which are 2 and `most`
abbrev pub Outside : ℕ → ℕ → Type 0
Outside most n = (n < 2) ⊎ (most < n)

-- a bar not in the sheet of n bars, or equal bars
abbrev pub BadEnds : ℕ → ℕ → ℕ → Type 0
BadEnds n a b = (n ≤ a) ⊎ (n ≤ b) ⊎ (a ≡ b)

-- the bar's wires, each once
pub record ItsWires (tails heads : List ℕ) (v : ℕ) (ws : List ℕ) : Type 0 where
  pub wires : (i : ℕ) → i < length ws → get_or ws i 0 < length tails
  pub its : (i : ℕ) → i < length ws → HasEnd tails heads (get_or ws i 0) v
  pub all : (k : ℕ) → k < length tails → HasEnd tails heads k v → (i : ℕ) × (i < length ws) × (get_or ws i 0 ≡ k)
  pub once : (i j : ℕ) → i < length ws → j < length ws → get_or ws i 0 ≡ get_or ws j 0 → i ≡ j

-- ---- the directions of links

-- n bars and m wires, or links, of these lists, with no rings
abbrev pub edges_only : ℕ → (firsts seconds : List ℕ) → Sheet
edges_only n firsts seconds = sheet_of n (length firsts) firsts seconds []

-- Tails and heads for links between n bars: each wire is its link, as it stands or turned round, and link 0 as it stands. The rules on circles and on bars 0 and 1
-- hold where some choice of directions makes them hold.
pub record Chosen (n : ℕ) (firsts seconds tails heads : List ℕ) : Type 0 where
  pub choice : Choice (edges_only n firsts seconds) (edges_only n tails heads)
  pub good : Orientable (edges_only n firsts seconds) → Bipolar (edges_only n tails heads)

-- The tails and the heads that the lines of edges give: those of `wire=` lines as they stand, those of `link=` lines by a choice of directions.
unfoldable pub Directions : Form → (n : ℕ) (firsts seconds tails heads : List ℕ) → Type 0
Directions Directed n firsts seconds tails heads = (tails ≡ firsts) × (heads ≡ seconds)
Directions Undirected n firsts seconds tails heads = Chosen n firsts seconds tails heads

-- ---- the sheet that the lines describe

-- clockwise, wire y comes after wire w: it is the next on the bar's line, or the first where w is the last
pub data After (ws : List ℕ) (w y : ℕ) : Type 0 where
  on_line : (i : ℕ) → suc i < length ws → get_or ws i 0 ≡ w → get_or ws (suc i) 0 ≡ y → After ws w y
  around_again : (i : ℕ) → suc i ≡ length ws → get_or ws i 0 ≡ w → get_or ws 0 0 ≡ y → After ws w y

-- n bars, wires with these tails and heads, and for each bar the list of its wires clockwise
pub record Describes (n : ℕ) (tails heads : List ℕ) (rings : List (List ℕ)) (s : Sheet) : Type 0 where
  pub sized : Sized s
  pub vertices : s.vertices ≡ n
  pub edges : s.edges ≡ length tails
  pub its_tails : (k : ℕ) → k < length tails → tail s k ≡ get_or tails k 0
  pub its_heads : (k : ℕ) → k < length tails → head s k ≡ get_or heads k 0
  pub its_nexts : (v w y d e : ℕ) → v < n → After (get_or rings v []) w y → End tails heads w v d → End tails heads y v e → next s d ≡ e
  pub unused : Unused s

-- wire 0 isn't from 0 to 1
abbrev pub NotRooted : Sheet → Type 0
NotRooted s = ¬ ((tail s 0 ≡ 0) × (head s 0 ≡ 1))

-- After the last line: 5 wire 0 isn't from 0 to 1. 6 a directed circle. 7 the rule on bars 0 and 1. 8 n − m + f isn't 2.
-- Of links: 5 link 0 isn't `link=0,1`. 19 no choice of directions makes the rules on circles and on bars 0 and 1 hold. 8.
unfoldable pub after_last : Form → Sheet → List Clause
after_last Directed s = 5 when NotRooted s ∷ 6 when Circle (Leads s) ∷ 7 when (¬ Poles s) ∷ 8 when (¬ Euler s) ∷ []
after_last Undirected s = 5 when NotRooted s ∷ 19 when (¬ Orientable s) ∷ 8 when (¬ Euler s) ∷ []

-- ---- line by line; on a line, shape first

-- n lines `around=` with the bar's wires clockwise, at least one, beginning anywhere: those after the ones that gave `rings`
pub data AroundLines (form : Form) (text : List ℕ) (present : Sheet) (r : Result) (n : ℕ) (tails heads : List ℕ) : List (List ℕ) → ℕ → Type 0 where
  -- 1 text or line not of the layout
  no_around : {rings : List (List ℕ)} {at : ℕ} → length rings < n → ((ws : List ℕ) (after : ℕ) → ¬ LineAt around_key text at ws after)
      → r ≡ refusal present 1 → AroundLines form text present r n tails heads rings at
  -- 4 an around line that isn't the bar's wires, each once
  bad_around : {rings : List (List ℕ)} {at : ℕ} {ws : List ℕ} {after : ℕ} → length rings < n → LineAt around_key text at ws after → ¬ ItsWires tails heads (length rings) ws
      → r ≡ refusal present 4 → AroundLines form text present r n tails heads rings at
  around : {rings : List (List ℕ)} {at : ℕ} {ws : List ℕ} {after : ℕ} → length rings < n → LineAt around_key text at ws after → ItsWires tails heads (length rings) ws
      → AroundLines form text present r n tails heads (rings ++ ws ∷ []) after → AroundLines form text present r n tails heads rings at
  -- after the last line: 5, 6, 7 or 8, of links 5, 19 or 8
  refused_last : {rings : List (List ℕ)} {at number : ℕ} {s : Sheet} → length rings ≡ n → Describes n tails heads rings s → First (after_last form s) number → number ≢ 0
      → r ≡ refusal present number → AroundLines form text present r n tails heads rings at
  accepted_last : {rings : List (List ℕ)} {at : ℕ} {s : Sheet} → length rings ≡ n → Describes n tails heads rings s → First (after_last form s) 0
      → r ≡ acceptance s at → AroundLines form text present r n tails heads rings at

-- m lines `wire=tail,head`, or of links `link=a,b`: those after the ones that gave the bars `firsts` and `seconds`
pub data EdgeLines (form : Form) (text : List ℕ) (present : Sheet) (r : Result) (n m : ℕ) : List ℕ → List ℕ → ℕ → Type 0 where
  -- 1 text or line not of the layout
  no_edge : {firsts seconds : List ℕ} {at : ℕ} → length firsts < m → ((a b after : ℕ) → ¬ LineAt (edge_key form) text at (a ∷ b ∷ []) after)
      → r ≡ refusal present 1 → EdgeLines form text present r n m firsts seconds at
  -- 3 such a line with a bar not in the sheet, or equal bars
  bad_edge : {firsts seconds : List ℕ} {at a b after : ℕ} → length firsts < m → LineAt (edge_key form) text at (a ∷ b ∷ []) after → BadEnds n a b
      → r ≡ refusal present 3 → EdgeLines form text present r n m firsts seconds at
  edge : {firsts seconds : List ℕ} {at a b after : ℕ} → length firsts < m → LineAt (edge_key form) text at (a ∷ b ∷ []) after → ¬ BadEnds n a b
      → EdgeLines form text present r n m (firsts ++ a ∷ []) (seconds ++ b ∷ []) after → EdgeLines form text present r n m firsts seconds at
  -- after the last of them
  last_edge : {firsts seconds tails heads : List ℕ} {at : ℕ} → length firsts ≡ m → Directions form n firsts seconds tails heads
      → AroundLines form text present r n tails heads [] at → EdgeLines form text present r n m firsts seconds at

-- the line `wires=m`
pub data WiresLine (form : Form) (text : List ℕ) (present : Sheet) (r : Result) (n at : ℕ) : Type 0 where
  -- 1 text or line not of the layout
  no_wires : ((m after : ℕ) → ¬ LineAt wires_key text at (m ∷ []) after) → r ≡ refusal present 1 → WiresLine form text present r n at
  -- 2 m outside its limits
  bad_wires : {m after : ℕ} → LineAt wires_key text at (m ∷ []) after → Outside 256 m → r ≡ refusal present 2 → WiresLine form text present r n at
  wires : {m after : ℕ} → LineAt wires_key text at (m ∷ []) after → ¬ Outside 256 m → EdgeLines form text present r n m [] [] after → WiresLine form text present r n at

-- the line `bars=n`
pub data BarsLine (form : Form) (text : List ℕ) (present : Sheet) (r : Result) (at : ℕ) : Type 0 where
  -- 1 text or line not of the layout
  no_bars : ((n after : ℕ) → ¬ LineAt bars_key text at (n ∷ []) after) → r ≡ refusal present 1 → BarsLine form text present r at
  -- 2 n outside its limits
  bad_bars : {n after : ℕ} → LineAt bars_key text at (n ∷ []) after → Outside 128 n → r ≡ refusal present 2 → BarsLine form text present r at
  bars : {n after : ℕ} → LineAt bars_key text at (n ∷ []) after → ¬ Outside 128 n → WiresLine form text present r n after → BarsLine form text present r at

-- ---- no bytes, or some

-- The load of this form answers `number`, `sheet` and `taken` to the text and the present sheet. A load of no bytes yields the fresh sheet with 0 bytes taken; text of one byte or more
-- is read line by line from its front.
pub data LoadAnswered (form : Form) (text : List ℕ) (present : Sheet) (number : ℕ) (sheet : Sheet) (taken : ℕ) : Type 0 where
  no_bytes : length text ≡ 0 → record { number = number; sheet = sheet; taken = taken } ≡ acceptance fresh_sheet 0 → LoadAnswered form text present number sheet taken
  some_bytes : 1 ≤ length text → BarsLine form text present (record { number = number; sheet = sheet; taken = taken }) 0 → LoadAnswered form text present number sheet taken
