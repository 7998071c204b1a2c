-- Every list of calls that a machine can hold is encoded by some numbers and a text.
use Rattle.std.specs.Prelude.{ℕ, ◌*◌, ◌^◌, ◌<◌, ◌≡◌, List, [], ◌∷◌, ◌++◌, length}
use Rattle.demand.specs.Calls.{Call}
use Rattle.demand.specs.Calls.Call.{LoadText, PutIn, RunEdge, TakeOutEdge, TakeOutVertex}
use Rattle.replay.specs.Encoded.{calls_of}

-- each number of the list is below the bound
pub data Below (bound : ℕ) : List ℕ → Type 0 where
  none : Below bound []
  more : {x : ℕ} {xs : List ℕ} → x < bound → Below bound xs → Below bound (x ∷ xs)

-- the numbers of a call fit 64 bits, and its text is bytes
unfoldable pub Fitting : Call → Type 0
Fitting (LoadText form text) = Below 256 text
Fitting (PutIn k) = k < 2 ^ 64
Fitting (RunEdge a p b q) = (a < 2 ^ 64) × (p < 2 ^ 64) × (b < 2 ^ 64) × (q < 2 ^ 64)
Fitting (TakeOutEdge k) = k < 2 ^ 64
Fitting (TakeOutVertex v) = v < 2 ^ 64

pub data AllFitting : List Call → Type 0 where
  none : AllFitting []
  more : {c : Call} {cs : List Call} → Fitting c → AllFitting cs → AllFitting (c ∷ cs)

-- the text of a call, and all texts of a list, one after the other
unfoldable pub text_in : Call → List ℕ
text_in (LoadText form text) = text
text_in (PutIn k) = []
text_in (RunEdge a p b q) = []
text_in (TakeOutEdge k) = []
text_in (TakeOutVertex v) = []

unfoldable pub texts : List Call → List ℕ
texts [] = []
texts (c ∷ cs) = text_in c ++ texts cs

-- numbers of 64 bits, five a call, that encode the list with all its texts
pub record Encoding (cs : List Call) : Type 0 where
  pub numbers : List ℕ
  pub encodes : calls_of numbers (texts cs) ≡ cs
  pub numbers_length : length numbers ≡ 5 * length cs
  pub numbers_fit : Below (2 ^ 64) numbers
  pub bytes : Below 256 (texts cs)

abbrev pub Encoded : Type 0
Encoded = (cs : List Call) → AllFitting cs → length (texts cs) < 2 ^ 64 → Encoding cs
