-- Every list of calls has an encoding. Assumes nothing.
use Rattle.std.proofs.Common.{ℕ, ◌+◌, ◌*◌, ◌^◌, ◌<◌, ◌≡◌, refl, sym, ◌∙◌, ap, ap₂, List, [], ◌∷◌, ◌++◌, append_assoc, arith, length, length-append, drop}
use Rattle.std.proofs.Math.Seq.{slice, take-append-add, take-append_seam, drop-append_seam}
use Rattle.load.specs.declared.Form.{Form}
use Rattle.load.specs.declared.Form.TheVariants.{Directed, Undirected}
use Rattle.demand.specs.Calls.{Call}
use Rattle.demand.specs.Calls.Call.{LoadText, PutIn, RunEdge, TakeOutEdge, TakeOutVertex}
use Rattle.replay.specs.Encoded.{call_by, calls_of}
use Rattle.replay.specs.Laws.{Below, Fitting, AllFitting, text_in, texts, Encoded}
use Rattle.replay.specs.Laws.Below.{none, more}
use Rattle.replay.specs.Laws.AllFitting.{more as and_more}

-- the kind of a load
abbrev load_kind : Form → ℕ
load_kind Directed = 4
load_kind Undirected = 6

by_load_kind : (form : Form) (a p : ℕ) (text : List ℕ) → call_by (load_kind form) a p 0 0 text ≡ LoadText form (slice a p text)
unfolding call_by
by_load_kind Directed a p text = refl
by_load_kind Undirected a p text = refl

-- the numbers of a list of calls whose first text begins at a place
unfoldable numbers_of : ℕ → List Call → List ℕ
numbers_of at [] = []
numbers_of at (LoadText form text ∷ cs) = load_kind form ∷ at ∷ (at + length text) ∷ 0 ∷ 0 ∷ numbers_of (at + length text) cs
numbers_of at (PutIn k ∷ cs) = 0 ∷ k ∷ 0 ∷ 0 ∷ 0 ∷ numbers_of at cs
numbers_of at (RunEdge a p b q ∷ cs) = 1 ∷ a ∷ p ∷ b ∷ q ∷ numbers_of at cs
numbers_of at (TakeOutEdge k ∷ cs) = 2 ∷ k ∷ 0 ∷ 0 ∷ 0 ∷ numbers_of at cs
numbers_of at (TakeOutVertex v ∷ cs) = 3 ∷ v ∷ 0 ∷ 0 ∷ 0 ∷ numbers_of at cs

-- a part of a text between two others
part_between : (pre text rest : List ℕ) (at : ℕ) → length pre ≡ at → slice at (at + length text) (pre ++ (text ++ rest)) ≡ text
part_between pre text rest at e = ap (λ n. slice n (n + length text) (pre ++ (text ++ rest))) (sym e)
    ∙ ap (drop (length pre)) (take-append-add pre (text ++ rest) (length text) ∙ ap (λ l. pre ++ l) (take-append_seam text rest))
    ∙ drop-append_seam pre text

-- the texts before the first call's are any
encodes : (cs : List Call) (pre : List ℕ) (at : ℕ) → length pre ≡ at → calls_of (numbers_of at cs) (pre ++ texts cs) ≡ cs
unfolding numbers_of texts text_in calls_of call_by
encodes [] pre at e = refl
encodes (LoadText form text ∷ cs) pre at e =
    let rest : calls_of (numbers_of (at + length text) cs) (pre ++ (text ++ texts cs)) ≡ cs =
    ap (calls_of (numbers_of (at + length text) cs)) (sym (append_assoc pre text (texts cs))) ∙ encodes cs (pre ++ text) (at + length text) (length-append pre text ∙ ap (λ n. n + length text) e) in
    ap₂ (λ c r. c ∷ r) (by_load_kind form at (at + length text) (pre ++ (text ++ texts cs)) ∙ ap (LoadText form) (part_between pre text (texts cs) at e)) rest
encodes (PutIn k ∷ cs) pre at e = ap (λ r. PutIn k ∷ r) (encodes cs pre at e)
encodes (RunEdge a p b q ∷ cs) pre at e = ap (λ r. RunEdge a p b q ∷ r) (encodes cs pre at e)
encodes (TakeOutEdge k ∷ cs) pre at e = ap (λ r. TakeOutEdge k ∷ r) (encodes cs pre at e)
encodes (TakeOutVertex v ∷ cs) pre at e = ap (λ r. TakeOutVertex v ∷ r) (encodes cs pre at e)

five_each : (cs : List Call) (at : ℕ) → length (numbers_of at cs) ≡ 5 * length cs
unfolding numbers_of
five_each [] at = refl
five_each (LoadText form text ∷ cs) at = let ih = five_each cs (at + length text) in omega arith
five_each (PutIn k ∷ cs) at = let ih = five_each cs at in omega arith
five_each (RunEdge a p b q ∷ cs) at = let ih = five_each cs at in omega arith
five_each (TakeOutEdge k ∷ cs) at = let ih = five_each cs at in omega arith
five_each (TakeOutVertex v ∷ cs) at = let ih = five_each cs at in omega arith

small : {n : ℕ} → n < 7 → n < 2 ^ 64
small h = omega arith

kind_small : (form : Form) → load_kind form < 7
kind_small Directed = omega arith
kind_small Undirected = omega arith

-- one number, and four that are 0 or fit
five : {a p b q kind : ℕ} {l : List ℕ} → kind < 7 → a < 2 ^ 64 → p < 2 ^ 64 → b < 2 ^ 64 → q < 2 ^ 64 → Below (2 ^ 64) l → Below (2 ^ 64) (kind ∷ a ∷ p ∷ b ∷ q ∷ l)
five k a p b q l = more (small k) (more a (more p (more b (more q l))))

all_fit : (cs : List Call) (at : ℕ) → AllFitting cs → at + length (texts cs) < 2 ^ 64 → Below (2 ^ 64) (numbers_of at cs)
unfolding numbers_of texts text_in Fitting
all_fit [] at f h = none
all_fit (LoadText form text ∷ cs) at (and_more f fs) h =
    let l = length-append text (texts cs) in
    five (kind_small form) (omega arith) (omega arith) (omega arith) (omega arith) (all_fit cs (at + length text) fs (omega arith))
all_fit (PutIn k ∷ cs) at (and_more f fs) h = five (omega arith) f (omega arith) (omega arith) (omega arith) (all_fit cs at fs h)
all_fit (RunEdge a p b q ∷ cs) at (and_more f fs) h = five (omega arith) f.0 f.1 f.2 f.3 (all_fit cs at fs h)
all_fit (TakeOutEdge k ∷ cs) at (and_more f fs) h = five (omega arith) f (omega arith) (omega arith) (omega arith) (all_fit cs at fs h)
all_fit (TakeOutVertex v ∷ cs) at (and_more f fs) h = five (omega arith) f (omega arith) (omega arith) (omega arith) (all_fit cs at fs h)

below_append : {bound : ℕ} {l r : List ℕ} → Below bound l → Below bound r → Below bound (l ++ r)
below_append none r = r
below_append (more h l) r = more h (below_append l r)

text_bytes : (cs : List Call) → AllFitting cs → Below 256 (texts cs)
unfolding texts text_in Fitting
text_bytes [] f = none
text_bytes (LoadText form text ∷ cs) (and_more f fs) = below_append f (text_bytes cs fs)
text_bytes (PutIn k ∷ cs) (and_more f fs) = text_bytes cs fs
text_bytes (RunEdge a p b q ∷ cs) (and_more f fs) = text_bytes cs fs
text_bytes (TakeOutEdge k ∷ cs) (and_more f fs) = text_bytes cs fs
text_bytes (TakeOutVertex v ∷ cs) (and_more f fs) = text_bytes cs fs

pub encoded : Encoded
encoded cs f h = record {
  numbers = numbers_of 0 cs;
  encodes = encodes cs [] 0 refl;
  numbers_length = five_each cs 0;
  numbers_fit = all_fit cs 0 f (omega arith);
  bytes = text_bytes cs f;
}
