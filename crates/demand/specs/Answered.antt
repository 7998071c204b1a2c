-- What each of the five calls answers: what it refuses, in order, and what it returns.
use Rattle.std.specs.Prelude.{ℕ, ◌≤◌, ◌<◌, ◌≡◌, ◌≢◌, ◌⊎◌, List, [], ◌∷◌}
use Rattle.counting.specs.Paths.{Path}
use Rattle.answers.specs.Clauses.{Clause, ◌when◌, First}
use Rattle.clauses.specs.Darts.{opposite, End, HasEnd}
use Rattle.clauses.specs.declared.Sheet.{Sheet}
use Rattle.sheet.specs.Darts.{tail, head}
use Rattle.sheet.specs.Sound.{Leads, Faces, Sound}
use Rattle.edit.specs.Changes.{put_in, run_edge, take_out_edge, take_out_vertex}
use Rattle.acceptance.specs.Loading.{LoadAnswered}
use Rattle.demand.specs.Calls.{Call, Outcome}
use Rattle.demand.specs.Calls.Call.{LoadText, PutIn, RunEdge, TakeOutEdge, TakeOutVertex}

-- Put in. 10 k not in the sheet; 12 k is 0; 11 n is 128 or m is 256.
unfoldable pub put_in_refusals : Sheet → ℕ → List Clause
put_in_refusals s k =
    9 when (¬ Sound s) ∷
    10 when (s.edges ≤ k) ∷
    12 when (k ≡ 0) ∷
    11 when ((s.vertices ≡ 128) ⊎ (s.edges ≡ 256)) ∷ []

-- The corner after p at a lies in the face whose walk arrives at a by p: it leaves by the other end of p.
-- The corners after ends d and e lie in one face, however the faces are numbered.
abbrev pub OneFace : Sheet → ℕ → ℕ → Type 0
OneFace s d e = (face : ℕ → ℕ) (f : ℕ) → Faces s face f → face (opposite d) ≡ face (opposite e)

-- the two corners lie in different faces
pub record DifferentFaces (s : Sheet) (a p b q : ℕ) : Type 0 where
  pub d : ℕ
  pub e : ℕ
  pub p_end : End s.tails s.heads p a d
  pub q_end : End s.tails s.heads q b e
  pub apart : ¬ OneFace s d e

-- a directed path leads from b to a
abbrev pub LeadsTo : Sheet → ℕ → ℕ → Type 0
LeadsTo s b a = (k : ℕ) × Path (Leads s) b a k

-- Run. 10 a, b, p or q not in the sheet; 13 p has no end at a, or q none at b, or the two corners lie in different faces;
-- 14 a is b, or a directed path leads from b to a; 11 m is 256.
unfoldable pub run_refusals : Sheet → ℕ → ℕ → ℕ → ℕ → List Clause
run_refusals s a p b q =
    9 when (¬ Sound s) ∷
    10 when ((s.vertices ≤ a) ⊎ (s.vertices ≤ b) ⊎ (s.edges ≤ p) ⊎ (s.edges ≤ q)) ∷
    13 when ((¬ HasEnd s.tails s.heads p a) ⊎ (¬ HasEnd s.tails s.heads q b) ⊎ DifferentFaces s a p b q) ∷
    14 when ((a ≡ b) ⊎ LeadsTo s b a) ∷
    11 when (s.edges ≡ 256) ∷ []

-- the tail of wire k has another outgoing wire; its head has another incoming one
abbrev pub OtherOutgoing : Sheet → ℕ → Type 0
OtherOutgoing s k = (j : ℕ) × (j < s.edges) × (j ≢ k) × (tail s j ≡ tail s k)

abbrev pub OtherIncoming : Sheet → ℕ → Type 0
OtherIncoming s k = (j : ℕ) × (j < s.edges) × (j ≢ k) × (head s j ≡ head s k)

-- Take out a wire. 10 k not in the sheet; 12 k is 0; 15 m is 2, or its tail has no other outgoing wire, or its head no other incoming.
unfoldable pub take_out_edge_refusals : Sheet → ℕ → List Clause
take_out_edge_refusals s k =
    9 when (¬ Sound s) ∷
    10 when (s.edges ≤ k) ∷
    12 when (k ≡ 0) ∷
    15 when ((s.edges ≡ 2) ⊎ (¬ OtherOutgoing s k) ⊎ (¬ OtherIncoming s k)) ∷ []

-- bar v has exactly one wire of those that `end` puts at it: its outgoing ones by their tails, its incoming ones by their heads
pub record ExactlyOne (s : Sheet) (end : ℕ → ℕ) (v : ℕ) : Type 0 where
  pub edge : ℕ
  pub edge_in : edge < s.edges
  pub at_vertex : end edge ≡ v
  pub only : (j : ℕ) → j < s.edges → end j ≡ v → j ≡ edge

abbrev pub OneIncoming : Sheet → ℕ → Type 0
OneIncoming s v = ExactlyOne s (head s) v

abbrev pub OneOutgoing : Sheet → ℕ → Type 0
OneOutgoing s v = ExactlyOne s (tail s) v

-- Take out a bar. 10 v not in the sheet; 16 v is 0 or 1, or hasn't exactly one incoming and one outgoing wire.
unfoldable pub take_out_vertex_refusals : Sheet → ℕ → List Clause
take_out_vertex_refusals s v =
    9 when (¬ Sound s) ∷
    10 when (s.vertices ≤ v) ∷
    16 when ((v ≡ 0) ⊎ (v ≡ 1) ⊎ ¬ (OneIncoming s v × OneOutgoing s v)) ∷ []

-- An edit of the sheet s, with what it refuses and the sheet that it makes of s.
pub record EditAnswered (refusals : List Clause) (s made : Sheet) (o : Outcome) : Type 0 where
  -- its number is that of the first refusal that holds, or 0
  pub number : First refusals o.number
  -- A refused edit hands back the sheet it got.
  pub refused : o.number ≢ 0 → o.sheet ≡ s
  -- An accepted one returns the sheet that it makes, which is sound.
  pub accepted : o.number ≡ 0 → o.sheet ≡ made
  pub sound : o.number ≡ 0 → Sound o.sheet
  -- only load takes bytes
  pub taken : o.taken ≡ 0

-- the call c on the sheet s answers o; load, a blank one too and one of links, as `LoadAnswered` lays it down
unfoldable pub Answered : Sheet → Call → Outcome → Type 0
Answered s (LoadText form text) o = LoadAnswered form text s o.number o.sheet o.taken × (o.number ≡ 0 → Sound o.sheet)
Answered s (PutIn k) o = EditAnswered (put_in_refusals s k) s (put_in s k) o
Answered s (RunEdge a p b q) o = EditAnswered (run_refusals s a p b q) s (run_edge s a p b q) o
Answered s (TakeOutEdge k) o = EditAnswered (take_out_edge_refusals s k) s (take_out_edge s k) o
Answered s (TakeOutVertex v) o = EditAnswered (take_out_vertex_refusals s v) s (take_out_vertex s v) o
