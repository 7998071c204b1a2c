-- The four edits as calls: what each refuses, in order, and the sheet that it makes.
use Rattle.std.specs.Prelude.{ℕ, Bool, not, ◌&&◌, ◌||◌, [], ◌∷◌, eqb, leb, Result, Ok, Err}
use Rattle.counting.specs.Counts.{count}
use Rattle.clauses.specs.declared.Sheet.{Sheet}
use Rattle.answers.specs.Answers.{Answer}
use Rattle.answers.specs.declared.Refusal.{Refusal}
use Rattle.answers.specs.declared.Refusal.TheVariants.{NotSound, NotInSheet, Full, RootEdge, CornersApart, ClosesCircle, EdgeNeeded, VertexNeeded}
use Rattle.answers.specs.Refusals.{first, ◌if◌, answering}
use Rattle.clauses.specs.Darts.{opposite}
use Rattle.sheet.specs.Darts.{tail, head, touches, dart_at}
use Rattle.sheet.specs.Check.{sound, face}
use Rattle.edit.specs.declared.Edit.{Edit}
use Rattle.edit.specs.declared.Edit.TheVariants.{In, Run, Out, Off, Refused}
use Rattle.edit.specs.Lines.{edit_answer}
use Rattle.edit.specs.Reaching.{leads_to}
use Rattle.edit.specs.Changes.{put_in, run_edge, take_out_edge, take_out_vertex}

-- a number not in the sheet
abbrev pub no_edge : Sheet → ℕ → Bool
no_edge s k = leb s.edges k

abbrev pub no_vertex : Sheet → ℕ → Bool
no_vertex s v = leb s.vertices v

-- Put in. 10 k not in the sheet; 12 k is 0; 11 n is 128 or m is 256.
unfoldable pub put_in_answer : Sheet → ℕ → Answer
put_in_answer s k = first (
    NotSound if not (sound s) ∷
    NotInSheet if no_edge s k ∷
    RootEdge if eqb k 0 ∷
    Full if (eqb s.vertices 128 || eqb s.edges 256) ∷ [])

-- The corner after p at a lies in the face whose walk arrives at a by p: it leaves by the other end of p.
unfoldable pub corner_face : Sheet → ℕ → ℕ → ℕ
corner_face s a p = face s (opposite (dart_at s p a))

-- Run. 10 a, b, p or q not in the sheet; 13 p has no end at a, or q none at b, or the two corners lie in different faces;
-- 14 a is b, or a directed path leads from b to a; 11 m is 256.
unfoldable pub run_answer : Sheet → ℕ → ℕ → ℕ → ℕ → Answer
run_answer s a p b q = first (
    NotSound if not (sound s) ∷
    NotInSheet if (no_vertex s a || no_vertex s b || no_edge s p || no_edge s q) ∷
    CornersApart if (not (touches s p a) || not (touches s q b) || not (eqb (corner_face s a p) (corner_face s b q))) ∷
    ClosesCircle if (eqb a b || leads_to s b a) ∷
    Full if eqb s.edges 256 ∷ [])

-- how many outgoing, how many incoming wires a bar has
unfoldable pub out_degree : Sheet → ℕ → ℕ
out_degree s v = count (λ k. eqb (tail s k) v) s.edges

unfoldable pub in_degree : Sheet → ℕ → ℕ
in_degree s v = count (λ k. eqb (head s k) v) s.edges

-- Take out a wire. 10 k not in the sheet; 12 k is 0; 15 m is 2, or its tail has no other outgoing wire, or its head no other incoming.
unfoldable pub take_out_edge_answer : Sheet → ℕ → Answer
take_out_edge_answer s k = first (
    NotSound if not (sound s) ∷
    NotInSheet if no_edge s k ∷
    RootEdge if eqb k 0 ∷
    EdgeNeeded if (eqb s.edges 2 || eqb (out_degree s (tail s k)) 1 || eqb (in_degree s (head s k)) 1) ∷ [])

-- Take out a bar. 10 v not in the sheet; 16 v is 0 or 1, or hasn't exactly one incoming and one outgoing wire.
unfoldable pub take_out_vertex_answer : Sheet → ℕ → Answer
take_out_vertex_answer s v = first (
    NotSound if not (sound s) ∷
    NotInSheet if no_vertex s v ∷
    VertexNeeded if (eqb v 0 || eqb v 1 || not (eqb (in_degree s v) 1 && eqb (out_degree s v) 1)) ∷ [])

-- what each answers: the sheet that it makes, or its refusal
abbrev pub put_in_call : Sheet → ℕ → Result Sheet Refusal
put_in_call s k = answering (put_in_answer s k) (λ _. put_in s k)

abbrev pub run_call : Sheet → ℕ → ℕ → ℕ → ℕ → Result Sheet Refusal
run_call s a p b q = answering (run_answer s a p b q) (λ _. run_edge s a p b q)

abbrev pub take_out_edge_call : Sheet → ℕ → Result Sheet Refusal
take_out_edge_call s k = answering (take_out_edge_answer s k) (λ _. take_out_edge s k)

abbrev pub take_out_vertex_call : Sheet → ℕ → Result Sheet Refusal
take_out_vertex_call s v = answering (take_out_vertex_answer s v) (λ _. take_out_vertex s v)

-- an edit that was read, applied: a line not of the layout is refused 1
unfoldable pub apply : Sheet → Edit → Result Sheet Refusal
apply s (In k) = put_in_call s k
apply s (Run a p b q) = run_call s a p b q
apply s (Out k) = take_out_edge_call s k
apply s (Off v) = take_out_vertex_call s v
apply s Refused = answering (edit_answer Refused) (λ _. s)

-- A refused edit hands back the sheet it got.
unfoldable pub sheet_after : Sheet → Result Sheet Refusal → Sheet
sheet_after s (Ok made) = made
sheet_after s (Err r) = s
