-- A list of calls as numbers: five for each call, its kind and four numbers. A load names a part of a text by its start and its end.
use Rattle.std.specs.Prelude.{ℕ, cond, List, [], ◌∷◌, eqb}
use Rattle.std.proofs.Math.Seq.{slice}
use Rattle.load.specs.declared.Form.TheVariants.{Directed, Undirected}
use Rattle.demand.specs.Calls.{Call}
use Rattle.demand.specs.Calls.Call.{LoadText, PutIn, RunEdge, TakeOutEdge, TakeOutVertex}

-- kinds 0 in, 1 run, 2 out, 3 off, 4 load, 6 the load of links: a load is of the text's bytes from number a up to, not including, number p, as far as it has them;
-- where it has none, it is a blank load. Kind 5 is none of them: read edit answers it for a line that is no edit.
-- Any other kind puts into a wire that no sheet has, which is refused 10.
unfoldable pub call_by : (kind a p b q : ℕ) → List ℕ → Call
call_by kind a p b q text =
    cond (eqb kind 0) (PutIn a)
    (cond (eqb kind 1) (RunEdge a p b q)
    (cond (eqb kind 2) (TakeOutEdge a)
    (cond (eqb kind 3) (TakeOutVertex a)
    (cond (eqb kind 4) (LoadText Directed (slice a p text))
    (cond (eqb kind 6) (LoadText Undirected (slice a p text))
    (PutIn 18446744073709551615))))))

-- what is left after the last five numbers is no call
unfoldable pub calls_of : List ℕ → List ℕ → List Call
calls_of (kind ∷ a ∷ p ∷ b ∷ q ∷ numbers) text = call_by kind a p b q text ∷ calls_of numbers text
calls_of [] text = []
calls_of (_ ∷ []) text = []
calls_of (_ ∷ _ ∷ []) text = []
calls_of (_ ∷ _ ∷ _ ∷ []) text = []
calls_of (_ ∷ _ ∷ _ ∷ _ ∷ []) text = []
