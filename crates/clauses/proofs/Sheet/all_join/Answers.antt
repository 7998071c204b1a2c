-- `clauses::Sheet::all_join` meets its contract. Assumes nothing.
use Rattle.std.proofs.Common.{◌∙◌, eqb, ltb, not, ◌&&◌, take, rules, tests, arith}
use Rattle.std.proofs.lemmas.Iterator.{YieldsList-from_slice, YieldsList-from_zip}
use Rattle.std.proofs.lemmas.Iterator.Search.{all_from_yields_List}
use Rattle.clauses.proofs.Below.{joins_pairs}
use Rattle.clauses.proofs.Sheet.all_join.Goals as goal

pub returns : goal.returns
returns c =
    let a = c.args.self.now in
    all_from_yields_List (λ p. ltb p.0 a.vertices && ltb p.1 a.vertices && not (eqb p.0 p.1)) c.all.new.self _ _ c.all.ensures.ran (YieldsList-from_zip (YieldsList-from_slice (take a.edges a.tails) cc) (YieldsList-from_slice (take a.edges a.heads) cc)) (λ x b q k. search (rules, tests))
    ∙ joins_pairs a.vertices a.edges a.tails a.heads (omega arith) (omega arith)
