-- `all_ends_on` meets its contract. Assumes nothing.
use Rattle.std.proofs.Common.{◌∙◌, refl, rules, arith}
use Rattle.std.proofs.lemmas.Iterator.{YieldsList-from_range}
use Rattle.std.proofs.lemmas.Iterator.Search.{all_from_yields_List}
use Rattle.sheet.specs.Darts.{tail, head}
use Rattle.drawing.specs.Points.{vertex_of, edge_of}
use Rattle.contact.specs.Tests.{ends_on, all_ends_on}
use Rattle.contact.proofs.Entries.{all_range}
use Rattle.contact.proofs.ends.all_ends_on.Goals as goal

pub returns : goal.returns
unfolding all_ends_on
returns c =
    let s = c.args.s.now in
    let d = c.args.d.now in
    all_from_yields_List (λ k. ends_on (vertex_of d (tail s k)) (vertex_of d (head s k)) (edge_of d k)) c.all.new.self _ _ c.all.ensures.ran
    (YieldsList-from_range 0 s.edges s.edges refl (omega arith)) (λ x b q k. search rules)
    ∙ all_range _ s.edges
