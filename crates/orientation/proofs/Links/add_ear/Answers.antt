-- `add_ear` meets its contract: there is no entry, no exit, or an ear is put in. Assumes nothing.
use Rattle.std.proofs.Common.{sym, ap, ◌∙◌}
use Rattle.std.specs.Option.{option_map}
use Rattle.orientation.specs.Ears.{graph_of}
use Rattle.orientation.specs.Inner.{Low}
use Rattle.orientation.proofs.Darts.{vertex_in}
use Rattle.orientation.proofs.Turns.{ear_stuck, ear_put}
use Rattle.orientation.proofs.Bounds.{parents_low}
use Rattle.orientation.proofs.Links.add_ear.Goals as goal

pub returns-in_default-explore-clause-order : goal.returns-in_default-explore-clause-order
returns-in_default-explore-clause-order c =
    let entry = c.in-Some.entry in
    let parents = rw (c.own_parents-parents.ensures, c.from.ensures) at c.explore.ensures.parents in
    let none = sym (ap (option_map (λ d. (d.from, d.to))) c.in_default-explore.is) ∙ c.explore.ensures.dart in
    sym (ear_stuck (graph_of c.args.self.now.sheet.now) c.args.order.now entry.from entry.to c.in-Some.ensures c.explore.new.parents parents none)

pub put_along-requires : goal.put_along-requires
put_along-requires c =
    let links = c.args.self.now in
    let s = links.sheet.now in
    let entry = c.in-Some.entry in
    let parents = rw (c.own_parents-parents.ensures, c.from.ensures) at c.explore.ensures.parents in
    let low : Low 127 c.explore.new.parents = rw parents (parents_low (graph_of s) (vertex_in s links.tails_in links.heads_in) c.args.order.now _ _ _ entry.from_in) in
    (entry.from_in, c.in-Some-explore.exit.from_in, low, c.requires)

pub returns-clause-order : goal.returns-clause-order
returns-clause-order c =
    let entry = c.in-Some.entry in
    let exit = c.in-Some-explore.exit in
    let parents = rw (c.own_parents-parents.ensures, c.from.ensures) at c.explore.ensures.parents in
    let put = rw (c.from-2.ensures, c.from-3.ensures) at c.put_along.ensures in
    put ∙ ear_put (graph_of c.args.self.now.sheet.now) c.args.order.now entry.from entry.to c.in-Some.ensures c.explore.new.parents parents exit.from exit.to c.in-Some-explore.ensures.dart
