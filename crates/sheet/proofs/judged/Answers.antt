-- `sheet::judged` meets its contract. Clause by clause, in order. Where there is no circle, all counts and ends are within the arrays. Assumes nothing.
use Rattle.std.proofs.Common.{ap, ok_or, sym, ◌∙◌}
use Rattle.answers.specs.declared.Refusal.TheVariants.{NotPlanar}
use Rattle.sheet.proofs.Clauses.{of_digraph, acyclic_ends, bad_root, cyclic, bad_poles, by_faces}
use Rattle.sheet.proofs.judged.Goals as goal

pub returns-then-not-is_rooted : goal.returns-then-not-is_rooted
returns-then-not-is_rooted c = bad_root _ _ _ _ _ _ _ (sym c.is_rooted.ensures ∙ c.if-not-is_rooted.true)

pub returns-in_default : goal.returns-in_default
returns-in_default c = cyclic _ _ _ _ _ _ _ (sym c.is_rooted.ensures ∙ c.if-not-is_rooted.false) (of_digraph c.digraph.ensures c.in_default.ensures)

pub has_poles-requires : goal.has_poles-requires
has_poles-requires c = acyclic_ends _ _ _ _ _ (of_digraph c.digraph.ensures c.in-Some.ensures)

pub returns-then-not-has_poles : goal.returns-then-not-has_poles
returns-then-not-has_poles c =
    bad_poles _ _ _ _ _ _ _ (sym c.is_rooted.ensures ∙ c.if-not-is_rooted.false) _ (of_digraph c.digraph.ensures c.in-Some.ensures) (sym c.has_poles.ensures ∙ c.if-not-has_poles.true)

pub faced-requires : goal.faced-requires
faced-requires c =
    let (n, ends, _) = acyclic_ends _ _ _ _ _ (of_digraph c.digraph.ensures c.in-Some.ensures) in
    (n, ends.few)

pub returns : goal.returns
returns c =
    by_faces _ _ _ _ _ _ _ (sym c.is_rooted.ensures ∙ c.if-not-is_rooted.false) _ (of_digraph c.digraph.ensures c.in-Some.ensures) (sym c.has_poles.ensures ∙ c.if-not-has_poles.false) _ (c.ok_or.ensures.value ∙ ap (λ f. ok_or f NotPlanar) c.faced.ensures)
