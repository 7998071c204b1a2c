-- `sheet::examine` meets its contract: a clause that fails makes the record unsound, whatever the order. Assumes nothing.
use Rattle.std.proofs.Common.{ap, ok_or, ◌≡◌, sym, ◌∙◌, true, arith}
use Rattle.sheet.specs.Inner.{bounded}
use Rattle.answers.specs.declared.Refusal.TheVariants.{NotSound}
use Rattle.sheet.proofs.Clauses.{bounded_ends, not_sound, not_bounded, not_rooted, no_levels, by_all}
use Rattle.sheet.proofs.examine.Goals as goal

pub returns-then-not-is_bounded : goal.returns-then-not-is_bounded
returns-then-not-is_bounded c = not_sound _ (not_bounded _ (sym c.is_bounded.ensures ∙ c.if-not-is_bounded.true))

pub returns-then-not-is_rooted : goal.returns-then-not-is_rooted
returns-then-not-is_rooted c = not_sound _ (not_rooted _ (sym c.is_rooted.ensures ∙ c.if-not-is_rooted.true))

pub levels-requires : goal.levels-requires
levels-requires c =
    let is_in : bounded c.args.s ≡ true = sym c.is_bounded.ensures ∙ c.if-not-is_bounded.false in
    let (n, _, t, h) = bounded_ends _ is_in in
    (n, t, h)

pub returns-in_default : goal.returns-in_default
returns-in_default c = not_sound _ (no_levels _ c.in_default.ensures)

pub faced-requires : goal.faced-requires
faced-requires c =
    let is_in : bounded c.args.s ≡ true = sym c.is_bounded.ensures ∙ c.if-not-is_bounded.false in
    let (n, m, _, _) = bounded_ends _ is_in in
    (omega arith, m)

pub returns : goal.returns
returns c =
    let is_in : bounded c.args.s ≡ true = sym c.is_bounded.ensures ∙ c.if-not-is_bounded.false in
    by_all _ _ c.in-Some.ensures is_in (sym c.is_rooted.ensures ∙ c.if-not-is_rooted.false) _ (c.ok_or.ensures.value ∙ ap (λ f. ok_or f NotSound) c.faced.ensures)
