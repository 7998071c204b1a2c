-- `Digraph::levels` meets its contract: where it tests, `levels_of` tests too. Assumes nothing.
use Rattle.std.proofs.Common.{refl, sym, ◌∙◌}
use Rattle.digraph.proofs.Tests.{within_is}
use Rattle.digraph.proofs.Relaxation.{outside}
use Rattle.digraph.proofs.Digraph.levels.Goals as goal

pub returns-then-not-is_within : goal.returns-then-not-is_within
returns-then-not-is_within c = rw (outside _ _ _ _ (sym c.is_within.ensures ∙ c.if-not-is_within.true)) refl

pub levels_within-requires : goal.levels_within-requires
levels_within-requires c = within_is _ _ _ _ (sym c.is_within.ensures ∙ c.if-not-is_within.false)
