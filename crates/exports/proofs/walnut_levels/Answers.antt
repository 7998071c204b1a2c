-- `walnut_levels` meets its contract: the levels are found where there is no circle, and else are 0. Assumes nothing.
use Rattle.std.proofs.Common.{◌≡◌, ℕ, Bool, true, false, List, is_some, refl, ap, ◌∙◌, unwrap_or}
use Rattle.std.specs.Bool.{then_some}
use Rattle.digraph.specs.Digraph.{flat}
use Rattle.digraph.proofs.Relaxation.{levels_or_flat}
use Rattle.exports.proofs.walnut_levels.Goals as goal

some_where : (b : Bool) (x : List ℕ) → is_some (then_some b x) ≡ b
some_where true x = refl
some_where false x = refl

pub returns-in-None : goal.returns-in-None
unfolding flat
returns-in-None c = (ap is_some c.in-None.ensures ∙ some_where _ _, ap (λ o. unwrap_or o flat) c.in-None.ensures ∙ levels_or_flat _ _ _ _)
