-- `orbits::unnumbered` meets its contract. Assumes nothing.
use Rattle.orbits.proofs.Turns.{unnumbered_filled}
use Rattle.orbits.proofs.unnumbered.Goals as goal

pub returns : goal.returns
returns c = unnumbered_filled _ _ c.requires (c.fill.ensures.after (λ y e. e))
