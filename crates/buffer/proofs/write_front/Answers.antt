use Rattle.std.proofs.Common.{rules}
use Rattle.buffer.proofs.Fronts.{front_left, front_put}
use Rattle.buffer.proofs.write_front.Goals as goal

pub returns-then-not-fits : goal.returns-then-not-fits
returns-then-not-fits g c = front_left _ _ c.fits.ensures c.if-not-fits.true

pub returns : goal.returns
returns g c = front_put _ _ c.fits.ensures c.if-not-fits.false c.put.ensures.0 _ (search rules)
