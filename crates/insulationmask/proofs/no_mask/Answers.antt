-- `insulationmask::no_mask` meets its contract. Assumes nothing.
use Rattle.std.proofs.Common.{◌≡◌, refl}
use Rattle.std.specs.Float.Ieee.{of_bits}
use Rattle.segments.specs.Framed.{no_frame}
use Rattle.insulationmask.proofs.no_mask.Goals as goal

pub returns : goal.returns
unfolding of_bits
returns c =
    let (e0, (e1, (e2, e3))) = c.default-frame.ensures in
    let none : c.default-frame.result ≡ no_frame = rw (e0, e1, e2, e3) refl in
    rw none refl
