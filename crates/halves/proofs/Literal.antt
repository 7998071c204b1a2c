-- The literal 0.5. Assumes nothing.
use Rattle.std.proofs.Common.{◌≡◌, refl}
use lib.Ieee.{binary32, of_bits}
use Rattle.halves.specs.Halves.{half}

pub half_bits : of_bits binary32 0x3f00_0000 ≡ half
unfolding of_bits
half_bits = refl
