-- Reading and writing owe each other what specs/Layout.antt says. Assumes nothing.
use Rattle.layout.specs.Layout.{Layout}
use Rattle.layout.proofs.Standing.{sets_holds, sets_other}
use Rattle.layout.proofs.Back.{decimal_digits, numbers_back, line_end_back, line_written, line_back, last_back}
use Rattle.layout.proofs.Only.{numbers_only, numbers_walk, line_end_only, line_only, last_only}

pub layout : Layout
layout =
    record {
      written = sets_holds;
      elsewhere = sets_other;
      decimal_digits = decimal_digits;
      numbers_back = numbers_back;
      numbers_only = numbers_only;
      numbers_walk = numbers_walk;
      line_end_back = line_end_back;
      line_end_only = line_end_only;
      line_written = line_written;
      line_back = line_back;
      line_only = line_only;
      last_back = last_back;
      last_only = last_only;
    }
