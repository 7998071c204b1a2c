-- The entries before the index are renamed, the others are as they were.
use Rattle.std.proofs.Common.{◌≡◌, ◌++◌, map, take, drop}
use Rattle.edit.specs.Changes.{renamed}
use Rattle.splice.proofs.rename.Given as goal

abbrev pub invariant-loop-dart : goal.invariant-loop-dart
invariant-loop-dart l = l.table ≡ map (renamed l.old l.new) (take l.dart-index l.initial.table) ++ drop l.dart-index l.initial.table
