use Rattle.std.proofs.Common.{◌≡◌, ◌-◌, length}
use Rattle.load.specs.Load.{edge_lines}
use Rattle.load.specs.Inner.{Joining, Counted, AsBefore}
use Rattle.load.proofs.lines.edge_lines.Given as goal

abbrev pub invariant-loop-k : goal.invariant-loop-k
invariant-loop-k l =
    let text = l.initial.reader.text.now in
    record {
      same : l.reader.text.now ≡ text;
      rest : edge_lines l.initial.form (l.initial.sheet.edges - l.k) text l.sheet l.k l.reader.at ≡ edge_lines l.initial.form l.initial.sheet.edges text l.initial.sheet 0 l.initial.reader.at;
      vertices : l.sheet.vertices ≡ l.initial.sheet.vertices;
      edges : l.sheet.edges ≡ l.initial.sheet.edges;
      nexts : l.sheet.nexts ≡ l.initial.sheet.nexts;
      kept : AsBefore l.initial.sheet.edges l.initial.sheet l.sheet;
      degrees : length l.degrees ≡ 128;
      joins : Joining l.k l.sheet.tails l.sheet.heads;
      counted : Counted l.k l.sheet.tails l.sheet.heads l.degrees;
    }
