use Rattle.std.proofs.Common.{◌≡◌, ℕ, ◌-◌, ◌≤◌, length, get_or}
use Rattle.load.specs.declared.Form.{Form}
use Rattle.load.specs.Load.{with_nexts, ring_lines}
use Rattle.load.proofs.around.ring_lines.Given as goal

abbrev pub invariant-loop-v : goal.invariant-loop-v
invariant-loop-v l =
    let text = l.initial.reader.text.now in
    record {
      same : l.reader.text.now ≡ text;
      rest : (form : Form) → ring_lines form (l.sheet.vertices - l.v) text (with_nexts l.sheet l.nexts) l.v l.reader.at ≡ ring_lines form l.sheet.vertices text (with_nexts l.sheet l.initial.nexts) 0 l.initial.reader.at;
      clear : (k : ℕ) → get_or l.seen k 0 ≤ l.v;
      size : length l.seen ≡ 256;
    }
