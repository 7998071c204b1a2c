use Rattle.std.proofs.Common.{◌≡◌, ℕ, ◌+◌, ◌-◌, ◌<◌, ◌≤◌, length, get_or}
use Rattle.text.specs.Reading.{line_at, closed}
use Rattle.text.specs.Keys.{around_key}
use Rattle.load.specs.Inner.{rest_at, ring_from}
use Rattle.load.proofs.around.Vertex.line.Given as goal

abbrev pub invariant-loop-reader : goal.invariant-loop-reader
invariant-loop-reader l =
    let vertex = l.self in
    let text = l.fn.reader.text.now in
    record {
      same : l.reader.text.now ≡ text;
      some : 0 < l.count;
      passed : l.count ≤ l.reader.at;
      inside : l.reader.at ≤ length text;
      last_in : l.last < 512;
      rest : ring_from vertex.degree vertex.sheet.now vertex.v l.count l.first l.last l.seen l.nexts (closed text (rest_at text l.reader.at)) ≡ ring_from vertex.degree vertex.sheet.now vertex.v 0 0 0 l.fn.seen l.fn.nexts (line_at around_key text l.fn.reader.at);
      marks : (k : ℕ) → get_or l.fn.seen k 0 ≤ vertex.v + 1 → get_or l.seen k 0 ≤ vertex.v + 1;
      size : length l.seen ≡ length l.fn.seen;
    }

abbrev pub decreases-loop-reader : goal.decreases-loop-reader
decreases-loop-reader l = length l.reader.text.now - l.reader.at
