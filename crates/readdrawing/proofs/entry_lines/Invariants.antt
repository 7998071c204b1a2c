-- What is left to read gives what the whole gives.
use Rattle.std.proofs.Common.{ℕ, ◌≡◌, ◌-◌, length}
use Rattle.readdrawing.specs.Reading.{entries_from}
use Rattle.readdrawing.proofs.entry_lines.Given as goal

abbrev pub invariant-loop-k : goal.invariant-loop-k
invariant-loop-k g l =
    let text = l.initial.reader.text.now in
    record {
      same : l.reader.text.now ≡ text;
      size : length l.entries ≡ g.row.N;
      rest : (of : ℕ → ℕ → ℕ → _) → ((a b c : ℕ) (x : _) → goal.F-post g l.entry a b c x → x ≡ of a b c)
          → entries_from l.key of (l.n - l.k) text l.entries l.k l.reader.at ≡ entries_from l.key of l.n text l.initial.entries 0 l.initial.reader.at;
    }
