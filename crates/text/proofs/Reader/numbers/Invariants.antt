use Rattle.std.proofs.Common.{◌≡◌, ◌-◌, ◌≤◌, length}
use Rattle.text.specs.Reading.{numbers_at, numbers_of}
use Rattle.text.proofs.Listing.{resume}
use Rattle.text.proofs.Reader.numbers.Given as goal

abbrev pub invariant-loop-v : goal.invariant-loop-v
invariant-loop-v l = (l.self.text.now ≡ l.initial.self.text.now) × (l.count ≤ l.self.at) × (resume l.count l.values (numbers_at l.self.text.now l.self.at) ≡ numbers_of (numbers_at l.initial.self.text.now l.initial.self.at))

abbrev pub decreases-loop-v : goal.decreases-loop-v
decreases-loop-v l = length l.self.text.now - l.self.at
