-- What is left of each loop gives what the whole gives; a walk is at an element below `size`, and no more orbits are numbered than elements are passed.
use Rattle.std.proofs.Common.{ℕ, ◌≡◌, ◌≤◌, ◌<◌, ◌-◌}
use Rattle.orbits.specs.Tables.{walk_from, trace_from, traced}
use Rattle.orbits.proofs.trace.Given as goal

abbrev pub invariant-loop-step : goal.invariant-loop-step
invariant-loop-step g l =
    (l.at < l.size)
    × ((of : ℕ → ℕ) → ((d x : ℕ) → d < l.size → goal.F-post g l.step d x → x ≡ of d)
    → walk_from (l.size - l._step) l.size of l.e l.f l.at l.orbit ≡ walk_from l.size l.size of l.e l.f l.e l.initial.orbit)

abbrev pub invariant-loop-e : goal.invariant-loop-e
invariant-loop-e g l =
    (l.e ≤ l.size) × (l.f ≤ l.e)
    × ((of : ℕ → ℕ) → ((d x : ℕ) → d < l.size → goal.F-post g l.step d x → x ≡ of d)
    → trace_from (l.size - l.e) l.size of l.e l.f l.orbit ≡ traced l.size of)

abbrev pub decreases-loop-e : goal.decreases-loop-e
decreases-loop-e g l = l.size - l.e
