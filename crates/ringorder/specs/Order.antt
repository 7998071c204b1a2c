-- Whether every ring of a drawing is in clockwise order, as a test.
use Rattle.std.specs.Prelude.{ℕ, Bool, cond, not, ◌&&◌, ◌||◌, eqb, ltb}
use Rattle.counting.specs.Below.{all_below, some_below}
use Rattle.clauses.specs.declared.Sheet.{Sheet}
use Rattle.clauses.specs.Darts.{is_tail}
use Rattle.sheet.specs.Darts.{darts, vertex, next}
use Rattle.drawing.specs.declared.Drawing.{Drawing}
use Rattle.drawing.specs.Clear.{dart_column}

-- one end may stand before another: upward wires by rising column, then downward wires by falling column
unfoldable pub before : (up other_up : Bool) (column other_column : ℕ) → Bool
before up other_up column other_column = cond up (not other_up || ltb column other_column) (not other_up && ltb other_column column)

-- a descent: an end that may not stand before its next one. A ring in order has exactly one, its last end
unfoldable pub is_descent : Sheet → Drawing → ℕ → Bool
is_descent s D d = not (before (is_tail d) (is_tail (next s d)) (dart_column D d) (dart_column D (next s d)))

-- one of the first k ends is a descent of the ring of bar v
unfoldable pub descends_at : Sheet → Drawing → (k v : ℕ) → Bool
descends_at s D k v = some_below (λ e. is_descent s D e && eqb (vertex s e) v) k

-- no ring has a second descent
unfoldable pub in_order : Sheet → Drawing → Bool
in_order s D = all_below (λ d. not (is_descent s D d && descends_at s D d (vertex s d))) (darts s)
