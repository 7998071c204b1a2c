-- Columns with the marks that bars gave them, and what the functions on them promise each other.
use Rattle.std.specs.Prelude.{ℕ, Bool, true, ◌&&◌, leb, ltb, cond, ◌/◌, ◌≤◌, ◌<◌, ◌≡◌, ◌≢◌, ◌↔◌, max, get_or}
use Rattle.contact.specs.declared.columns.Columns.{Columns}

-- the mark of a column: the greater of its own and its block's
unfoldable pub mark_at : Columns → ℕ → ℕ
mark_at c x = max (get_or c.cells x 0) (get_or c.blocks (x / 32) 0)

-- no mark is above the limit, and `greatest` has for each block the greatest mark of its cells
pub record Kept (c : Columns) (limit : ℕ) : Type 0 where
  pub cells : (x : ℕ) → get_or c.cells x 0 ≤ limit
  pub blocks : (b : ℕ) → get_or c.blocks b 0 ≤ limit
  pub greatest : (b : ℕ) → get_or c.greatest b 0 ≤ limit
  pub above : (x : ℕ) → get_or c.cells x 0 ≤ get_or c.greatest (x / 32) 0
  pub reached : (b : ℕ) → b < 32 → 0 < get_or c.greatest b 0 → (x : ℕ) × (x / 32 ≡ b) × (get_or c.cells x 0 ≡ get_or c.greatest b 0)

-- `answer` says whether none of the columns of c from `first` up to `past` has the mark; if so, c' is c with each of them marked
pub record Covered (mark first past : ℕ) (answer : Bool) (c c' : Columns) : Type 0 where
  pub kept : Kept c' mark
  pub free : answer ≡ true ↔ ((x : ℕ) → first ≤ x → x < past → mark_at c x ≢ mark)
  pub marked : answer ≡ true → (x : ℕ) → mark_at c' x ≡ cond (leb first x && ltb x past) mark (mark_at c x)
