-- How far a sweep over the rows of a drawing came, and what its marks say.
use Rattle.std.specs.Prelude.{ℕ, suc, ◌<◌, ◌≡◌, ◌⊎◌, get_or, length}
use Rattle.drawing.specs.declared.Drawing.{Drawing}
use Rattle.contact.specs.Lists.{Before}
use Rattle.contact.specs.Free.{row_of, high_of, Spans, Stands, Free}
use Rattle.contact.specs.Columns.{mark_at, Kept}
use Rattle.contact.specs.declared.sweep.Sweep.{Sweep}

-- the mark of a column is 1 + the greatest row of these items at it, 0 where there is none
pub record Topmost (Item : ℕ → Type 0) (At : ℕ → ℕ → Type 0) (row mark : ℕ → ℕ) : Type 0 where
  pub attained : (x : ℕ) → x < 1024 → (mark x ≡ 0) ⊎ ((j : ℕ) × Item j × At j x × (mark x ≡ suc (row j)))
  pub above : (j x : ℕ) → x < 1024 → Item j → At j x → row j < mark x

-- these bars and wires are free of contact, and the marks are theirs
pub record Swept (n : ℕ) (D : Drawing) (limit : ℕ) (Bar Wire : ℕ → Type 0) (s : Sweep) : Type 0 where
  pub free : Free n D Bar Wire
  pub bars : Topmost Bar (Spans D) (row_of D) (mark_at s.columns)
  pub ends : Topmost Wire (Stands D) (high_of D) (λ x. get_or s.ended x 0)
  pub size_ended : length s.ended ≡ 1024
  pub kept : Kept s.columns limit

-- the bars of the rows below `row` and the wires with upper ends in the rows below `high` are swept
abbrev pub SweptTo : (n m : ℕ) → Drawing → (row high : ℕ) → Sweep → Type 0
SweptTo n m D row high = Swept n D row (Before n (row_of D) row 0) (Before m (high_of D) high 0)
