-- Every accepted edit of a sound sheet gives a sound sheet.
use Rattle.std.specs.Prelude.{ℕ, ◌<◌, ◌≡◌, ◌↔◌, true, Ok}
use Rattle.counting.specs.Paths.{Path}
use Rattle.clauses.specs.declared.Sheet.{Sheet}
use Rattle.sheet.specs.Darts.{Sized}
use Rattle.sheet.specs.Sound.{Leads, Sound}
use Rattle.edit.specs.Reaching.{leads_to}
use Rattle.edit.specs.Changes.{put_in, run_edge, take_out_edge, take_out_vertex}
use Rattle.edit.specs.Calls.{put_in_answer, run_answer, take_out_edge_answer, take_out_vertex_answer}

-- sound, and with arrays of their type's size
abbrev pub Whole : Sheet → Type 0
Whole s = Sound s × Sized s

abbrev pub PutInWhole : Type 0
PutInWhole = (s : Sheet) (k : ℕ) → Sized s → put_in_answer s k ≡ Ok tt → Whole (put_in s k)

abbrev pub RunWhole : Type 0
RunWhole = (s : Sheet) (a p b q : ℕ) → Sized s → run_answer s a p b q ≡ Ok tt → Whole (run_edge s a p b q)

abbrev pub TakeOutEdgeWhole : Type 0
TakeOutEdgeWhole = (s : Sheet) (k : ℕ) → Sized s → take_out_edge_answer s k ≡ Ok tt → Whole (take_out_edge s k)

abbrev pub TakeOutVertexWhole : Type 0
TakeOutVertexWhole = (s : Sheet) (v : ℕ) → Sized s → take_out_vertex_answer s v ≡ Ok tt → Whole (take_out_vertex s v)

-- The test behind refusal 14 says that a directed path leads from one bar to the other.
abbrev pub LeadsToLaw : Type 0
LeadsToLaw = (s : Sheet) → Sound s → (b a : ℕ) → b < s.vertices → a < s.vertices → leads_to s b a ≡ true ↔ ((k : ℕ) × Path (Leads s) b a k)
