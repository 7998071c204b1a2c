-- The marks of a directed search: a bar is marked exactly where a path leads to it. Assumes nothing.
use Rattle.std.proofs.Common.{ℕ, zero, suc, ◌+◌, ◌≤◌, ◌<◌, ◌≡◌, refl, sym, ◌∙◌, Bool, true, false, cond, List, arith, get_or, set, length, replicate, length-set, get_or-set_same, get_or-set_other}
use Rattle.std.proofs.Math.Logic.{by_cases}
use Rattle.std.proofs.lemmas.Bool.{false≢true}
use Rattle.std.proofs.Math.Decide.{ℕ_discrete}
use Rattle.std.proofs.Math.ListN.{length-replicate}
use Rattle.counting.specs.Paths.{Path}
use Rattle.counting.specs.Paths.Path.{here, more}
use Rattle.counting.proofs.Paths.{short}
use Rattle.counting.proofs.Stores.{Stored, stored, replicate_at}
use Rattle.counting.proofs.Iterate.{by_bool}
use Rattle.clauses.specs.declared.Sheet.{Sheet}
use Rattle.sheet.specs.Darts.{tail, head}
use Rattle.sheet.specs.Sound.{Leads, Sound}
use Rattle.edit.specs.Reaching.{marked, marked_times, leads_to}
use Rattle.preservation.specs.Laws.{LeadsToLaw}

-- bar v is marked
abbrev Marked : List Bool → ℕ → Type 0
Marked marks v = get_or marks v false ≡ true

module _ (s : Sheet) (S : Sound s) where
  head_in : (k : ℕ) → k < s.edges → head s k < 128
  head_in k h = omega (arith, (S.joins k h).head_in, S.limits.vertices_most)

  -- one edge: its head is marked where its tail is
  passing : ℕ → List Bool → List Bool
  passing k marks = cond (get_or marks (tail s k) false) (set marks (head s k) true) marks

  passing_size : (k : ℕ) (marks : List Bool) → length (passing k marks) ≡ length marks
  unfolding passing
  passing_size k marks = by_bool (get_or marks (tail s k) false) (λ t. rw t (length-set marks (head s k) true)) (λ t. rw t refl)

  passing_keeps : (k : ℕ) (marks : List Bool) → length marks ≡ 128 → k < s.edges → (v : ℕ) → Marked marks v → Marked (passing k marks) v
  unfolding passing
  passing_keeps k marks z h v e = by_bool (get_or marks (tail s k) false)
      (λ t. rw t (kept (stored marks (head s k) true v false (omega (arith, head_in k h)))))
      (λ t. rw t e)
    where
      kept : Stored marks (head s k) true v false → Marked (set marks (head s k) true) v
      kept (Stored.here q r) = r
      kept (Stored.apart n r) = r ∙ e

  passing_marks : (k : ℕ) (marks : List Bool) → length marks ≡ 128 → k < s.edges → Marked marks (tail s k) → Marked (passing k marks) (head s k)
  unfolding passing
  passing_marks k marks z h e = rw e (get_or-set_same marks (head s k) true false (omega (arith, head_in k h)))

  passing_only : (P : ℕ → Type 0) (k : ℕ) (marks : List Bool) → length marks ≡ 128 → k < s.edges → (P (tail s k) → P (head s k)) → ((v : ℕ) → Marked marks v → P v)
      → (v : ℕ) → Marked (passing k marks) v → P v
  unfolding passing
  passing_only P k marks z h step all v = by_bool (get_or marks (tail s k) false)
      (λ t e. new t (stored marks (head s k) true v false (omega (arith, head_in k h))) (rw t at e))
      (λ t e. all v (rw t at e))
    where
      new : get_or marks (tail s k) false ≡ true → Stored marks (head s k) true v false → Marked (set marks (head s k) true) v → P v
      new t (Stored.here q r) e = rw q (step (all (tail s k) t))
      new t (Stored.apart n r) e = all v (sym r ∙ e)

  -- the edges below k, one after the other
  marked_size : (k : ℕ) (marks : List Bool) → length (marked s k marks) ≡ length marks
  unfolding marked passing
  marked_size zero marks = refl
  marked_size (suc k) marks = passing_size k (marked s k marks) ∙ marked_size k marks

  marked_keeps : (k : ℕ) → k ≤ s.edges → (marks : List Bool) → length marks ≡ 128 → (v : ℕ) → Marked marks v → Marked (marked s k marks) v
  unfolding marked passing
  marked_keeps zero h marks z v e = e
  marked_keeps (suc k) h marks z v e = passing_keeps k (marked s k marks) (marked_size k marks ∙ z) (omega arith) v (marked_keeps k (omega arith) marks z v e)

  marked_passes : (k : ℕ) → k ≤ s.edges → (marks : List Bool) → length marks ≡ 128 → (j : ℕ) → j < k → Marked marks (tail s j) → Marked (marked s k marks) (head s j)
  unfolding marked passing
  marked_passes zero h marks z j l e = absurd (omega arith)
  marked_passes (suc k) h marks z j l e = by_cases (ℕ_discrete j k)
      (λ q. rw q (passing_marks k (marked s k marks) (marked_size k marks ∙ z) (omega arith) (marked_keeps k (omega arith) marks z (tail s k) (rw q at e))))
      (λ n. passing_keeps k (marked s k marks) (marked_size k marks ∙ z) (omega arith) (head s j) (marked_passes k (omega arith) marks z j (omega arith) e))

  marked_only : (P : ℕ → Type 0) → ((j : ℕ) → j < s.edges → P (tail s j) → P (head s j)) → (k : ℕ) → k ≤ s.edges → (marks : List Bool) → length marks ≡ 128
      → ((v : ℕ) → Marked marks v → P v) → (v : ℕ) → Marked (marked s k marks) v → P v
  unfolding marked passing
  marked_only P step zero h marks z all = all
  marked_only P step (suc k) h marks z all = passing_only P k (marked s k marks) (marked_size k marks ∙ z) (omega arith) (step k (omega arith)) (marked_only P step k (omega arith) marks z all)

  -- all edges, n times
  times_only : (P : ℕ → Type 0) → ((j : ℕ) → j < s.edges → P (tail s j) → P (head s j)) → (n : ℕ) (marks : List Bool) → length marks ≡ 128
      → ((v : ℕ) → Marked marks v → P v) → (v : ℕ) → Marked (marked_times n s marks) v → P v
  unfolding marked_times
  times_only P step zero marks z all = all
  times_only P step (suc n) marks z all =
      times_only P step n (marked s s.edges marks) (marked_size s.edges marks ∙ z) (marked_only P step s.edges (omega arith) marks z all)

  module _ (b : ℕ) where
    -- every bar that a path of at most j edges leads to is marked
    abbrev Near : ℕ → List Bool → Type 0
    Near j marks = (v i : ℕ) → i ≤ j → Path (Leads s) b v i → Marked marks v

    near_more : (j : ℕ) (marks : List Bool) → length marks ≡ 128 → Near j marks → Near (suc j) (marked s s.edges marks)
    near_more j marks z near v i h here = marked_keeps s.edges (omega arith) marks z b (near b 0 (omega arith) here)
    near_more j marks z near v i h (more {b = u} {k = l} p t) =
        rw t.to at (marked_passes s.edges (omega arith) marks z t.edge t.edge_in (rw t.from (near u l (omega arith) p)))

    near_times : (n j : ℕ) (marks : List Bool) → length marks ≡ 128 → Near j marks → Near (j + n) (marked_times n s marks)
    unfolding marked_times
    near_times zero j marks z near v i h p = near v i (omega arith) p
    near_times (suc n) j marks z near v i h p =
        near_times n (suc j) (marked s s.edges marks) (marked_size s.edges marks ∙ z) (near_more j marks z near) v i (omega arith) p

    start : List Bool
    start = set (replicate 128 false) b true

    start_size : length start ≡ 128
    unfolding start
    start_size = length-set (replicate 128 false) b true ∙ length-replicate 128 false

    start_here : b < 128 → Marked start b
    unfolding start
    start_here h = get_or-set_same (replicate 128 false) b true false (omega (arith, length-replicate 128 false))

    start_only : (v : ℕ) → Marked start v → v ≡ b
    unfolding start
    start_only v e = by_cases (ℕ_discrete v b) (λ q. q) (λ n. absurd (false≢true (sym (replicate_at false 128 v) ∙ sym (get_or-set_other (replicate 128 false) b v true false n) ∙ e)))

pub leads_to_law : LeadsToLaw
unfolding leads_to start
leads_to_law s S b a b_in a_in = (
  times_only s S (λ v. (k : ℕ) × Path (Leads s) b v k) (λ j h (k, p). (suc k, more p (record { edge = j; edge_in = h; from = refl; to = refl }))) s.vertices (start s S b)
      (start_size s S b) (λ v e. (0, rw (start_only s S b v e) here)) a,
  λ (k, p). near_times s S b s.vertices 0 (start s S b) (start_size s S b) first a k
      (omega (arith, short s.vertices (λ u v t. rw t.from at (S.joins t.edge t.edge_in).tail_in) S.acyclic a_in p)) p,
)
  where
    first : Near s S b 0 (start s S b)
    first v i h here = start_here s S b (omega (arith, S.limits.vertices_most))
    first v i h (more p t) = absurd (omega arith)
