-- Levels of a graph that is given by its edges: whether it has a circle, and longest paths from where all its nodes are reached. Assumes nothing.
use Rattle.std.proofs.Common.{◌≡◌, false, List, ℕ, ◌+◌, ◌<◌, arith, get_or}
use Rattle.counting.specs.Paths.{Path, Circle, Longest}
use Rattle.counting.proofs.Iterate.{by_bool}
use Rattle.counting.proofs.Paths.{append, carry, start_below}
use Rattle.digraph.specs.Digraph.{Layering}
use Rattle.digraph.specs.Digraph.{Leads, Within, Leveled}
use Rattle.digraph.specs.Relaxed.{levels_of}
use Rattle.digraph.proofs.Relaxation.{levels_mean, no_circle}
use Rattle.soundness.proofs.Tests.{Says}

-- a circle over one relation is a circle over another that holds where it does
pub circle_over : {S R : ℕ → ℕ → Type 0} → ((u v : ℕ) → S u v → R u v) → Circle S → Circle R
circle_over f c = record { at = c.at; edges = c.edges; round = carry f c.round }

-- so a longest path over one of two relations that hold together is a longest over the other
pub longest_over : {S R : ℕ → ℕ → Type 0} → ((u v : ℕ) → S u v → R u v) → ((u v : ℕ) → R u v → S u v)
    → {a v k : ℕ} → Longest S a v k → Longest R a v k
longest_over f g l = record { path = carry f l.path; most = λ j p. l.most j (carry g p) }

-- the steps are the edges
module _ (Step : ℕ → ℕ → Type 0) (nodes edges : ℕ) (from to : List ℕ) (within : Within nodes edges from to)
    (listed : (u v : ℕ) → Step u v → Leads edges from to u v) (steps : (u v : ℕ) → Leads edges from to u v → Step u v) where
  levels : Layering
  levels = levels_of nodes edges from to

  leveled : Leveled nodes edges from to levels.acyclic levels.level
  unfolding levels
  leveled = levels_mean nodes edges from to within

  -- where the test fails, a circle is found
  pub circle_found : (levels_of nodes edges from to).acyclic ≡ false → Circle Step
  unfolding levels
  circle_found t = circle_over steps (leveled.circle t).0

  pub acyclic_says : Says (levels_of nodes edges from to).acyclic (¬ Circle Step)
  unfolding levels
  acyclic_says = (
    λ t c. no_circle within t leveled (circle_over listed c),
    λ f. by_bool levels.acyclic (λ t. t) (λ t. absurd (f (circle_found t))),
  )

  -- where all nodes are reached from a, and there is no circle
  pub level_longest : ¬ Circle Step → (a : ℕ) → ((v : ℕ) → v < nodes → (k : ℕ) × Path Step a v k)
      → (v : ℕ) → v < nodes → Longest Step a v (get_or (levels_of nodes edges from to).level v 0)
  unfolding levels
  level_longest f a reached v h =
      let deep = leveled.deepest (acyclic_says.1 f) v h in
      let (j, p) = reached deep.start (start_below nodes (λ u w t. rw t.source at (within.from_in t.edge t.inside)) deep.path h) in
      let whole = append p (carry steps deep.path) in
      let e : j + get_or levels.level v 0 ≡ get_or levels.level v 0 = omega (arith, deep.most a _ (carry listed whole)) in
      record { path = rw e at whole; most = λ i q. deep.most a i (carry listed q) }
