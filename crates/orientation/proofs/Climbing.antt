-- Why an ear exists where a bipolar choice of directions does: from a free vertex one path leads up and one leads down to placed vertices, and these two differ. Assumes nothing.
use Rattle.std.proofs.Common.{◌≡◌, ℕ, zero, suc, ◌<◌, ◌≤◌, ◌≢◌, List, ap, arith}
use Rattle.std.proofs.Math.Decide.{ℕ_discrete}
use Rattle.counting.specs.Paths.{Path, Circle}
use Rattle.counting.specs.Paths.Path.{here, more}
use Rattle.counting.proofs.Paths.{carry, append, before, circle, reached}
use Rattle.orientation.specs.Ears.{Graph}
use Rattle.orientation.proofs.Places.{GraphLaws, Adjacent, at, ToFree}

-- the steps of S backwards
abbrev pub Reverse : (ℕ → ℕ → Type 0) → ℕ → ℕ → Type 0
Reverse S u v = S v u

pub path_reverse : {S : ℕ → ℕ → Type 0} {a v k : ℕ} → Path (Reverse S) a v k → Path S v a k
path_reverse here = here
path_reverse (more p s) = before s (path_reverse p)

pub circle_reverse : {S : ℕ → ℕ → Type 0} → Circle (Reverse S) → Circle S
circle_reverse c = record { at = c.at; edges = c.edges; round = path_reverse c.round }

-- a step from a placed vertex to a free one
pub record Crossing (S : ℕ → ℕ → Type 0) (order : List ℕ) : Type 0 where
  pub inner : ℕ
  pub outer : ℕ
  pub placed : 1 ≤ at order inner
  pub free : at order outer ≡ 0
  pub step : S inner outer

-- on a path from a placed vertex to a free one there is such a step
pub crossing : {S : ℕ → ℕ → Type 0} (order : List ℕ) {a v k : ℕ} → Path S a v k → 1 ≤ at order a → at order v ≡ 0 → Crossing S order
crossing order here h b = absurd (omega arith)
crossing order (more {b = w} {v} p s) h b =
    elim (ℕ_discrete (at order w) 0) [
      | yes e ↦ crossing order p h e
      | no e ↦ record { inner = w; outer = v; placed = omega arith; free = b; step = s }
    ]

-- a way from x through free vertices to a placed one
pub record Way (S : ℕ → ℕ → Type 0) (order : List ℕ) (n x : ℕ) : Type 0 where
  pub last : ℕ
  pub goal : ℕ
  pub edges : ℕ
  pub path : Path (ToFree S order) x last edges
  pub few : edges ≤ n
  pub step : S last goal
  pub placed : 1 ≤ at order goal

-- where each vertex but t, which is placed, has a step from it, and there is no circle, there is such a way
module _ {S : ℕ → ℕ → Type 0} (n : ℕ) (step_from_in : (u v : ℕ) → S u v → u < n) (step_to_in : (u v : ℕ) → S u v → v < n) (acyclic : ¬ Circle S)
    (t : ℕ) (after : (v : ℕ) → v < n → v ≢ t → (w : ℕ) × S v w) (order : List ℕ) (t_placed : 1 ≤ at order t) (x : ℕ) (x_in : x < n) (x_free : at order x ≡ 0) where
  -- after k steps the way is there, or all vertices were free
  data Onward (k : ℕ) : Type 0 where
    out : Way S order n x → Onward k
    further : {v : ℕ} → v < n → at order v ≡ 0 → Path (ToFree S order) x v k → Onward k

  onward : (k : ℕ) → k ≤ n → Onward k
  onward zero h = further x_in x_free here
  onward (suc k) h = go (onward k (omega arith))
    where
      go : Onward k → Onward (suc k)
      go (out o) = out o
      go (further {v} l b p) =
          let (w, s) = after v l (λ e. omega (arith, ap (at order) e)) in
          elim (ℕ_discrete (at order w) 0) [
            | yes e ↦ further (step_to_in v w s) e (more p (record { step = s; free = e }))
            | no e ↦ out (record { last = v; goal = w; edges = k; path = p; few = omega arith; step = s; placed = omega arith })
          ]

  pub way : Way S order n x
  way = go (onward n (omega arith))
    where
      go : Onward n → Way S order n x
      go (out o) = o
      go (further l b p) = absurd (acyclic (circle n step_from_in l (omega arith) (carry (λ u v s. s.step) p)))

-- the way up and the way down end at different vertices
pub ways_apart : {S : ℕ → ℕ → Type 0} {order : List ℕ} {n x : ℕ} → ¬ Circle S → (up : Way S order n x) (down : Way (Reverse S) order n x) → up.goal ≢ down.goal
ways_apart {S} {order} acyclic up down e =
    acyclic (record { at = down.goal; edges = _; round = rw e at (more (append (before down.step (path_reverse (carry (λ u v s. s.step) down.path))) (carry (λ u v s. s.step) up.path)) up.step) })

-- ---- a bipolar choice of directions for the links of a graph

-- S u v: the link of u and v leads from u to v
pub record BipolarSteps (vertices : ℕ) (G : Graph) (S : ℕ → ℕ → Type 0) : Type 0 where
  pub adjacent : (u v : ℕ) → S u v → Adjacent G u v
  pub acyclic : ¬ Circle S
  pub prior : (v : ℕ) → v < vertices → v ≢ 0 → (u : ℕ) × S u v
  pub after : (v : ℕ) → v < vertices → v ≢ 1 → (w : ℕ) × S v w

module _ {vertices : ℕ} {G : Graph} (L : GraphLaws vertices G) {S : ℕ → ℕ → Type 0} (C : BipolarSteps vertices G S) where
  step_from_in : (u v : ℕ) → S u v → u < vertices
  step_from_in u v s = let j = C.adjacent u v s in rw j.at_from at (L.from_in j.dart j.dart_in)

  step_to_in : (u v : ℕ) → S u v → v < vertices
  step_to_in u v s = let j = C.adjacent u v s in rw j.at_to at (L.to_in j.dart j.dart_in)

  module _ (order : List ℕ) (first : 1 ≤ at order 0) (last : 1 ≤ at order 1) (x : ℕ) (x_in : x < vertices) (x_free : at order x ≡ 0) where
    -- some step leads from a placed vertex to a free one
    pub crosses : Crossing S order
    crosses = let (k, p) = reached vertices step_from_in 0 C.prior C.acyclic x x_in in crossing order p first x_free

    -- the way up, and the way down
    pub way_up : Way S order vertices x
    way_up = way vertices step_from_in step_to_in C.acyclic 1 C.after order last x x_in x_free

    pub way_down : Way (Reverse S) order vertices x
    way_down = way vertices (λ u v s. step_to_in v u s) (λ u v s. step_from_in v u s) (λ c. C.acyclic (circle_reverse c)) 0 C.prior order first x x_in x_free
