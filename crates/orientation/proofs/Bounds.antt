-- How high the entries can be: parents are vertices, and places stay far below the end of their type. Assumes nothing.
use Rattle.std.proofs.Common.{ℕ, zero, suc, ◌+◌, ◌*◌, ◌<◌, ◌≤◌, Bool, true, false, not, ◌&&◌, List, arith, ltb, leb, get_or, set, length, get_or-set_same, get_or-set_other}
use Rattle.std.proofs.Math.Logic.{by_cases}
use Rattle.std.proofs.Math.Decide.{ℕ_discrete, dec_lt}
use Rattle.std.proofs.Math.Seq.{set_out}
use Rattle.counting.proofs.Iterate.{by_bool}
use Rattle.counting.proofs.Stores.{replicate_at}
use Rattle.orientation.specs.Inner.{Low}
use Rattle.orientation.specs.Ears.{Graph, is_placed, first_order, raise, raised, insert_at, entry, own_parents, is_reached, relax, sweep, exit, explored, parents_from, next_place, put_along, put_ear, with_ear, with_ears, relaxed}
use Rattle.orientation.proofs.Places.{raised_later}

set_low : (p i x : ℕ) (l : List ℕ) → Low p l → x ≤ p → Low p (set l i x)
set_low p i x l low h v =
    by_cases (ℕ_discrete v i)
    (λ e. by_cases (dec_lt i (length l))
    (λ k. rw (e, get_or-set_same l i x 0 k) h)
    (λ k. rw (set_out l i x (omega arith)) (low v)))
    (λ n. rw (get_or-set_other l i v x 0 n) (low v))

-- ---- parents are vertices

own_low : (k : ℕ) → k ≤ 128 → Low 127 (own_parents k)
unfolding own_parents
own_low zero h = λ v. omega (arith, replicate_at {A = ℕ} 0 128 v)
own_low (suc k) h = set_low 127 k k (own_parents k) (own_low k (omega arith)) (omega arith)

module _ (G : Graph) (inside : (d : ℕ) → d < G.darts → G.from d < 128) (order : List ℕ) where
  relax_low : (parents : List ℕ) (d : ℕ) → d < G.darts → Low 127 parents → Low 127 (relax G order parents d)
  unfolding relax relaxed
  relax_low parents d h low = by_bool (is_reached parents (G.from d) && not (is_reached parents (G.to d)) && not (is_placed order (G.to d))) (λ t. rw t (set_low 127 (G.to d) (G.from d) parents low (omega (arith, inside d h)))) (λ t. rw t low)

  sweep_low : (k : ℕ) → k ≤ G.darts → (parents : List ℕ) → Low 127 parents → Low 127 (sweep G order k parents)
  unfolding sweep
  sweep_low zero h parents low = low
  sweep_low (suc k) h parents low = relax_low (sweep G order k parents) k h (sweep_low k (omega arith) parents low)

  explored_low : (u f : ℕ) (parents : List ℕ) → Low 127 parents → Low 127 (explored G order u f parents)
  unfolding explored
  explored_low u zero parents low = low
  explored_low u (suc f) parents low = by_bool (ltb (exit G order u parents) G.darts)
      (λ t. rw t low)
      (λ t. rw t (explored_low u f (sweep G order G.darts parents) (sweep_low G.darts (omega arith) parents low)))

  pub parents_low : (u from to : ℕ) → from < 128 → Low 127 (explored G order u G.vertices (set (own_parents 128) to from))
  parents_low u from to h = explored_low u G.vertices _ (set_low 127 to from (own_parents 128) (own_low 128 (omega arith)) (omega arith))

-- ---- a vertex put in raises the others by one at most

pub place_up : (up : Bool) (p : ℕ) → next_place up p ≤ p + 1
place_up true p = omega arith
place_up false p = omega arith

module _ (p : ℕ) (order : List ℕ) (q : ℕ) (low : Low q order) where
  raised_low : (k : ℕ) → Low (q + 1) (raised p k order)
  unfolding raised raise
  raised_low zero = λ v. omega (arith, low v)
  raised_low (suc k) = by_bool (leb p (get_or (raised p k order) k 0))
      (λ t. rw t (set_low (q + 1) k (suc (get_or (raised p k order) k 0)) (raised p k order) (raised_low k) (omega (arith, raised_later p order k k (omega arith), low k))))
      (λ t. rw t (raised_low k))

  pub inserted_low : (v : ℕ) → p ≤ q + 1 → Low (q + 1) (insert_at p v order)
  unfolding insert_at
  inserted_low v h = set_low (q + 1) v p (raised p 128 order) (raised_low 128) h

-- ---- all ears; each raises a place by 128 at most

put_low : (f p : ℕ) (parents : List ℕ) (u : ℕ) (up : Bool) (v : ℕ) (order : List ℕ) → Low p order → Low (f + p) (put_along f parents u up v order)
unfolding put_along
put_low zero p parents u up v order low = λ w. omega (arith, low w)
put_low (suc f) p parents u up v order low =
    let place = next_place up (get_or order u 0) in
    let next = put_low f (p + 1) parents u up (get_or parents v 0) (insert_at place v order) (inserted_low place order p low v (omega (arith, place_up up (get_or order u 0), low u))) in
    by_bool (is_placed order v)
    (λ t. rw t (λ w. omega (arith, low w)))
    (λ t. rw t (λ w. omega (arith, next w)))

ear_low : (G : Graph) (p : ℕ) (order : List ℕ) → Low p order → Low (128 + p) (with_ear G order)
unfolding with_ear put_ear
ear_low G p order low =
    let same : Low (128 + p) order = λ w. omega (arith, low w) in
    by_bool (ltb (entry G order) G.darts)
    (λ t. by_bool (ltb (exit G order (G.from (entry G order)) (parents_from G order (entry G order))) G.darts)
    (λ q. rw (t, q) (put_low 128 p _ _ _ _ order low))
    (λ q. rw (t, q) same))
    (λ t. rw t same)

first_low : Low 2 first_order
unfolding first_order
first_low zero = omega arith
first_low (suc zero) = omega arith
first_low (suc (suc v)) = omega (arith, replicate_at {A = ℕ} 0 126 v)

module _ (G : Graph) where
  ears_low : (i : ℕ) → Low (2 + 128 * i) (with_ears G i)
  unfolding with_ears
  ears_low zero = λ v. omega (arith, first_low v)
  ears_low (suc i) = λ v. omega (arith, ear_low G (2 + 128 * i) (with_ears G i) (ears_low i) v)

  pub ears_fit : (i : ℕ) → i < 128 → Low 65000 (with_ears G i)
  ears_fit i h = λ v. omega (arith, ears_low i v)
