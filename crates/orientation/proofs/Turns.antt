-- The loops of the functions, turn by turn. Assumes nothing.
use Rattle.std.proofs.Common.{◌≡◌, refl, sym, ap, ◌∙◌, ℕ, zero, suc, ◌+◌, ◌-◌, ◌<◌, ◌≤◌, Bool, true, false, List, Option, Some, None, is_some, add-one, add-zero, arith, ltb, leb, get_or, set, replicate, eq-eqb, ne_eqb}
use Rattle.std.specs.Option.{option_map}
use Rattle.std.proofs.lemmas.List.{set-get_or}
use Rattle.std.proofs.Math.Logic.{by_cases}
use Rattle.std.proofs.Math.Decide.{ℕ_discrete}
use mir.Val.{bool_byte}
use Rattle.counting.specs.Below.{table}
use Rattle.counting.proofs.Tables.{table_none, table_more}
use Rattle.counting.proofs.Iterate.{by_bool}
use Rattle.clauses.specs.declared.Sheet.{Sheet}
use Rattle.sheet.specs.Check.{edge_table}
use Rattle.orientation.specs.declared.Dart.{Dart}
use Rattle.orientation.specs.Inner.{dart_ends}
use Rattle.orientation.proofs.Places.{raised_later}
use Rattle.orientation.specs.Ears.{Graph, graph_of, is_placed, first_order, raise, raised, insert_at, entry, own_parents, sweep, exit, explored, parents_from, next_place, put_along, put_ear, with_ear, with_ears, order_of, chosen_tail, chosen_head, oriented}

-- ---- parents at first

pub own_start : own_parents 0 ≡ replicate 128 0
unfolding own_parents
own_start = refl

pub own_more : (k : ℕ) → own_parents (k + 1) ≡ set (own_parents k) k k
unfolding own_parents
own_more k = rw (add-one k) refl

pub ruleset own_steps = (own_start, own_more)

-- ---- a vertex put in

module _ (p : ℕ) (order : List ℕ) where
  pub raised_start : raised p 0 order ≡ order
  unfolding raised
  raised_start = refl

  pub raised_more : (k : ℕ) → raised p (k + 1) order ≡ set (raised p k order) k (get_or (raised p k order) k 0 + bool_byte (leb p (get_or (raised p k order) k 0)))
  unfolding raised raise
  raised_more k = by_bool (leb p (get_or (raised p k order) k 0))
      (λ t. rw (add-one k, t, add-one (get_or (raised p k order) k 0)) refl)
      (λ t. rw (add-one k, t, add-zero (get_or (raised p k order) k 0)) (sym (set-get_or (raised p k order) k 0)))

  pub inserted : (v : ℕ) → insert_at p v order ≡ set (raised p 128 order) v p
  unfolding insert_at
  inserted v = refl

pub ruleset insert_steps = (raised_start, raised_more, raised_later, inserted)

-- ---- a search, sweep by sweep

-- a dart by its vertices is found where it is
pub some_ends : (o : Option Dart) → is_some {T = ℕ × ℕ} (option_map (λ d. (d.from, d.to)) o) ≡ is_some o
some_ends (Some dart) = refl
some_ends None = refl

-- the number of darts is none
is_dart : (G : Graph) (d : ℕ) → is_some (dart_ends G d) ≡ ltb d G.darts
unfolding dart_ends
is_dart G d = by_bool (ltb d G.darts) (λ t. rw t refl) (λ t. rw t refl)

module _ (G : Graph) (order : List ℕ) (u : ℕ) (parents : List ℕ) where
  pub explored_over : (n i : ℕ) → n ≤ i → explored G order u (n - i) parents ≡ parents
  unfolding explored
  explored_over n i h = let z : n - i ≡ 0 = omega arith in rw z refl

  -- where there is an exit, no sweep is made
  pub explored_out : (f : ℕ) → is_some (dart_ends G (exit G order u parents)) ≡ true → explored G order u f parents ≡ parents
  unfolding explored
  explored_out zero e = refl
  explored_out (suc f) e = rw (← is_dart G (exit G order u parents), e) refl

  pub explored_more : (n i : ℕ) → i < n → is_some (dart_ends G (exit G order u parents)) ≡ false → explored G order u (n - (i + 1)) (sweep G order G.darts parents) ≡ explored G order u (n - i) parents
  unfolding explored
  explored_more n i h e = let z : n - i ≡ suc (n - (i + 1)) = omega arith in rw (z, ← is_dart G (exit G order u parents), e) refl

  -- a sweep that changes nothing is the last
  pub explored_still : sweep G order G.darts parents ≡ parents → (f : ℕ) → explored G order u f parents ≡ parents
  unfolding explored
  explored_still q zero = refl
  explored_still q (suc f) = by_bool (ltb (exit G order u parents) G.darts) (λ t. rw t refl) (λ t. rw (t, q) (explored_still q f))

pub ruleset explore_steps = (some_ends, explored_over, explored_out, explored_more, explored_still)

-- ---- an ear, vertex by vertex

-- just above a place, or just below it
pub place_is : (up : Bool) (p : ℕ) → p + bool_byte up ≡ next_place up p
place_is true p = add-one p
place_is false p = omega arith

-- the turns are over; the path is at a placed vertex; it is not
module _ (parents : List ℕ) (u : ℕ) (up : Bool) (v : ℕ) (order : List ℕ) where
  pub put_over : (i : ℕ) → 128 ≤ i → put_along (128 - i) parents u up v order ≡ order
  unfolding put_along
  put_over i h = let z : 128 - i ≡ 0 = omega arith in rw z refl

  pub put_stop : (f : ℕ) → (get_or order v 0 ≡ 0 → ⊥) → put_along f parents u up v order ≡ order
  unfolding put_along is_placed
  put_stop zero n = refl
  put_stop (suc f) n = rw (ne_eqb (get_or order v 0) 0 n) refl

  pub put_more : (i : ℕ) → i < 128 → get_or order v 0 ≡ 0
      → put_along (128 - i) parents u up v order ≡ put_along (128 - (i + 1)) parents u up (get_or parents v 0) (insert_at (next_place up (get_or order u 0)) v order)
  unfolding put_along is_placed
  put_more i h e = let z : 128 - i ≡ suc (128 - (i + 1)) = omega arith in rw (z, eq-eqb (get_or order v 0) 0 e) refl

pub ruleset put_steps = (put_over, put_stop)

-- ---- an ear

module _ (G : Graph) where
  -- a dart that is found
  found_is : (d from to : ℕ) → Some (from, to) ≡ dart_ends G d → (ltb d G.darts ≡ true) × (from ≡ G.from d) × (to ≡ G.to d)
  unfolding dart_ends
  found_is d from to e =
      let inside = sym (is_dart G d) ∙ ap is_some (sym e) in
      let at_d = rw inside at e in
      let both : ◌≡◌ {A = ℕ × ℕ} (from, to) (G.from d, G.to d) = cc in
      (inside, ap (λ p. p.0) both, ap (λ p. p.1) both)

  none_is : (d : ℕ) → None ≡ dart_ends G d → ltb d G.darts ≡ false
  none_is d e = sym (is_dart G d) ∙ ap is_some (sym e)

  module _ (order : List ℕ) where
    -- no entry
    pub ear_none : None ≡ dart_ends G (entry G order) → with_ear G order ≡ order
    unfolding with_ear
    ear_none e = rw (none_is _ e) refl

    -- an entry from u to x
    module _ (u x : ℕ) (e : Some (u, x) ≡ dart_ends G (entry G order)) (parents : List ℕ) (p : parents ≡ explored G order u G.vertices (set (own_parents 128) x u)) where
      -- no exit
      pub ear_stuck : None ≡ dart_ends G (exit G order u parents) → with_ear G order ≡ order
      unfolding with_ear parents_from
      ear_stuck n = let (t, f, g) = found_is _ u x e in rw (t, ← f, ← g, ← p, none_is _ n) refl

      -- an exit from y to w
      pub ear_put : (y w : ℕ) → Some (y, w) ≡ dart_ends G (exit G order u parents) → put_along 128 parents u (ltb (get_or order u 0) (get_or order w 0)) y order ≡ with_ear G order
      unfolding with_ear parents_from put_ear
      ear_put y w o =
          let (t, f, g) = found_is _ u x e in
          let (t', f', g') = found_is _ y w o in
          rw (t, ← f, ← g, ← p, t', ← f', ← g') refl

pub ruleset ear_steps = (ear_none)

-- ---- all ears

module _ (G : Graph) where
  pub ears_start : with_ears G 0 ≡ set (set (replicate 128 0) 0 1) 1 2
  unfolding with_ears first_order
  ears_start = refl

  pub ears_more : (i : ℕ) → with_ears G (i + 1) ≡ with_ear G (with_ears G i)
  unfolding with_ears
  ears_more i = rw (add-one i) refl

  -- where there is no ear, there is none later
  pub ears_still : (i : ℕ) → with_ear G (with_ears G i) ≡ with_ears G i → (j : ℕ) → i ≤ j → with_ears G j ≡ with_ears G i
  unfolding with_ears
  ears_still i q zero h = let e : i ≡ zero = omega arith in rw e refl
  ears_still i q (suc j) h = by_cases (ℕ_discrete i (suc j)) (λ e. rw e refl) (λ n. rw (ears_still i q j (omega arith)) q)

pub order_is : (s : Sheet) → order_of s ≡ with_ears (graph_of s) s.vertices
unfolding order_of
order_is s = refl

pub ruleset order_steps = (ears_start, ears_more, order_is)

-- ---- edges one by one

pub oriented_is : (s : Sheet) {tails heads : List ℕ} → tails ≡ table (chosen_tail s (order_of s)) s.edges 256 0 → heads ≡ table (chosen_head s (order_of s)) s.edges 256 0
    → record { vertices = s.vertices; edges = s.edges; tails = tails; heads = heads; nexts = s.nexts } ≡ oriented s
unfolding oriented edge_table table
oriented_is s t h = rw (t, h) refl

pub ruleset oriented_steps = (table_none, table_more, oriented_is)
