-- The hypotheses can be met: vertices 0, 2, 1 one above the other, edges 0 to 1 (the root), 0 to 2 and 2 to 1.
use Rattle.std.proofs.Common.{◌≡◌, refl, sym, ◌∙◌, ap, Bool, true, false, not, ◌&&◌, ◌||◌, ◌≢◌, ℕ, zero, suc, ◌<◌, arith, eqb, ltb, leb, eqb-true, ltb-true, leb-true, eq-eqb}
use Rattle.std.proofs.Math.Bool.{beq, and-eq-true_iff}
use Rattle.std.proofs.Math.Decide.{ℕ_discrete}
use Rattle.std.proofs.lemmas.Bool.{not-true}
use Rattle.counting.specs.Orbits.{iter, Reach}
use Rattle.counting.proofs.Iterate.{by_bool}
use Rattle.planarmap.specs.Map.{Map, Bipolar, Plane, walk}
use Rattle.planarmap.specs.Corners.{corner_face}
use Rattle.planarmap.specs.Columns.{ColumnLaws}
use Rattle.planarmap.specs.Contact.{edge_column, Greatest, Long, NoContact}
use Rattle.planarmap.specs.Rotation.{Clockwise}
use Rattle.planarmap.proofs.Laws.{beq_true}
use Rattle.planarmap.proofs.Spans.{long_extent}
use Rattle.planarmap.proofs.Contact.{apart}
use Rattle.planarmap.proofs.Points.{no_contact}
use Rattle.planarmap.proofs.Rotation.{clockwise}

abbrev six : {A : Type 0} → A → A → A → A → A → A → ℕ → A
six a b c d e f zero = a
six a b c d e f (suc zero) = b
six a b c d e f (suc (suc zero)) = c
six a b c d e f (suc (suc (suc zero))) = d
six a b c d e f (suc (suc (suc (suc zero)))) = e
six a b c d e f (suc (suc (suc (suc (suc n))))) = f

abbrev pub stack : Map
stack = record {
  darts = 6;
  vertices = 3;
  edges = 3;
  faces = 2;
  root = 0;
  opposite = six 1 0 3 2 5 4;
  next = six 2 5 0 4 3 1;
  out = six true false true false true false;
  vertex = six 0 1 0 2 2 1;
  face = six 1 0 0 1 0 1;
  row = six 0 2 1 0 0 0;
}

-- ---- facts of all numbers below n, by computing

abbrev every : (ℕ → Bool) → ℕ → Bool
every p zero = true
every p (suc n) = p n && every p n

every_at : (p : ℕ → Bool) (n : ℕ) → every p n ≡ true → {d : ℕ} → d < n → p d ≡ true
every_at p zero e h = absurd (omega arith)
every_at p (suc n) e {d} h =
    let (last, rest) = (and-eq-true_iff (p n) (every p n)).0 e in
    elim (ℕ_discrete d n) [ yes q ↦ ap p q ∙ last | no q ↦ every_at p n rest (omega arith) ]

less : (f : ℕ → ℕ) (k n : ℕ) → every (λ d. ltb (f d) k) n ≡ true → {d : ℕ} → d < n → f d < k
less f k n e {d} h = ltb-true (f d) k (every_at (λ d. ltb (f d) k) n e h)

same : (f g : ℕ → ℕ) (n : ℕ) → every (λ d. eqb (f d) (g d)) n ≡ true → {d : ℕ} → d < n → f d ≡ g d
same f g n e {d} h = eqb-true (f d) (g d) (every_at (λ d. eqb (f d) (g d)) n e h)

given : (t p : ℕ → Bool) (n : ℕ) → every (λ d. not (t d) || p d) n ≡ true → {d : ℕ} → d < n → t d ≡ true → p d ≡ true
given t p n e {d} h q = rw q at (every_at (λ d. not (t d) || p d) n e h)

-- whether e is reached from d in at most k steps
abbrev reaches : (ℕ → ℕ) → ℕ → ℕ → ℕ → Bool
reaches φ zero d e = eqb d e
reaches φ (suc k) d e = eqb (iter φ (suc k) d) e || reaches φ k d e

reach_of : (φ : ℕ → ℕ) (k d e : ℕ) → reaches φ k d e ≡ true → Reach φ d e
reach_of φ zero d e q = (0, eqb-true d e q)
reach_of φ (suc k) d e q =
    by_bool (eqb (iter φ (suc k) d) e)
    (λ t. (suc k, eqb-true (iter φ (suc k) d) e t))
    (λ f. reach_of φ k d e (rw f at q))

-- darts below n of one label reach each other in at most k steps
joined : (φ label : ℕ → ℕ) (k n : ℕ) → every (λ d. every (λ e. not (eqb (label d) (label e)) || reaches φ k d e) n) n ≡ true
    → {d e : ℕ} → d < n → e < n → label d ≡ label e → Reach φ d e
joined φ label k n q {d} {e} h l p =
    reach_of φ k d e (given (λ e. eqb (label d) (label e)) (reaches φ k d) n (every_at (λ d. every (λ e. not (eqb (label d) (label e)) || reaches φ k d e) n) n q h) l
    (rw p (eq-eqb (label e) (label e) refl)))

-- ---- the map is plane

next_next : {d : ℕ} → d < 6 → stack.next (stack.next d) ≡ d
next_next = same (λ d. stack.next (stack.next d)) (λ d. d) 6 refl

-- the vertices and the faces, one by one
last_vertex : {v : ℕ} → v < 3 → v ≢ 0 → v ≢ 1 → 2 ≡ v
last_vertex h a b = omega arith

bipolar : Bipolar stack
bipolar = record {
  two_darts = refl;
  opposite_below = less stack.opposite 6 6 refl;
  opposite_opposite = same (λ d. stack.opposite (stack.opposite d)) (λ d. d) 6 refl;
  opposite_out = λ {d} h. beq_true (not (stack.out d)) (stack.out (stack.opposite d)) (every_at (λ d. beq (not (stack.out d)) (stack.out (stack.opposite d))) 6 refl h);
  vertex_below = less stack.vertex 3 6 refl;
  rotation = record {
    below = λ d. less stack.next 6 6 refl;
    one_one = λ d e h k p. sym (next_next h) ∙ ap stack.next p ∙ next_next k;
  };
  next_vertex = same (λ d. stack.vertex (stack.next d)) stack.vertex 6 refl;
  ring = joined stack.next stack.vertex 1 6 refl;
  walks = record {
    inside = λ d. less stack.face 2 6 refl;
    step = λ d. same (λ d. stack.face (walk stack d)) stack.face 6 refl;
    joins = λ d e. joined (walk stack) stack.face 2 6 refl;
    used = λ c h. elim (ℕ_discrete c 0) [ yes z ↦ (1, omega arith, sym z) | no n ↦ (0, omega arith, omega arith) ];
  };
  rises = λ {d} h o. ltb-true _ _ (given stack.out (λ d. ltb (stack.row (stack.vertex d)) (stack.row (stack.vertex (stack.opposite d)))) 6 refl h o);
  root_below = omega arith;
  root_out = refl;
  root_tail = refl;
  root_head = refl;
  source = λ {d} h p. given (λ d. eqb (stack.vertex d) 0) stack.out 6 refl h (ap (λ x. eqb x 0) p);
  sink = λ {d} h p. not-true _ (given (λ d. eqb (stack.vertex d) 1) (λ d. not (stack.out d)) 6 refl h (ap (λ x. eqb x 1) p));
  has_out = λ {v} h n. elim (ℕ_discrete v 0) [ yes z ↦ (0, omega arith, sym z, refl) | no k ↦ (4, omega arith, last_vertex h k n, refl) ];
  has_in = λ {v} h n. elim (ℕ_discrete v 1) [ yes z ↦ (1, omega arith, sym z, refl) | no k ↦ (3, omega arith, last_vertex h n k, refl) ];
}

pub stack_plane : Plane stack
stack_plane = record { bipolar = bipolar; euler = refl }

-- ---- its columns, and how far its vertices reach

pub stack_columns : ColumnLaws stack (λ c. c)
stack_columns = record {
  rises = λ e E n. ltb-true _ _ (given (λ e. stack.out e && not (eqb e 0)) (λ e. ltb (stack.face e) (stack.face (stack.opposite e))) 6 refl E.below
      (rw E.is_out (by_bool (eqb e 0) (λ t. absurd (n (eqb-true e 0 t))) (λ f. ap not f))));
  first = refl;
  last = λ h. omega arith;
  fewer = λ h. h;
}

abbrev pub first_column : ℕ → ℕ
first_column v = 0

abbrev pub last_column : ℕ → ℕ
last_column = six 1 1 0 0 0 0

stack_greatest : {v : ℕ} → v < 2 → Greatest stack (λ c. c) v (last_column v)
unfolding edge_column
stack_greatest {v} h = record {
  found = (v, omega arith, same stack.vertex (λ v. v) 2 refl h, same last_column (λ v. edge_column stack (λ c. c) v) 2 refl h);
  greatest = λ d k p.
      let l = leb-true (edge_column stack (λ c. c) d) (last_column (stack.vertex d)) (every_at (λ d. leb (edge_column stack (λ c. c) d) (last_column (stack.vertex d))) 6 refl k) in
      omega (arith, ap last_column p);
}

pub stack_long : Long stack (λ c. c) first_column last_column
unfolding edge_column
stack_long = record {
  begins = λ {v} h. record {
    found = (
      six 2 5 4 0 0 0 v,
      less (six 2 5 4 0 0 0) 6 3 refl h,
      same (λ v. stack.vertex (six 2 5 4 0 0 0 v)) (λ v. v) 3 refl h,
      same first_column (λ v. edge_column stack (λ c. c) (six 2 5 4 0 0 0 v)) 3 refl h,
    );
    least = λ d k p. omega arith;
  };
  ends = λ {k} R. eqb-true _ _ (given (λ d. stack.out d && not (stack.out (stack.next d))) (λ d. eqb (suc (last_column (stack.vertex d))) (corner_face stack d)) 6 refl R.below
      (rw (R.first, R.second) refl));
  source = stack_greatest (omega arith);
  sink = stack_greatest (omega arith);
}

-- so its drawing touches nowhere it should not, and its rotations are clockwise
pub stack_no_contact : NoContact stack (λ c. c) first_column last_column
stack_no_contact = no_contact (apart stack_plane stack_columns (long_extent stack_plane stack_columns stack_long))

pub stack_clockwise : Clockwise stack (λ c. c)
stack_clockwise = clockwise stack_plane stack_columns
