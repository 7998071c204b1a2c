-- Marks of the vertices that are ends. Assumes nothing.
use Rattle.std.proofs.Common.{ℕ, ◌+◌, ◌<◌, ◌≡◌, refl, sym, ◌∙◌, Bool, true, false, not, ◌||◌, List, add-one, arith, eq-eqb, ne_eqb, eqb, get_or, set, length-set, replicate, get_or-set_same, get_or-set_other, ext_get_or, take, get_or-take, ◌&&◌, length, length-take}
use Rattle.std.proofs.Math.Bool.{beq, or-true, or-false}
use Rattle.std.proofs.Math.Decide.{ℕ_discrete}
use Rattle.counting.specs.Below.{all_below, some_below, tabulate}
use Rattle.clauses.specs.Inner.{end_of, pole_at}
use Rattle.counting.proofs.Below.{all_none, length_tabulate, get_d_tabulate}

pub marks_none : (ends : List ℕ) → tabulate (end_of ends 0) 256 ≡ replicate 256 false
unfolding end_of some_below tabulate
marks_none ends = refl

end_more : (ends : List ℕ) (k v : ℕ) → end_of ends (k + 1) v ≡ (end_of ends k v || eqb (get_or ends k 0) v)
unfolding end_of some_below
end_more ends k v = rw (add-one k) refl

set_mark : (ends : List ℕ) (k e : ℕ) → e ≡ get_or ends k 0 → e < 256 → set (tabulate (end_of ends k) 256) e true ≡ tabulate (end_of ends (k + 1)) 256
set_mark ends k e q l =
    ext_get_or false _ _ (omega (arith, length-set (tabulate (end_of ends k) 256) e true, length_tabulate (end_of ends k) 256, length_tabulate (end_of ends (k + 1)) 256)) (λ i h.
    let in_range : i < 256 = omega (arith, length-set (tabulate (end_of ends k) 256) e true, length_tabulate (end_of ends k) 256) in
    mark i in_range (ℕ_discrete i e) ∙ sym (get_d_tabulate (end_of ends (k + 1)) false 256 i in_range ∙ end_more ends k i))
  where
    mark : (i : ℕ) → i < 256 → Dec (i ≡ e) → get_or (set (tabulate (end_of ends k) 256) e true) i false ≡ (end_of ends k i || eqb (get_or ends k 0) i)
    mark i h (yes z) =
        rw (z, ← q, eq-eqb e e refl, or-true) (get_or-set_same (tabulate (end_of ends k) 256) e true false (omega (arith, length_tabulate (end_of ends k) 256)))
    mark i h (no z) =
        rw (← q, ne_eqb e i (λ x. z (sym x)), or-false) (get_or-set_other (tabulate (end_of ends k) 256) e i true false z ∙ get_d_tabulate (end_of ends k) false 256 i h)

pub marks_more : (marks : List Bool) (ends : List ℕ) (m k : ℕ) → marks ≡ tabulate (end_of ends k) 256 → k < m → get_or ends k 0 < 256
    → set marks (get_or (take m ends) k 0) true ≡ tabulate (end_of ends (k + 1)) 256
marks_more marks ends m k e h l = rw (e, get_or-take m ends k 0 h) (set_mark ends k _ refl l)

-- the mark of v among the marks of the first n vertices
pub mark_at : (n m v : ℕ) (ends : List ℕ) → v < length (take n (tabulate (end_of ends m) 256)) → get_or (take n (tabulate (end_of ends m) 256)) v false ≡ end_of ends m v
mark_at n m v ends h =
    let size = length-take n (tabulate (end_of ends m) 256) in
    let all = length_tabulate (end_of ends m) 256 in
    get_or-take n (tabulate (end_of ends m) 256) v false (omega arith) ∙ get_d_tabulate (end_of ends m) false 256 v (omega arith)

pub pole_next : (m pole v : ℕ) (ends : List ℕ) → all_below (pole_at m ends pole) (v + 1) ≡ (all_below (pole_at m ends pole) v && not (beq (end_of ends m v) (eqb v pole)))
unfolding all_below pole_at
pole_next m pole v ends = rw (add-one v, flip (end_of ends m v) (eqb v pole)) refl
  where
    flip : (x y : Bool) → beq x (not y) ≡ not (beq x y)
    flip true true = refl
    flip true false = refl
    flip false true = refl
    flip false false = refl

-- the turns of both loops, and their starts
pub ruleset mark_steps = (marks_none, marks_more, all_none, mark_at, pole_next)
