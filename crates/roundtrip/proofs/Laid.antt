-- Next-ends that follow a list of a bar's wires form one ring of exactly its ends. Assumes nothing.
use Rattle.std.proofs.Common.{◌≡◌, refl, sym, ◌∙◌, ap, subst, ◌≢◌, List, [], ◌∷◌, ◌++◌, ℕ, zero, suc, ◌+◌, ◌-◌, ◌/◌, ◌≤◌, ◌<◌, arith, get_or, length}
use Rattle.std.proofs.Math.Logic.{by_cases}
use Rattle.std.proofs.Math.Decide.{ℕ_discrete}
use Rattle.std.proofs.Math.ListN.{get_or-append}
use Rattle.std.proofs.Math.Seq.{get_or-append_seam}
use Rattle.counting.specs.Orbits.{iter, Reach}
use Rattle.counting.proofs.Iterate.{iter_add}
use Rattle.counting.proofs.Reach.{reach_trans}
use Rattle.clauses.specs.declared.Sheet.{Sheet}
use Rattle.sheet.specs.Darts.{darts, vertex, next, dart_at}
use Rattle.sheet.specs.Sound.{Joins, Ring}
use Rattle.load.specs.Rings.{link_ring}
use Rattle.sheet.proofs.Darts.{edge_below}
use Rattle.roundtrip.proofs.Around.{Around}
use Rattle.soundness.proofs.Ends.{EndAt, at_below, at_end, end_touches, end_at_law}
use Rattle.roundtrip.proofs.Linking.{link_other, link_at}

-- entry i of the list, which the first follows
abbrev pub cyclic : List ℕ → ℕ → ℕ
cyclic ws i = get_or (ws ++ get_or ws 0 0 ∷ []) i 0

pub cyclic_entry : (ws : List ℕ) (i : ℕ) → i < length ws → cyclic ws i ≡ get_or ws i 0
cyclic_entry ws i h = get_or-append ws (get_or ws 0 0 ∷ []) 0 i h

-- the list is the bar's wires, each once, and its ends follow each other in the list's order
pub record Laid (s : Sheet) (v : ℕ) (nexts wires : List ℕ) : Type 0 where
  pub around : Around s v wires
  pub follows : (i : ℕ) → i < length wires → get_or nexts (dart_at s (get_or wires i 0) v) 0 ≡ dart_at s (cyclic wires (suc i)) v

-- linking lays the ring of its bar
pub link_lays : (s : Sheet) (v : ℕ) (ws nexts : List ℕ) → Around s v ws → darts s ≤ length nexts → Laid s v (link_ring s v ws nexts) ws
link_lays s v ws nexts A room = record {
  around = A;
  follows = λ i h. link_at s v (get_or ws 0 0) ws nexts A.distinct i h (λ j l. omega (arith, at_below s (get_or ws j 0) v (A.inside j l)));
}

-- and leaves the ends of the others
pub link_leaves : (s : Sheet) (u v : ℕ) (ws nexts : List ℕ) → Around s v ws → u ≢ v → (d : ℕ) → EndAt s u d → get_or (link_ring s v ws nexts) d 0 ≡ get_or nexts d 0
link_leaves s u v ws nexts A n d e =
    link_other s v (get_or ws 0 0) ws nexts d (λ i h q. n (sym e.here ∙ ap (vertex s) q ∙ (at_end s (get_or ws i 0) v (A.inside i h) (A.touching i h)).here))

pub link_keeps : (s : Sheet) (u v : ℕ) (ws nexts wires : List ℕ) → Around s v ws → u ≢ v → Laid s u nexts wires → Laid s u (link_ring s v ws nexts) wires
link_keeps s u v ws nexts wires A n L = record {
  around = L.around;
  follows = λ i h. link_leaves s u v ws nexts A n _ (at_end s (get_or wires i 0) u (L.around.inside i h) (L.around.touching i h)) ∙ L.follows i h;
}

module _ (s : Sheet) (v : ℕ) (wires : List ℕ) (L : Laid s v s.nexts wires) where
  -- its ends, in turn
  unfoldable pub end : ℕ → ℕ
  end i = dart_at s (cyclic wires i) v

  pub steps : (i : ℕ) → i ≤ length wires → iter (next s) i (end 0) ≡ end i
  unfolding end
  steps zero h = refl
  steps (suc i) h = ap (next s) (steps i (omega arith) ∙ ap (λ w. dart_at s w v) (cyclic_entry wires i (omega arith))) ∙ L.follows i (omega arith)

  around_again : 0 < length wires → end (length wires) ≡ end 0
  unfolding end
  around_again h = ap (λ w. dart_at s w v) (get_or-append_seam wires (get_or wires 0 0) [] 0 ∙ sym (cyclic_entry wires 0 h))

  -- back to the first, and from the first to each
  to_first : (i : ℕ) → i < length wires → Reach (next s) (end i) (end 0)
  to_first i h =
      let n : ℕ = length wires - i in
      let whole : n + i ≡ length wires = omega arith in
      (n, ap (iter (next s) n) (sym (steps i (omega arith))) ∙ sym (iter_add (next s) n i (end 0)) ∙ ap (λ k. iter (next s) k (end 0)) whole ∙ steps _ (omega arith) ∙ around_again (omega arith))

  end_in : (i : ℕ) → i < length wires → EndAt s v (end i)
  unfolding end
  end_in i h = rw (cyclic_entry wires i h) (at_end s (get_or wires i 0) v (L.around.inside i h) (L.around.touching i h))

  module _ (joins : (k : ℕ) → k < s.edges → Joins s k) where
    -- every end at the bar is one of them
    place : {d : ℕ} → EndAt s v d → (i : ℕ) × (i < length wires) × (end i ≡ d)
    unfolding end
    place {d} e =
        let (i, h, q) = L.around.all (d / 2) (edge_below s e.below) (end_touches s e) in
        (i, h, ap (λ w. dart_at s w v) (cyclic_entry wires i h ∙ q) ∙ end_at_law s joins e)

    after : {d : ℕ} → EndAt s v d → EndAt s v (next s d)
    after {d} e =
        let (i, h, q) = place e in
        let on : end (suc i) ≡ next s d = sym (steps (suc i) h) ∙ ap (next s) (steps i (omega arith) ∙ q) in
        subst (EndAt s v) on (by_cases (ℕ_discrete (suc i) (length wires))
        (λ z. rw (z, around_again (omega arith)) (end_in 0 (omega arith)))
        (λ z. end_in (suc i) (omega arith)))

    pub laid_ring : Ring s v
    laid_ring = record {
      inside = λ d h q. (after (record { below = h; here = q })).below;
      stays = λ d h q. (after (record { below = h; here = q })).here;
      one = λ d e h k p q. one' (place (record { below = h; here = p })) (place (record { below = k; here = q }));
    }
      where
        one' : {d e : ℕ} → (i : ℕ) × (i < length wires) × (end i ≡ d) → (j : ℕ) × (j < length wires) × (end j ≡ e) → Reach (next s) d e
        one' (i, h, p) (j, k, q) = reach_trans (next s) (subst (λ d. Reach (next s) d (end 0)) p (to_first i h)) (j, steps j (omega arith) ∙ q)
