-- The lowest dart of each vertex, by a table that is filled from the last edge down. Assumes nothing.
use Rattle.std.proofs.Common.{ℕ, ◌+◌, ◌*◌, ◌≤◌, ◌<◌, ◌≡◌, refl, sym, ap, ◌∙◌, ◌≢◌, Bool, true, false, List, arith, get_or, set, length, length-set, take, get_or-set_same, get_or-set_other, get_or-take, eq-eqb, ne_eqb}
use Rattle.std.proofs.Math.Logic.{by_cases}
use Rattle.std.proofs.Math.Decide.{ℕ_discrete}
use Rattle.clauses.specs.Darts.{dart_of}
use Rattle.clauses.proofs.Touching.{touches_tail, touches_head, head_touches}
use Rattle.counting.specs.Below.{lowest_below}
use Rattle.counting.proofs.Below.{lowest_found}
use Rattle.counting.proofs.Iterate.{clash}
use Rattle.clauses.specs.declared.Sheet.{Sheet}
use Rattle.sheet.specs.Darts.{tail, head, darts, vertex, touches, dart_at, next}
use Rattle.sheet.specs.Sound.{Sound}
use Rattle.sheet.proofs.Darts.{dart_vertex}
use Rattle.soundness.proofs.Law.{rotation_of}
use Rattle.soundness.proofs.Ends.{touched}
use Rattle.writesheet.specs.Rings.{ring_from, lowest_dart, rotation}
use Rattle.writesheet.specs.Inner.{Firsts}

-- w is the lowest from k on, below n, that passes
pub record Low (p : ℕ → Bool) (k n w : ℕ) : Type 0 where
  pub from : k ≤ w
  pub below : w < n
  pub passes : p w ≡ true
  pub none : (j : ℕ) → k ≤ j → j < w → p j ≡ false

module _ (s : Sheet) (k v : ℕ) where
  dart_tail : tail s k ≡ v → dart_at s k v ≡ 2 * k
  unfolding dart_of
  dart_tail e = rw (eq-eqb (tail s k) v e) refl

  dart_head : tail s k ≢ v → dart_at s k v ≡ 2 * k + 1
  unfolding dart_of
  dart_head n = rw (ne_eqb (tail s k) v n) refl

-- the table holds the lowest dart of each vertex among the edges from k on
pub record Filled (s : Sheet) (k : ℕ) (firsts : List ℕ) : Type 0 where
  pub full : length firsts ≡ 128
  pub each : (v w : ℕ) → v < 128 → Low (λ j. touches s j v) k s.edges w → get_or firsts v 0 ≡ dart_at s w v

pub filled_none : (s : Sheet) (firsts : List ℕ) → length firsts ≡ 128 → Filled s s.edges firsts
filled_none s firsts l = record { full = l; each = λ v w h low. absurd (omega (arith, low.from, low.below)) }

module _ (s : Sheet) (k : ℕ) (firsts : List ℕ) (f : Filled s (k + 1) firsts) (a b : ℕ) (ea : a ≡ head s k) (eb : b ≡ tail s k) where
  pub filled_more : Filled s k (set (set firsts a (2 * k + 1)) b (2 * k))
  filled_more = record { full = simp length-set f.full; each = each }
    where
      each : (v w : ℕ) → v < 128 → Low (λ j. touches s j v) k s.edges w → get_or (set (set firsts a (2 * k + 1)) b (2 * k)) v 0 ≡ dart_at s w v
      each v w h low = by_cases (ℕ_discrete w k) here above
        where
          first : List ℕ
          first = set firsts a (2 * k + 1)

          here : w ≡ k → get_or (set first b (2 * k)) v 0 ≡ dart_at s w v
          here e =
              by_cases (ℕ_discrete (tail s k) v)
              (λ t. let z : b ≡ v = eb ∙ t in rw (z, e, dart_tail s k v t) (get_or-set_same first v (2 * k) 0 (simp length-set (omega (arith, f.full)))))
              (λ t. let z : a ≡ v = ea ∙ head_touches s.tails s.heads k v (ap (λ j. touches s j v) (sym e) ∙ low.passes) t in
              rw (e, dart_head s k v t) (get_or-set_other first b v (2 * k) 0 (λ q. t (sym (q ∙ eb))) ∙ rw z (get_or-set_same firsts v (2 * k + 1) 0 (omega (arith, f.full)))))

          above : w ≢ k → get_or (set first b (2 * k)) v 0 ≡ dart_at s w v
          above n =
              let l : k < w = omega (arith, low.from) in
              let away = low.none k (omega arith) l in
              get_or-set_other first b v (2 * k) 0 (λ q. clash (touches_tail s.tails s.heads k v (sym (q ∙ eb))) away)
              ∙ get_or-set_other firsts a v (2 * k + 1) 0 (λ q. clash (touches_head s.tails s.heads k v (sym (q ∙ ea))) away)
              ∙ f.each v w h (record { from = omega arith; below = low.below; passes = low.passes; none = λ j g m. low.none j (omega arith) m })

-- the front of a table
pub firsts_front : {s : Sheet} {firsts : List ℕ} → Firsts s firsts → Firsts s (take s.vertices firsts)
firsts_front {s} {firsts} F = record { each = λ v h. get_or-take s.vertices firsts v 0 h ∙ F.each v h }

module _ {s : Sheet} (S : Sound s) where
  lowest_edge : (v : ℕ) → v < s.vertices → Low (λ k. touches s k v) 0 s.edges (lowest_below (λ k. touches s k v) s.edges)
  lowest_edge v h =
      let (k, l, t) = touched S v h in
      let (below, passes, none) = lowest_found (λ k. touches s k v) s.edges k l t in
      record { from = omega arith; below = below; passes = passes; none = λ j _ m. none j m }

  pub filled_all : {firsts : List ℕ} → Filled s 0 firsts → Firsts s firsts
  filled_all f = record { each = λ v h. f.each v (lowest_below (λ k. touches s k v) s.edges) (omega (arith, S.limits.vertices_most)) (lowest_edge v h) }

  pub lowest_below_law : (v : ℕ) → v < s.vertices → lowest_dart s v < darts s
  lowest_below_law v h = let w = lowest_below (λ k. touches s k v) s.edges in
      let low = lowest_edge v h in
      by_cases (ℕ_discrete (tail s w) v)
      (λ e. omega (arith, dart_tail s w v e, low.below))
      (λ e. omega (arith, dart_head s w v e, low.below))

  pub lowest_vertex : (v : ℕ) → v < s.vertices → vertex s (lowest_dart s v) ≡ v
  lowest_vertex v h = let w = lowest_below (λ k. touches s k v) s.edges in
      by_cases (ℕ_discrete (tail s w) v)
      (λ e. ap (vertex s) (dart_tail s w v e) ∙ dart_vertex s true w ∙ e)
      (λ e. ap (vertex s) (dart_head s w v e) ∙ dart_vertex s false w ∙ head_touches s.tails s.heads w v (lowest_edge v h).passes e)

  pub next_below : (d : ℕ) → d < darts s → next s d < darts s
  next_below d h = (rotation_of S).perm.below d h

  -- entry v of those that the vertices have
  module _ {firsts : List ℕ} (F : Firsts s firsts) (v : ℕ) (h : v < s.vertices) (first : ℕ) (e : first ≡ get_or firsts v 0) where
    first_is : first ≡ lowest_dart s v
    first_is = e ∙ F.each v h

    pub first_below : first < darts s
    first_below = omega (arith, first_is, lowest_below_law v h)

    pub ring_listed : ring_from (darts s) s first first ≡ rotation s v
    unfolding rotation
    ring_listed = ap (λ d. ring_from (darts s) s d d) first_is

-- an end of an edge of a sound sheet has a place among 128
module _ {s : Sheet} (S : Sound s) {k v : ℕ} (h : k < s.edges) where
  pub tail_small : v ≡ tail s k → v < 128
  tail_small e = omega (arith, e, (S.joins k h).tail_in, S.limits.vertices_most)

  pub head_small : v ≡ head s k → v < 128
  head_small e = omega (arith, e, (S.joins k h).head_in, S.limits.vertices_most)

pub ruleset ends_small = (tail_small, head_small)
