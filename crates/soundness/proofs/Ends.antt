-- The end of a wire at a bar. Assumes nothing.
use Rattle.std.proofs.Common.{◌≡◌, sym, ◌∙◌, ap, inl, inr, Bool, true, false, cond, ℕ, ◌/◌, ◌<◌, eqb-true, eq-eqb, ne_eqb, eqb, ◌⊎◌, arith}
use Rattle.std.proofs.Math.Logic.{by_cases}
use Rattle.std.proofs.Math.Decide.{ℕ_discrete}
use Rattle.counting.proofs.Iterate.{by_bool}
use Rattle.soundness.proofs.Tests.{eq_says, or_says, Says}
use Rattle.sheet.proofs.Darts.{dart, dart_edge, dart_below, dart_vertex, by_dart}
use Rattle.clauses.specs.declared.Sheet.{Sheet}
use Rattle.clauses.specs.Darts.{is_tail, touches_of, dart_of}
use Rattle.sheet.specs.Darts.{tail, head, darts, vertex, touches, dart_at}
use Rattle.sheet.specs.Sound.{Joins, Sound}

-- d is an end at bar v
pub record EndAt (s : Sheet) (v d : ℕ) : Type 0 where
  pub below : d < darts s
  pub here : vertex s d ≡ v

module _ (s : Sheet) where
  at_is : (k v : ℕ) → dart_at s k v ≡ dart (eqb (tail s k) v) k
  unfolding dart_of
  at_is k v = by_bool (eqb (tail s k) v) (λ t. rw t) (λ t. rw t)

  pub at_edge : (k v : ℕ) → dart_at s k v / 2 ≡ k
  at_edge k v = rw (at_is k v) (dart_edge (eqb (tail s k) v) k)

  pub at_below : (k v : ℕ) → k < s.edges → dart_at s k v < darts s
  at_below k v h = rw (at_is k v) (dart_below (eqb (tail s k) v) h)

  pub at_end : (k v : ℕ) → k < s.edges → touches s k v ≡ true → EndAt s v (dart_at s k v)
  unfolding touches_of
  at_end k v h t = record { below = at_below k v h; here = ap (vertex s) (at_is k v) ∙ dart_vertex s (eqb (tail s k) v) k ∙ by_bool (eqb (tail s k) v) tail_end head_end }
    where
      tail_end : eqb (tail s k) v ≡ true → cond (eqb (tail s k) v) (tail s k) (head s k) ≡ v
      tail_end e = rw e (eqb-true (tail s k) v e)

      head_end : eqb (tail s k) v ≡ false → cond (eqb (tail s k) v) (tail s k) (head s k) ≡ v
      head_end e = rw e (eqb-true (head s k) v (rw e at t))

  pub touches_says : (k v : ℕ) → Says (touches s k v) ((tail s k ≡ v) ⊎ (head s k ≡ v))
  unfolding touches_of
  touches_says k v = or_says (eq_says (tail s k) v) (eq_says (head s k) v)

  -- an end at bar v is the end there of its wire, which touches v
  pub end_touches : {v d : ℕ} → EndAt s v d → touches s (d / 2) v ≡ true
  unfolding vertex
  end_touches {v} {d} e = (touches_says (d / 2) v).1 (by_bool (is_tail d) (λ t. inl (rw t at e.here)) (λ t. inr (rw t at e.here)))

  module _ (joins : (k : ℕ) → k < s.edges → Joins s k) where
    pub end_at_law : {v d : ℕ} → EndAt s v d → dart_at s (d / 2) v ≡ d
    end_at_law {v} {d} e = by_dart s (λ d. vertex s d ≡ v → dart_at s (d / 2) v ≡ d) (λ b k h q. rw (dart_edge b k, at_is k v) (ap (λ b. dart b k) (kind b k h q))) d e.below e.here
      where
        kind : (b : Bool) (k : ℕ) → k < s.edges → vertex s (dart b k) ≡ v → eqb (tail s k) v ≡ b
        kind true k h q = eq-eqb (tail s k) v (sym (dart_vertex s true k) ∙ q)
        kind false k h q = ne_eqb (tail s k) v (λ z. (joins k h).different (z ∙ sym q ∙ dart_vertex s false k))

-- each bar has a wire
pub touched : {s : Sheet} → Sound s → (v : ℕ) → v < s.vertices → (k : ℕ) × (k < s.edges) × (touches s k v ≡ true)
touched {s} S v h = by_cases (ℕ_discrete v 0)
    (λ e. (0, omega (arith, S.limits.edges_least), (touches_says s 0 v).1 (inl (S.root_tail ∙ sym e))))
    (λ n. let (k, l, e) = S.poles.other_sources v h n in (k, l, (touches_says s k v).1 (inr e)))
