-- A sound sheet is a plane map.
use Rattle.std.proofs.Common.{◌≡◌, refl, sym, ◌∙◌, ap, inl, inr, Bool, true, false, not, cond, ℕ, ◌<◌, arith}
use Rattle.counting.proofs.Iterate.{clash, either}
use Rattle.planarmap.specs.Map.{Bipolar, Plane}
use Rattle.clauses.specs.declared.Sheet.{Sheet}
use Rattle.clauses.specs.Darts.{is_tail, opposite}
use Rattle.sheet.specs.Darts.{tail, head, darts, vertex}
use Rattle.sheet.specs.Sound.{Sound}
use Rattle.sheet.specs.Check.{row}
use Rattle.soundness.specs.Maps.{map_of}
use Rattle.sheet.proofs.Darts.{dart, dart_kind, dart_below, by_dart, dart_opposite, dart_vertex, opposite_below, opposite_opposite, opposite_kind}
use Rattle.soundness.proofs.Rings.{vertex_below}
use Rattle.soundness.proofs.Faces.{faces_numbered, faces_unique}
use Rattle.soundness.proofs.Law.{rotation_of}
use Rattle.soundness.proofs.Rows.{row_law}

module _ {s : Sheet} (S : Sound s) where
  -- the darts of one kind at the vertex v, by their edges
  Ends : Bool → ℕ → Type 0
  Ends b v = (k : ℕ) × (k < s.edges) × (cond b (tail s k) (head s k) ≡ v)

  -- a vertex with no dart of one kind has only darts of the other
  only : (b : Bool) (v : ℕ) → ¬ Ends (not b) v → (d : ℕ) → d < darts s → vertex s d ≡ v → is_tail d ≡ b
  unfolding Ends
  only b v none = by_dart s (λ d. vertex s d ≡ v → is_tail d ≡ b) (λ a k h e. elim (either a b) [
    | inl q ↦ dart_kind a k ∙ q
    | inr q ↦ absurd (none (k, h, ap (λ x. cond x (tail s k) (head s k)) (sym q) ∙ sym (dart_vertex s a k) ∙ e))
  ])

  -- a vertex with an edge of one kind has a dart of that kind
  has : (b : Bool) (v : ℕ) → Ends b v → (d : ℕ) × (d < darts s) × (vertex s d ≡ v) × (is_tail d ≡ b)
  unfolding Ends
  has b v (k, h, e) = (dart b k, dart_below b h, dart_vertex s b k ∙ e, dart_kind b k)

  up : (d : ℕ) → d < darts s → is_tail d ≡ true → row s (vertex s d) < row s (vertex s (opposite d))
  up = by_dart s (λ d. is_tail d ≡ true → row s (vertex s d) < row s (vertex s (opposite d))) each
    where
      each : (b : Bool) (k : ℕ) → k < s.edges → is_tail (dart b k) ≡ true → row s (vertex s (dart b k)) < row s (vertex s (opposite (dart b k)))
      each true k h t = rw (dart_opposite true k, dart_vertex s true k, dart_vertex s false k) ((row_law S).rises k h)
      each false k h t = clash t (dart_kind false k)

  bipolar_of : Bipolar (map_of s)
  unfolding Ends
  bipolar_of = record {
    two_darts = omega arith;
    opposite_below = λ {d} h. opposite_below s d h;
    opposite_opposite = λ {d} _. opposite_opposite d;
    opposite_out = λ {d} _. opposite_kind d;
    vertex_below = λ {d} h. vertex_below s S.joins d h;
    rotation = (rotation_of S).perm;
    next_vertex = λ {d} h. (rotation_of S).keeps d h;
    ring = λ {d} {e} h k q. (rotation_of S).ring d e h k q;
    walks = faces_numbered s S.limits.edges_most (rotation_of S);
    rises = λ {d} h t. up d h t;
    root_below = omega (arith, S.limits.edges_least);
    root_out = refl;
    root_tail = dart_vertex s true 0 ∙ S.root_tail;
    root_head = ap (vertex s) (dart_opposite true 0) ∙ dart_vertex s false 0 ∙ S.root_head;
    source = λ {d} h e. only true 0 S.poles.source d h e;
    sink = λ {d} h e. only false 1 S.poles.sink d h e;
    has_out = λ {v} h n. has true v (S.poles.other_sinks v h n);
    has_in = λ {v} h n. has false v (S.poles.other_sources v h n);
  }

  pub plane_of : Plane (map_of s)
  plane_of = record { bipolar = bipolar_of; euler = omega (arith, S.euler.two, faces_unique s S.limits.edges_most (rotation_of S) S.euler.numbered) }
