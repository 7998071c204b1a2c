-- The last vertex gets the number of a vertex that goes. Assumes nothing.
use Rattle.std.proofs.Common.{ℕ, ◌-◌, ◌≤◌, ◌<◌, ◌≡◌, refl, sym, ◌∙◌, ap, Bool, true, false, arith}
use Rattle.std.proofs.Math.ListN.{length-map}
use Rattle.std.proofs.lemmas.List.{get_or-map}
use Rattle.clauses.specs.declared.Sheet.{Sheet}
use Rattle.sheet.specs.Darts.{Sized, darts, vertex, next}
use Rattle.sheet.specs.Sound.{Unused}
use Rattle.sheet.proofs.Darts.{dart, by_dart, dart_vertex}
use Rattle.edit.specs.Changes.{renamed, last_vertex_to}
use Rattle.preservation.proofs.Places.{named_zero}

module _ (t : Sheet) (z : Sized t) (v : ℕ) where
  abbrev t' : Sheet
  t' = last_vertex_to t v

  abbrev w : ℕ
  w = t.vertices - 1

  pub named_vertices : t'.vertices ≡ w
  unfolding last_vertex_to
  named_vertices = refl

  pub named_edges : t'.edges ≡ t.edges
  unfolding last_vertex_to
  named_edges = refl

  pub named_next : (d : ℕ) → next t' d ≡ next t d
  unfolding last_vertex_to
  named_next d = refl

  pub named_vertex : t.edges ≤ 256 → (d : ℕ) → d < darts t → vertex t' d ≡ renamed w v (vertex t d)
  unfolding last_vertex_to
  named_vertex few = by_dart t (λ d. vertex t' d ≡ renamed w v (vertex t d)) each
    where
      each : (b : Bool) (j : ℕ) → j < t.edges → vertex t' (dart b j) ≡ renamed w v (vertex t (dart b j))
      each true j h = dart_vertex t' true j ∙ get_or-map (renamed w v) t.tails j 0 0 (omega (arith, z.tails)) ∙ ap (renamed w v) (sym (dart_vertex t true j))
      each false j h = dart_vertex t' false j ∙ get_or-map (renamed w v) t.heads j 0 0 (omega (arith, z.heads)) ∙ ap (renamed w v) (sym (dart_vertex t false j))

  pub named_sized : Sized t'
  unfolding last_vertex_to
  named_sized = record {
    tails = length-map t.tails (renamed w v) ∙ z.tails;
    heads = length-map t.heads (renamed w v) ∙ z.heads;
    nexts = z.nexts;
  }

  pub named_unused : 2 ≤ t.vertices → Unused t → Unused t'
  unfolding last_vertex_to
  named_unused two u = record {
    tails = λ j h. named_zero w v t.tails j (λ q. omega arith) (u.tails j h);
    heads = λ j h. named_zero w v t.heads j (λ q. omega arith) (u.heads j h);
    nexts = u.nexts;
  }
