-- A plane map of a sheet's darts makes the sheet sound. Assumes nothing.
use Rattle.std.proofs.Common.{ℕ, suc, ◌+◌, ◌/◌, ◌≤◌, ◌<◌, ◌≡◌, refl, sym, ◌∙◌, ap, ◌≢◌, Bool, true, false, arith}
use Rattle.counting.proofs.Paths.{no_circle}
use Rattle.counting.proofs.Iterate.{clash}
use Rattle.planarmap.specs.Map.{Plane}
use Rattle.surgery.specs.Edits.{Grown}
use Rattle.surgery.specs.Statements.{Walks, Rises}
use Rattle.clauses.specs.declared.Sheet.{Sheet}
use Rattle.clauses.specs.Darts.{head_dart, is_tail, opposite, tail_dart}
use Rattle.sheet.specs.Darts.{darts, vertex, tail, head}
use Rattle.sheet.specs.Sound.{Ring, Leads, Incoming, Outgoing, Sound, Joins, Unused, Limits}
use Rattle.sheet.specs.Check.{face, face_count}
use Rattle.soundness.specs.Maps.{map_with}
use Rattle.sheet.proofs.Darts.{dart, dart_kind, dart_below, dart_is, dart_opposite, dart_vertex, edge_below}
use Rattle.soundness.proofs.Faces.{walk_faces}
use Rattle.preservation.specs.Maps.{Framed}

-- the faces of the map are the orbits of the walk
pub walks_with : (s : Sheet) (row : ℕ → ℕ) → s.edges ≤ 256 → Walks (map_with s row)
walks_with s row few p = walk_faces s few p

module _ (s : Sheet) (row : ℕ → ℕ) (f : Framed s) (P : Plane (map_with s row)) where
  -- the edge of a dart of one kind ends at the dart's vertex
  edge_end : (b : Bool) {v d : ℕ} → d < darts s → vertex s d ≡ v → is_tail d ≡ b → vertex s (dart b (d / 2)) ≡ v
  edge_end b {v} {d} h e t = ap (λ (x : Bool). vertex s (dart x (d / 2))) (sym t) ∙ ap (vertex s) (dart_is d) ∙ e

  ring : (v : ℕ) → v < s.vertices → Ring s v
  ring v h = record {
    inside = λ d l e. P.bipolar.rotation.below d l;
    stays = λ d l e. P.bipolar.next_vertex l ∙ e;
    one = λ d e l k p q. P.bipolar.ring l k (p ∙ sym q);
  }

  rises : (u v : ℕ) → Leads s u v → row u < row v
  rises u v t =
      let k = t.edge in
      let h = P.bipolar.rises (dart_below true t.edge_in) (dart_kind true k) in
      let a : vertex s (dart true k) ≡ u = dart_vertex s true k ∙ t.from in
      let b : vertex s (opposite (dart true k)) ≡ v = ap (vertex s) (dart_opposite true k) ∙ dart_vertex s false k ∙ t.to in
      rw (a, b) at h

  source : ¬ Incoming s 0
  source (k, h, e) = clash (P.bipolar.source (dart_below false h) (dart_vertex s false k ∙ e)) (dart_kind false k)

  sink : ¬ Outgoing s 1
  sink (k, h, e) = clash (dart_kind true k) (P.bipolar.sink (dart_below true h) (dart_vertex s true k ∙ e))

  other_sources : (v : ℕ) → v < s.vertices → v ≢ 0 → Incoming s v
  other_sources v h n =
      let (d, l, e, t) = P.bipolar.has_in h n in
      (d / 2, edge_below s l, sym (dart_vertex s false (d / 2)) ∙ edge_end false l e t)

  other_sinks : (v : ℕ) → v < s.vertices → v ≢ 1 → Outgoing s v
  other_sinks v h n =
      let (d, l, e, t) = P.bipolar.has_out h n in
      (d / 2, edge_below s l, sym (dart_vertex s true (d / 2)) ∙ edge_end true l e t)

  pub plane_sound : Sound s
  plane_sound = record {
    limits = f.limits;
    joins = f.joins;
    rings = ring;
    unused = f.unused;
    root_tail = sym (dart_vertex s true 0) ∙ P.bipolar.root_tail;
    root_head = sym (ap (vertex s) (dart_opposite true 0) ∙ dart_vertex s false 0) ∙ P.bipolar.root_head;
    acyclic = no_circle row rises;
    poles = record { source = source; other_sources = other_sources; sink = sink; other_sinks = other_sinks };
    euler = record { faces = face_count s; face = face s; numbered = P.bipolar.walks; two = P.euler };
  }

module _ (s : Sheet) (row : ℕ → ℕ) (P : Plane (map_with s row)) where
  -- an edge that rises joins two vertices
  plane_joins : (k : ℕ) → k < s.edges → Joins s k
  plane_joins k h =
      let up = P.bipolar.rises (dart_below true h) (dart_kind true k) in
      let low : vertex s (tail_dart k) ≡ tail s k = dart_vertex s true k in
      let high : vertex s (opposite (tail_dart k)) ≡ head s k = ap (vertex s) (dart_opposite true k) ∙ dart_vertex s false k in
      record {
        tail_in = omega (arith, P.bipolar.vertex_below (dart_below true h));
        head_in = omega (arith, P.bipolar.vertex_below (dart_below false h), dart_vertex s false k);
        different = λ e. omega (arith, ap row low, ap row high, ap row e);
      }

  -- so the limits and the unused entries are all that is left to see
  pub limited_sound : Limits s → Unused s → Sound s
  limited_sound l u = plane_sound s row (record { limits = l; joins = plane_joins; unused = u }) P

-- So an edit that makes a plane map with rows in which every edge rises makes a sound sheet.
pub kept_sound : (s : Sheet) → Limits s → Unused s → ((row : ℕ → ℕ) → Walks (map_with s row) → Rises (map_with s row) row → Plane (map_with s row))
    → ((row : ℕ → ℕ) × Rises (map_with s row) row) → Sound s
kept_sound s l u plane (row, rises) = limited_sound s row (plane row (walks_with s row l.edges_most) rises) l u

-- a sheet with one edge more: the map's new darts
pub new_head : (s : Sheet) → suc (darts s) ≡ head_dart s.edges
new_head s = omega arith

pub grown : (s s' : Sheet) (r r' : ℕ → ℕ) → s'.edges ≡ s.edges + 1 → Grown (map_with s r) (map_with s' r')
grown s s' r r' e =
    let h = new_head s in
    record {
      darts = omega arith;
      edges = omega arith;
      root = refl;
      paired = record { at_x = dart_opposite true s.edges ∙ sym h; at_y = ap opposite h ∙ dart_opposite false s.edges; rest = λ l. refl };
      tail_out = dart_kind true s.edges;
      head_in = ap is_tail h ∙ dart_kind false s.edges;
      out_rest = λ l. refl;
    }
