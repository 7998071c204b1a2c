-- What the directions that we choose are worth: they are bipolar where any choice is. Assumes nothing.
use Rattle.std.proofs.Common.{◌≡◌, ℕ, ◌/◌, ◌%◌, ◌<◌, ◌≤◌, true, false, ◌≢◌, List, sym, refl, ap, ◌∙◌, arith, ltb-false, ltb-true, ne_eqb}
use Rattle.std.proofs.Math.Bool.{and-eq-true_iff}
use Rattle.std.proofs.Math.Decide.{ℕ_discrete}
use Rattle.std.proofs.Math.Logic.{by_cases}
use Rattle.counting.specs.Below.{table}
use Rattle.counting.proofs.Tables.{table_at, table_past, table_sized}
use Rattle.counting.proofs.Iterate.{by_bool}
use Rattle.counting.proofs.Paths.{no_circle}
use Rattle.clauses.specs.Darts.{tail_dart, head_dart, opposite}
use Rattle.clauses.specs.declared.Sheet.{Sheet}
use Rattle.sheet.specs.Sound.{Limits, Joins, Leads}
use Rattle.sheet.specs.Darts.{Sized, tail, head, darts, vertex}
use Rattle.sheet.specs.Check.{edge_table}
use Rattle.orientation.specs.Links.{Directs, Choice, Bipolar, Orientable}
use Rattle.orientation.specs.Links.Directs.{kept, reversed}
use Rattle.orientation.specs.Ears.{Graph, graph_of, order_of, is_reversed, chosen_tail, chosen_head, oriented}
use Rattle.orientation.specs.Laws.{OrientedChoice, OrientedLaw}
use Rattle.orientation.proofs.Darts.{along_from, along_to, back_from, back_to}
use Rattle.orientation.proofs.Places.{GraphLaws, Adjacent, adjacent_sym, at, StOrder}
use Rattle.orientation.proofs.Climbing.{BipolarSteps}
use Rattle.orientation.proofs.Growing.{with_ears_ordered, all_placed}

-- ---- the graph of a sheet's links

-- links between the bars of a sheet, link 0 from bar 0 to bar 1
record Linked (s : Sheet) : Type 0 where
  limits : Limits s
  joins : (k : ℕ) → k < s.edges → Joins s k
  root_first : tail s 0 ≡ 0
  root_second : head s 0 ≡ 1

-- some link joins u and v: its first vertex is u, or its second is
data Link (s : Sheet) (u v : ℕ) : Type 0 where
  onward : (k : ℕ) → k < s.edges → tail s k ≡ u → head s k ≡ v → Link s u v
  backward : (k : ℕ) → k < s.edges → head s k ≡ u → tail s k ≡ v → Link s u v

module _ (s : Sheet) where
  abbrev G : Graph
  G = graph_of s

  -- the vertices of a link are adjacent, either way
  adjacent_of : {u v : ℕ} → Link s u v → Adjacent G u v
  adjacent_of (onward k h p q) = record { dart = tail_dart k; dart_in = omega arith; at_from = along_from s k ∙ p; at_to = along_to s k ∙ q }
  adjacent_of (backward k h p q) = record { dart = head_dart k; dart_in = omega arith; at_from = back_from s k ∙ p; at_to = back_to s k ∙ q }

  -- each dart is one of a link
  link_of : (d : ℕ) → d < darts s → Link s (vertex s d) (vertex s (opposite d))
  link_of d h = by_cases (ℕ_discrete (d % 2) 0)
      (λ e. let q : d ≡ tail_dart (d / 2) = omega arith in rw q (onward (d / 2) (omega arith) (sym (along_from s (d / 2))) (sym (along_to s (d / 2)))))
      (λ e. let q : d ≡ head_dart (d / 2) = omega arith in rw q (backward (d / 2) (omega arith) (sym (back_from s (d / 2))) (sym (back_to s (d / 2)))))

  -- the other way
  link_sym : {u v : ℕ} → Link s u v → Link s v u
  link_sym (onward k h p q) = backward k h q p
  link_sym (backward k h p q) = onward k h q p

  module _ (K : Linked s) where
    link_in : {u v : ℕ} → Link s u v → (u < s.vertices) × (v < s.vertices) × (u ≢ v)
    link_in (onward k h p q) = let J = K.joins k h in (rw p at J.tail_in, rw q at J.head_in, λ e. J.different (p ∙ e ∙ sym q))
    link_in (backward k h p q) = let J = K.joins k h in (rw p at J.head_in, rw q at J.tail_in, λ e. J.different (q ∙ sym e ∙ sym p))

    laws : GraphLaws s.vertices G
    laws = record {
      counted = refl;
      two = K.limits.vertices_least;
      few = K.limits.vertices_most;
      from_in = λ d h. (link_in (link_of d h)).0;
      to_in = λ d h. (link_in (link_of d h)).1;
      different = λ d h. (link_in (link_of d h)).2;
      back = λ d h. adjacent_of (link_sym (link_of d h));
      root = adjacent_of (onward 0 (omega (arith, K.limits.edges_least)) K.root_first K.root_second);
    }

    order_st : StOrder G (order_of s)
    unfolding order_of
    order_st = with_ears_ordered G laws s.vertices

    module _ (t : Sheet) (C : Choice s t) where
      within : (k : ℕ) → k < t.edges → k < s.edges
      within k h = omega (arith, C.edges)

      -- wire k of t is its link
      wire_link : (k : ℕ) → k < s.edges → Link s (tail t k) (head t k)
      wire_link k h = elim (C.directs k h) [ kept x z ↦ onward k h (sym x) (sym z) | reversed x z ↦ backward k h (sym x) (sym z) ]

      -- ---- where the choice is bipolar, all vertices are placed

      module _ (B : Bipolar t) where
        chosen : BipolarSteps s.vertices G (Leads t)
        chosen = record {
          adjacent = λ u v l. rw (l.from, l.to) at (adjacent_of (wire_link l.edge (within l.edge l.edge_in)));
          acyclic = B.acyclic;
          prior = λ v h o. let (k, l, e) = B.poles.other_sources v (omega (arith, C.vertices)) o in (tail t k, record { edge = k; edge_in = l; from = refl; to = e });
          after = λ v h o. let (k, l, e) = B.poles.other_sinks v (omega (arith, C.vertices)) o in (head t k, record { edge = k; edge_in = l; from = e; to = refl });
        }

        places_all : (v : ℕ) → v < s.vertices → 1 ≤ at (order_of s) v
        unfolding order_of
        places_all = all_placed G laws chosen

      -- ---- where all vertices are placed and the wires rise in the order, the choice is bipolar

      module _ (order : List ℕ) (H : StOrder G order) (placed : (v : ℕ) → v < s.vertices → 1 ≤ at order v)
          (rises : (k : ℕ) → k < s.edges → at order (tail t k) < at order (head t k)) where
        -- a link joins v and w, which is lower: a wire leads from w to v
        wire : {v w : ℕ} → Link s v w → at order w < at order v → Leads t w v
        wire (onward k h p q) l = elim (C.directs k h) [
          | kept x z ↦ absurd (omega (arith, rises k h, ap (at order) (x ∙ p), ap (at order) (z ∙ q)))
          | reversed x z ↦ record { edge = k; edge_in = omega (arith, C.edges); from = x ∙ q; to = z ∙ p }
        ]
        wire (backward k h p q) l = elim (C.directs k h) [
          | kept x z ↦ record { edge = k; edge_in = omega (arith, C.edges); from = x ∙ q; to = z ∙ p }
          | reversed x z ↦ absurd (omega (arith, rises k h, ap (at order) (x ∙ p), ap (at order) (z ∙ q)))
        ]

        leads : {v w : ℕ} → Adjacent G v w → at order w < at order v → Leads t w v
        leads j l = wire (rw (j.at_from, j.at_to) at (link_of j.dart j.dart_in)) l

        climbs : (u v : ℕ) → Leads t u v → at order u < at order v
        climbs u v l = rw (l.from, l.to) at (rises l.edge (within l.edge l.edge_in))

        rising_bipolar : Bipolar t
        rising_bipolar = record {
          root_tail = C.root_tail ∙ K.root_first;
          root_head = C.root_head ∙ K.root_second;
          acyclic = no_circle (at order) climbs;
          poles = record {
            source = λ (k, h, e). omega (arith, rises k (within k h), ap (at order) e, H.is_ordered.first, placed (tail t k) (link_in (wire_link k (within k h))).0);
            other_sources = λ v h o.
                let N = H.sided true v (placed v (omega (arith, C.vertices))) o in
                let l = leads N.link N.side in
                (l.edge, l.edge_in, l.to);
            sink = λ (k, h, e). omega (arith, rises k (within k h), ap (at order) e, H.is_ordered.last (head t k));
            other_sinks = λ v h o.
                let N = H.sided false v (placed v (omega (arith, C.vertices))) o in
                let l = leads (adjacent_sym laws N.link) N.side in
                (l.edge, l.edge_in, l.from);
          };
        }

    -- ---- where all vertices are placed, our choice rises

    module _ (order : List ℕ) (H : StOrder G order) (placed : (v : ℕ) → v < s.vertices → 1 ≤ at order v) where
      chosen_rises : (k : ℕ) → k < s.edges → at order (chosen_tail s order k) < at order (chosen_head s order k)
      unfolding chosen_tail chosen_head is_reversed
      chosen_rises k h =
          by_bool (is_reversed s order k)
          (λ t. rw t (ltb-true _ _ ((and-eq-true_iff _ _).0 t).1))
          (λ f. rw f (by_cases (ℕ_discrete k 0) first (other f)))
        where
          first : k ≡ 0 → at order (tail s k) < at order (head s k)
          first e = omega (
            arith,
            ap (λ x. at order (tail s x)) e,
            ap (λ x. at order (head s x)) e,
            ap (at order) K.root_first,
            ap (at order) K.root_second,
            H.is_ordered.first,
            H.is_ordered.second,
          )

          other : is_reversed s order k ≡ false → k ≢ 0 → at order (tail s k) < at order (head s k)
          other f n =
              let low : at order (tail s k) ≤ at order (head s k) = ltb-false _ _ (rw (ne_eqb k 0 n) at f) in
              by_cases (ℕ_discrete (at order (tail s k)) (at order (head s k)))
              (λ e. absurd ((K.joins k h).different (H.is_ordered.distinct (tail s k) (head s k) (placed (tail s k) (K.joins k h).tail_in) e)))
              (λ d. omega arith)

-- ---- the sheet that is made

module _ (s : Sheet) (k : ℕ) (h : k < s.edges) where
  tail_oriented : tail (oriented s) k ≡ chosen_tail s (order_of s) k
  unfolding oriented edge_table table
  tail_oriented = table_at (chosen_tail s (order_of s)) 256 0 0 s.edges k h

  head_oriented : head (oriented s) k ≡ chosen_head s (order_of s) k
  unfolding oriented edge_table table
  head_oriented = table_at (chosen_head s (order_of s)) 256 0 0 s.edges k h

pub oriented_directs : (s : Sheet) (k : ℕ) → k < s.edges → Directs s (oriented s) k
unfolding chosen_tail chosen_head
oriented_directs s k h = by_bool (is_reversed s (order_of s) k)
    (λ t. reversed (tail_oriented s k h ∙ rw t refl) (head_oriented s k h ∙ rw t refl))
    (λ f. kept (tail_oriented s k h ∙ rw f refl) (head_oriented s k h ∙ rw f refl))

module _ (s : Sheet) where
  pub oriented_counts : ((oriented s).vertices ≡ s.vertices) × ((oriented s).edges ≡ s.edges)
  unfolding oriented
  oriented_counts = (refl, refl)

  pub oriented_nexts : (oriented s).nexts ≡ s.nexts
  unfolding oriented
  oriented_nexts = refl

  -- past the last edge there is 0
  pub oriented_past : (k : ℕ) → s.edges ≤ k → (tail (oriented s) k ≡ 0) × (head (oriented s) k ≡ 0)
  unfolding oriented edge_table table
  oriented_past k h = (table_past (chosen_tail s (order_of s)) 256 0 s.edges k h, table_past (chosen_head s (order_of s)) 256 0 s.edges k h)

  pub oriented_sized : Sized s → s.edges ≤ 256 → Sized (oriented s)
  unfolding oriented edge_table table
  oriented_sized z m = record {
    tails = table_sized (chosen_tail s (order_of s)) 256 0 s.edges m;
    heads = table_sized (chosen_head s (order_of s)) 256 0 s.edges m;
    nexts = z.nexts;
  }

-- ---- the theorems

pub oriented_choice : OrientedChoice
unfolding oriented chosen_tail chosen_head is_reversed
oriented_choice s h = record {
  vertices = refl;
  edges = refl;
  directs = oriented_directs s;
  root_tail = tail_oriented s 0 h;
  root_head = head_oriented s 0 h;
}

pub oriented_law : OrientedLaw
oriented_law s l joins = (λ O. to O (linked O), λ B. record { sheet = oriented s; choice = choice; bipolar = B })
  where
    choice : Choice s (oriented s)
    choice = oriented_choice s (omega (arith, l.edges_least))

    -- wire 0 of a choice is link 0 as it stands
    linked : Orientable s → Linked s
    linked O = record { limits = l; joins = joins; root_first = sym O.choice.root_tail ∙ O.bipolar.root_tail; root_second = sym O.choice.root_head ∙ O.bipolar.root_head }

    rises : Linked s → ((v : ℕ) → v < s.vertices → 1 ≤ at (order_of s) v) → (k : ℕ) → k < s.edges → at (order_of s) (tail (oriented s) k) < at (order_of s) (head (oriented s) k)
    rises K placed k h = rw (tail_oriented s k h, head_oriented s k h) (chosen_rises s K (order_of s) (order_st s K) placed k h)

    to : Orientable s → Linked s → Bipolar (oriented s)
    to O K =
        let placed = places_all s K O.sheet O.choice O.bipolar in
        rising_bipolar s K (oriented s) choice (order_of s) (order_st s K) placed (rises K placed)
