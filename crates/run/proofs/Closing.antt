-- Whether a directed path leads from one bar to another, told by the circles of a graph: that of the sheet, with the edge from a to b in the place
-- of edge 0. Assumes nothing.
use Rattle.std.proofs.Common.{ℕ, suc, ◌+◌, ◌≤◌, ◌<◌, ◌≡◌, refl, sym, ◌∙◌, ap, ◌≢◌, ◌↔◌, ◌⊎◌, inl, inr, ⊎_elim, Bool, true, false, not, cond, List, arith, get_or, set, get_or-set_same, get_or-set_other}
use Rattle.std.proofs.Math.Logic.{by_cases}
use Rattle.std.proofs.Math.Decide.{ℕ_discrete}
use Rattle.counting.specs.Paths.{Path, Circle}
use Rattle.counting.specs.Paths.Path.{here, more}
use Rattle.counting.proofs.Iterate.{by_bool}
use Rattle.counting.proofs.Paths.{no_circle}
use Rattle.digraph.specs.Digraph as digraph
use Rattle.digraph.specs.Digraph.{Within}
use Rattle.digraph.specs.Relaxed.{levels_of}
use Rattle.clauses.specs.declared.Sheet.{Sheet}
use Rattle.sheet.specs.Darts.{tail, head}
use Rattle.sheet.specs.Sound.{Leads}
use Rattle.sheet.specs.Check.{row}
use Rattle.soundness.proofs.Levels.{acyclic_says}
use Rattle.soundness.proofs.Rows.{row_law}
use Rattle.edit.specs.Reaching.{leads_to}
use Rattle.preservation.proofs.Reaching.{leads_to_law}
use Rattle.run.specs.Inner.{Pair}

module _ (s : Sheet) (a b : ℕ) (g : Pair s a b) where
  -- from bar 0 a path leads to every bar
  pub from_root : b ≡ 0 → leads_to s b a ≡ true
  from_root e = (leads_to_law s g.sound b a g.b_in g.a_in).1 (row s a, rw e ((row_law g.sound).longest a g.a_in).path)

  -- a path rises from row to row
  climbs : {v k : ℕ} → Path (Leads s) b v k → (b ≡ v) ⊎ (row s b < row s v)
  climbs here = inl refl
  climbs (more {b = u} {v = v} p t) =
      let up : row s u < row s v = rw (t.from, t.to) at ((row_law g.sound).rises t.edge t.edge_in) in
      inr (⊎_elim (λ e. rw (← e) at up) (λ l. omega arith) (climbs p))

  pub not_higher : row s a ≤ row s b → leads_to s b a ≡ false
  not_higher l = by_bool (leads_to s b a)
      (λ t. let (k, p) = (leads_to_law s g.sound b a g.b_in g.a_in).0 t in ⊎_elim (λ e. absurd (g.other (sym e))) (λ h. absurd (omega arith)) (climbs p))
      (λ f. f)

  abbrev tails : List ℕ
  tails = set s.tails 0 a

  abbrev heads : List ℕ
  heads = set s.heads 0 b

  abbrev Step : ℕ → ℕ → Type 0
  Step = digraph.Leads s.edges tails heads

  tail_new : get_or tails 0 0 ≡ a
  tail_new = get_or-set_same s.tails 0 a 0 (omega (arith, g.sized.tails))

  head_new : get_or heads 0 0 ≡ b
  head_new = get_or-set_same s.heads 0 b 0 (omega (arith, g.sized.heads))

  tail_old : (k : ℕ) → k ≢ 0 → get_or tails k 0 ≡ tail s k
  tail_old k n = get_or-set_other s.tails 0 k a 0 n

  head_old : (k : ℕ) → k ≢ 0 → get_or heads k 0 ≡ head s k
  head_old k n = get_or-set_other s.heads 0 k b 0 n

  within : Within s.vertices s.edges tails heads
  within = record {
    few_nodes = omega (arith, g.sound.limits.vertices_most);
    few_edges = g.sound.limits.edges_most;
    from_in = λ k h. by_cases (ℕ_discrete k 0)
        (λ e. rw e (omega (arith, tail_new, g.a_in)))
        (λ n. omega (arith, tail_old k n, (g.sound.joins k h).tail_in));
    to_in = λ k h. by_cases (ℕ_discrete k 0)
        (λ e. rw e (omega (arith, head_new, g.b_in)))
        (λ n. omega (arith, head_old k n, (g.sound.joins k h).head_in));
  }

  -- the new edge
  edge : Step a b
  edge = record { edge = 0; inside = omega (arith, g.sound.limits.edges_least); source = tail_new; target = head_new }

  -- a path from a bar other than 0 does not take edge 0
  module _ (n : b ≢ 0) where
    never_root : {v k : ℕ} → Path (Leads s) b v k → v ≢ 0
    never_root here = n
    never_root (more p t) = λ e. g.sound.poles.source (t.edge, t.edge_in, t.to ∙ e)

    carried : {v k : ℕ} → Path (Leads s) b v k → Path Step b v k
    carried here = here
    carried (more {b = u} {v = v} p t) =
        let other : t.edge ≢ 0 = λ e. never_root p (sym t.from ∙ ap (tail s) e ∙ g.sound.root_tail) in
        more (carried p) (record { edge = t.edge; inside = t.edge_in; source = tail_old t.edge other ∙ t.from; target = head_old t.edge other ∙ t.to })

    circle : leads_to s b a ≡ true → Circle Step
    circle e =
        let (k, p) = (leads_to_law s g.sound b a g.b_in g.a_in).0 e in
        record { at = b; edges = k; round = more (carried p) edge }

    -- where no path leads from b to a, every edge rises in rows that are raised where one leads from b
    module _ (f : leads_to s b a ≡ false) where
      raise : Bool → ℕ
      raise t = cond t s.vertices 0

      height : ℕ → ℕ
      height v = row s v + raise (leads_to s b v)

      -- what a path leads to from b, an edge leads to from there
      kept : (k : ℕ) → k < s.edges → leads_to s b (tail s k) ≡ true → leads_to s b (head s k) ≡ true
      kept k h e =
          let J = g.sound.joins k h in
          let (i, p) = (leads_to_law s g.sound b (tail s k) g.b_in J.tail_in).0 e in
          (leads_to_law s g.sound b (head s k) g.b_in J.head_in).1 (suc i, more p (record { edge = k; edge_in = h; from = refl; to = refl }))

      raised : (k : ℕ) → k < s.edges → raise (leads_to s b (tail s k)) ≤ raise (leads_to s b (head s k))
      unfolding raise
      raised k h = by_bool (leads_to s b (tail s k)) (λ t. rw (t, kept k h t) (omega arith)) (λ t. rw t (omega arith))

      old_rises : (k : ℕ) → k < s.edges → height (tail s k) < height (head s k)
      unfolding height
      old_rises k h = omega (arith, raised k h, (row_law g.sound).rises k h)

      new_rises : height a < height b
      unfolding height raise
      new_rises = rw (f, (leads_to_law s g.sound b b g.b_in g.b_in).1 (0, here)) (omega (arith, (row_law g.sound).fewer a g.a_in))

      rises : (u v : ℕ) → Step u v → height u < height v
      rises u v t = by_cases (ℕ_discrete t.edge 0)
          (λ e. let x : u ≡ a = sym t.source ∙ ap (λ (i : ℕ). get_or tails i 0) e ∙ tail_new in
          let y : v ≡ b = sym t.target ∙ ap (λ (i : ℕ). get_or heads i 0) e ∙ head_new in
          rw (x, y) new_rises)
          (λ e. let x : tail s t.edge ≡ u = sym (tail_old t.edge e) ∙ t.source in
          let y : head s t.edge ≡ v = sym (head_old t.edge e) ∙ t.target in
          rw (x, y) at (old_rises t.edge t.inside))

      straight : ¬ Circle Step
      straight = no_circle height rises

    says : (levels_of s.vertices s.edges tails heads).acyclic ≡ true ↔ (¬ Circle Step)
    says = acyclic_says Step s.vertices s.edges tails heads within (λ u v t. t) (λ u v t. t)

    -- so there is a circle exactly where a path leads from b to a
    pub by_circle : not (levels_of s.vertices s.edges tails heads).acyclic ≡ leads_to s b a
    by_circle = by_bool (leads_to s b a)
        (λ t. by_bool (levels_of s.vertices s.edges tails heads).acyclic (λ u. absurd (says.0 u (circle t))) (λ u. rw (u, t) refl))
        (λ t. rw (says.1 (straight t), t) refl)
