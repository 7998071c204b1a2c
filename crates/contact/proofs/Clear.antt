-- No contact in whole numbers is no contact at any point of the plane.
use Rattle.std.proofs.Common.{◌≡◌, refl, sym, ◌∙◌, ap, ◌≢◌, ◌⊎◌, inl, inr, ℕ, ◌*◌, ◌≤◌, ◌<◌, le_of_mul-le-mul_right, mul-le-mul_right, arith}
use Rattle.std.proofs.Math.Logic.{by_cases}
use Rattle.std.proofs.Math.Decide.{ℕ_discrete, dec_le}
use Rattle.std.proofs.Math.Nat.{eq_of_mul-eq-mul_right}
use Rattle.clauses.specs.declared.Sheet.{Sheet}
use Rattle.sheet.specs.Darts.{tail, head}
use Rattle.sheet.specs.Sound.{Joins}
use Rattle.drawing.specs.declared.VertexSegment.{VertexSegment}
use Rattle.drawing.specs.declared.Drawing.{Drawing}
use Rattle.drawing.specs.Points.{Point, vertex_of, edge_of, OnVertex, OnEdge, TailEnd, HeadEnd}
use Rattle.drawing.specs.Clear.{Meet, Clear}
use Rattle.contact.specs.Laws.{WellFormed, ClearLaw}
use Rattle.contact.proofs.Facts.{Covers, Touching, EndsOn, Uncontacted, Apart, Uncrossed, Unstacked, is_clear_says}

-- a point of the grid
at : ℕ → ℕ → Point
at x y = record { x = x; y = y; d = 1; whole = omega arith }

-- bars that cover one point of the grid share it
both : {a b : VertexSegment} {x y : ℕ} → Covers a x y → Covers b x y → Touching a b
both c e = record { level = c.level ∙ sym e.level; left = omega arith; right = omega arith }

module _ {D : Drawing} where
  -- a point of the grid on a bar, and on a wire
  on_bar : {v x y : ℕ} → Covers (vertex_of D v) x y → OnVertex D v (at x y)
  unfolding at
  on_bar c = record { level = omega arith; from_first = omega arith; to_last = omega arith }

  on_wire : (k y : ℕ) → (edge_of D k).low ≤ y → y ≤ (edge_of D k).high → OnEdge D k (at (edge_of D k).column y)
  unfolding at
  on_wire k y l h = record { upright = omega arith; from_low = omega arith; to_high = omega arith }

module _ {s : Sheet} {D : Drawing} (C : Clear s D) where
  -- ends of wires are points of the grid
  pub clear_ends : EndsOn s D
  unfolding at
  clear_ends = record {
    on_tail = λ k h.
        let end : TailEnd D k (at (edge_of D k).column (edge_of D k).low) = record { on = on_wire k _ (omega arith) (omega (arith, C.rises k h)); lowest = omega arith } in
        let o = C.on_tail k (at (edge_of D k).column (edge_of D k).low) h end in
        record { level = omega (arith, o.level); from = omega (arith, o.from_first); to = omega (arith, o.to_last) };
    on_head = λ k h.
        let end : HeadEnd D k (at (edge_of D k).column (edge_of D k).high) = record { on = on_wire k _ (omega (arith, C.rises k h)) (omega arith); highest = omega arith } in
        let o = C.on_head k (at (edge_of D k).column (edge_of D k).high) h end in
        record { level = omega (arith, o.level); from = omega (arith, o.from_first); to = omega (arith, o.to_last) };
  }

module _ {s : Sheet} {D : Drawing} (W : WellFormed s.vertices s.edges D) where
  module _ (joins : (k : ℕ) → k < s.edges → Joins s k) (E : EndsOn s D) (G : Uncontacted s D) where
    -- a bar and a wire that share a point, in whole numbers
    record Shares (v k : ℕ) : Type 0 where
      from : (vertex_of D v).first ≤ (edge_of D k).column
      to : (edge_of D k).column ≤ (vertex_of D v).last
      above : (edge_of D k).low ≤ (vertex_of D v).row
      below : (vertex_of D v).row ≤ (edge_of D k).high

    shares : {v k : ℕ} {p : Point} → OnVertex D v p → OnEdge D k p → Shares v k
    shares {v} {k} {p} q r = record {
      from = le_of_mul-le-mul_right (omega (arith, q.from_first, r.upright)) p.whole;
      to = le_of_mul-le-mul_right (omega (arith, q.to_last, r.upright)) p.whole;
      above = le_of_mul-le-mul_right (omega (arith, q.level, r.from_low)) p.whole;
      below = le_of_mul-le-mul_right (omega (arith, q.level, r.to_high)) p.whole;
    }

    -- the bar is the wire's tail, or its head, at that end
    ends : (v k : ℕ) → v < s.vertices → k < s.edges → Shares v k
        → ((v ≡ tail s k) × ((vertex_of D v).row ≡ (edge_of D k).low)) ⊎ ((v ≡ head s k) × ((vertex_of D v).row ≡ (edge_of D k).high))
    ends v k h i c = by_cases (ℕ_discrete (vertex_of D v).row (edge_of D k).low)
        (λ e. inl (G.vertices v (tail s k) h (joins k i).tail_in (both (record { level = e; from = c.from; to = c.to }) (E.on_tail k i)), e))
        (λ n. by_cases (ℕ_discrete (vertex_of D v).row (edge_of D k).high)
        (λ e. inr (G.vertices v (head s k) h (joins k i).head_in (both (record { level = e; from = c.from; to = c.to }) (E.on_head k i)), e))
        (λ m. absurd (G.crossings v h k i (record { from = c.from; to = c.to; above = omega (arith, c.above); below = omega (arith, c.below) }))))

    -- of two wires in one column, the one whose tail is not lower begins where the other ends
    upper : (k l : ℕ) → k < s.edges → l < s.edges → k ≢ l → (edge_of D k).column ≡ (edge_of D l).column → (edge_of D k).low ≤ (edge_of D l).low
        → (edge_of D l).low ≤ (edge_of D k).high → (head s k ≡ tail s l) × ((edge_of D k).high ≡ (edge_of D l).low)
    upper k l h i n e a b =
        let t = E.on_tail l i in
        let shared : Shares (tail s l) k =
        record { from = omega (arith, t.from); to = omega (arith, t.to); above = omega (arith, t.level); below = omega (arith, t.level) } in
        elim (ends (tail s l) k (joins l i).tail_in h shared) [
          | inl (q, r) ↦ absurd (n (G.stacks k l h i (record { bar = sym q; column = e })))
          | inr (q, r) ↦ (sym q, omega (arith, t.level))
        ]

    -- a point of both is the end of the one and the beginning of the other
    meets : (k l : ℕ) (p : Point) → k < s.edges → l < s.edges → k ≢ l → OnEdge D k p → OnEdge D l p → (edge_of D k).low ≤ (edge_of D l).low → Meet s D k l p
    meets k l p h i n q r a =
        let e : (edge_of D k).column ≡ (edge_of D l).column = eq_of_mul-eq-mul_right p.d p.whole _ _ (omega (arith, q.upright, r.upright)) in
        let (b, z) = upper k l h i n e a (le_of_mul-le-mul_right (omega (arith, q.to_high, r.from_low)) p.whole) in
        let same : (edge_of D k).high * p.d ≡ (edge_of D l).low * p.d = ap (λ y. y * p.d) z in
        record {
          bar = b;
          ends = record { on = q; highest = omega (arith, q.to_high, r.from_low) };
          begins = record { on = r; lowest = omega (arith, q.to_high, r.from_low) };
        }

    grid_clear : Clear s D
    grid_clear = record {
      vertices_apart = λ v w p h i q r.
          G.vertices v w h i (record {
            level = eq_of_mul-eq-mul_right p.d p.whole _ _ (omega (arith, q.level, r.level));
            left = le_of_mul-le-mul_right (omega (arith, q.from_first, r.to_last)) p.whole;
            right = le_of_mul-le-mul_right (omega (arith, r.from_first, q.to_last)) p.whole;
          });
      vertex_edge = λ v k p h i q r. elim (ends v k h i (shares q r)) [
        | inl (e, z) ↦ inl (e, record { on = r; lowest = q.level ∙ ap (λ y. y * p.d) z })
        | inr (e, z) ↦ inr (e, record { on = r; highest = q.level ∙ ap (λ y. y * p.d) z })
      ];
      edges_apart = λ k l p h i n q r. by_cases (dec_le (edge_of D k).low (edge_of D l).low)
          (λ a. inl (meets k l p h i n q r a))
          (λ a. inr (meets l k p i h (λ e. n (sym e)) r q (omega arith)));
      rises = λ k h. (W.edges k h).upward;
      on_tail = λ k p h q. on_end (tail s k) p (edge_of D k).low (E.on_tail k h) q.on q.lowest;
      on_head = λ k p h q. on_end (head s k) p (edge_of D k).high (E.on_head k h) q.on q.highest;
    }
      where
        on_end : (v : ℕ) {k : ℕ} (p : Point) (y : ℕ) → Covers (vertex_of D v) (edge_of D k).column y → OnEdge D k p → p.y ≡ y * p.d → OnVertex D v p
        on_end v {k} p y c q e = record {
          level = e ∙ ap (λ z. z * p.d) (sym c.level);
          from_first = omega (arith, mul-le-mul_right p.d c.from, q.upright);
          to_last = omega (arith, mul-le-mul_right p.d c.to, q.upright);
        }

  module _ (C : Clear s D) where
    -- two wires of one tail in one column share their lowest point
    clear_unstacked : Unstacked s D
    unfolding at
    clear_unstacked k l h i t = by_cases (ℕ_discrete k l) (λ e. e) (λ n.
        let low : (edge_of D k).low ≡ (edge_of D l).low = sym ((clear_ends C).on_tail k h).level ∙ ap (λ v. (vertex_of D v).row) t.bar ∙ ((clear_ends C).on_tail l i).level in
        let here : OnEdge D k (at (edge_of D k).column (edge_of D k).low) = on_wire k (edge_of D k).low (omega arith) (omega (arith, C.rises k h)) in
        let there : OnEdge D l (at (edge_of D k).column (edge_of D k).low) =
        record { upright = omega (arith, t.column); from_low = omega arith; to_high = omega (arith, C.rises l i) } in
        elim (C.edges_apart k l (at (edge_of D k).column (edge_of D k).low) h i n here there) [
          | inl m ↦ absurd (omega (arith, m.ends.highest, C.rises k h))
          | inr m ↦ absurd (omega (arith, m.ends.highest, C.rises l i))
        ])

    -- two bars that share points share one of the grid
    clear_apart : Apart s.vertices D
    clear_apart v w h i t =
        let f = (W.vertices v h).rightward in
        let g = (W.vertices w i).rightward in
        by_cases (dec_le (vertex_of D v).first (vertex_of D w).first)
        (λ a. C.vertices_apart v w (at (vertex_of D w).first (vertex_of D v).row) h i
        (on_bar (record { level = refl; from = a; to = t.right })) (on_bar (record { level = sym t.level; from = omega arith; to = g })))
        (λ a. C.vertices_apart v w (at (vertex_of D v).first (vertex_of D v).row) h i
        (on_bar (record { level = refl; from = omega arith; to = f })) (on_bar (record { level = sym t.level; from = omega arith; to = t.left })))

    clear_uncrossed : Uncrossed s.vertices s.edges D
    unfolding at
    clear_uncrossed v h k i c =
        let covered : Covers (vertex_of D v) (edge_of D k).column (vertex_of D v).row = record { level = refl; from = c.from; to = c.to } in
        elim (C.vertex_edge v k (at (edge_of D k).column (vertex_of D v).row) h i (on_bar covered) (on_wire k _ (omega (arith, c.above)) (omega (arith, c.below)))) [
          | inl (e, z) ↦ omega (arith, z.lowest, c.above)
          | inr (e, z) ↦ omega (arith, z.highest, c.below)
        ]

pub clear_law : ClearLaw
clear_law s D S W = (
  λ t. let (E, G) = (is_clear_says s D).0 t in grid_clear W S.joins E G,
  λ C. (is_clear_says s D).1 (clear_ends C, record { vertices = clear_apart W C; crossings = clear_uncrossed W C; stacks = clear_unstacked W C }),
)
