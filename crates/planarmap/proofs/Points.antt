-- No contact at any point of the plane: all ends are whole numbers, so it follows from no contact in whole numbers.
use Rattle.std.proofs.Common.{◌≡◌, sym, ◌∙◌, ap, inl, inr, ℕ, ◌*◌, ◌≤◌, ◌<◌, le_of_mul-le-mul_right, mul-le-mul_right, arith}
use Rattle.std.proofs.Math.Decide.{dec_le}
use Rattle.planarmap.specs.Map.{Map}
use Rattle.planarmap.specs.Contact.{Under, Apart, OnEdge, Joins, NoContact}

module _ {unit : ℕ} (u : 0 < unit) where
  -- an order of multiples of the unit is one of the numbers
  pub le_off : (a b : ℕ) → a * unit ≤ b * unit → a ≤ b
  le_off a b h = le_of_mul-le-mul_right h u

  eq_off : (a b : ℕ) → a * unit ≡ b * unit → a ≡ b
  eq_off a b h = omega (arith, le_off a b (omega arith), le_off b a (omega arith))

module _ {M : Map} {column first last : ℕ → ℕ} (A : Apart M column first last) where
  joins : {d e x y unit : ℕ} → 0 < unit → OnEdge M column d x y unit → OnEdge M column e x y unit → Under M d e → Joins M d e y unit
  joins {d} {e} {x} {y} {unit} u p q w =
      let below = mul-le-mul_right unit w.not_above in
      let same : M.row (M.vertex (M.opposite d)) ≡ M.row (M.vertex e) = eq_off u _ _ (omega arith) in
      record { joint = w.meeting same; there = omega arith }

  pub no_contact : NoContact M column first last
  no_contact = record {
    edges = λ u D E n p q. elim (A.edges D E n (eq_off u _ _ (sym p.here ∙ q.here))) [
      | inl w ↦ inl (joins u p q w)
      | inr w ↦ inr (joins u q p w)
    ];
    vertex_edge = λ {v} {e} {x} {y} {unit} u h E p q.
        elim (A.vertex_edge h E (le_off u _ _ (omega arith)) (le_off u _ _ (omega arith)) (le_off u _ _ (omega arith)) (le_off u _ _ (omega arith))) [
          | inl z ↦ inl (record { end = z; there = p.here ∙ ap (λ w. M.row w * unit) z })
          | inr z ↦ inr (record { end = z; there = p.here ∙ ap (λ w. M.row w * unit) z })
        ];
    vertices = λ {v} {w} u h k n p q.
        let row = eq_off u (M.row v) (M.row w) (sym p.here ∙ q.here) in
        let vv = le_off u (first v) (last v) (omega arith) in
        let vw = le_off u (first v) (last w) (omega arith) in
        let wv = le_off u (first w) (last v) (omega arith) in
        let ww = le_off u (first w) (last w) (omega arith) in
        elim (dec_le (first v) (first w)) [
          | yes l ↦ A.vertices h k n row (first w) l wv (omega arith) ww
          | no l ↦ A.vertices h k n row (first v) (omega arith) vv (omega arith) vw
        ];
  }
