-- A sweep goes on by a bar or a wire, or finds a contact. Assumes nothing.
use Rattle.std.proofs.Common.{◌≡◌, refl, sym, ap, ◌∙◌, ◌≢◌, ◌⊎◌, inl, inr, ⊎_elim, ◌&&◌, cond, ℕ, suc, ◌+◌, ◌≤◌, ◌<◌, arith, leb, le-leb, List, get_or, set, length-set, replicate, get_or-set_same, get_or-set_other}
use Rattle.std.proofs.Math.Logic.{by_cases}
use Rattle.std.proofs.lemmas.Bool.{lt-leb}
use Rattle.std.proofs.Math.Decide.{ℕ_discrete, dec_le, dec_lt}
use Rattle.counting.proofs.Stores.{replicate_at}
use Rattle.drawing.specs.declared.Drawing.{Drawing}
use Rattle.drawing.specs.Points.{vertex_of, edge_of}
use Rattle.contact.specs.Laws.{WellFormed}
use Rattle.contact.specs.Columns.{mark_at, Kept}
use Rattle.contact.specs.declared.columns.Columns.{Columns}
use Rattle.contact.specs.declared.sweep.Sweep.{Sweep}
use Rattle.contact.specs.Lists.{Linked, Before}
use Rattle.contact.specs.Free.{row_of, high_of, column_of, Spans, Stands, AllFree}
use Rattle.contact.specs.Sweep.{Topmost, Swept}

-- ---- the items that a sweep came past

-- the same items
pub record Same (P Q : ℕ → Type 0) : Type 0 where
  pub to : (j : ℕ) → P j → Q j
  pub back : (j : ℕ) → Q j → P j

-- one item more
pub record More (P : ℕ → Type 0) (k : ℕ) (Q : ℕ → Type 0) : Type 0 where
  pub new : ¬ P k
  pub here : Q k
  pub old : (j : ℕ) → P j → Q j
  pub split : (j : ℕ) → Q j → (j ≡ k) ⊎ P j

module _ {items : ℕ} {key : ℕ → ℕ} {r j : ℕ} where
  pub before : j < items → key j < r → Before items key r 0 j
  before h l = record { inside = h; key_most = omega arith; earlier = λ e. absurd (omega arith) }

  pub key_before : Before items key r 0 j → key j < r
  key_before b = by_cases (ℕ_discrete (key j) r) (λ e. absurd (omega (arith, b.earlier e))) (λ n. omega (arith, b.key_most))

pub same : {P : ℕ → Type 0} → Same P P
same = record { to = λ j p. p; back = λ j p. p }

module _ {items : ℕ} {key : ℕ → ℕ} {first after : List ℕ} (L : Linked 0 items key first after) where
  -- at the start of a list
  pub at_first : (r : ℕ) → Same (Before items key r 0) (Before items key r (get_or first r 0))
  at_first r = record {
    to = λ j b. record { inside = b.inside; key_most = b.key_most; earlier = λ e. absurd (omega (arith, b.earlier e)) };
    back = λ j b. record { inside = b.inside; key_most = b.key_most; earlier = λ e. absurd (omega (arith, b.earlier e, rw e at (L.first_least j (omega arith) b.inside))) };
  }

  -- past its end
  pub at_end : (r k : ℕ) → items ≤ k → Same (Before items key r k) (Before items key (r + 1) 0)
  at_end r k h = record {
    to = λ j b. record { inside = b.inside; key_most = omega (arith, b.key_most); earlier = λ e. absurd (omega (arith, e, b.key_most)) };
    back = λ j b. record {
      inside = b.inside;
      key_most = omega (arith, key_before b);
      earlier = λ e. omega (arith, b.inside);
    };
  }

  -- on it
  pub at_next : (r k : ℕ) → k < items → key k ≡ r → More (Before items key r k) k (Before items key r (get_or after k 0))
  at_next r k h e = record {
    new = λ b. omega (arith, b.earlier e);
    here = record { inside = h; key_most = omega arith; earlier = λ _. L.rising k (omega arith) h };
    old = λ j b. record { inside = b.inside; key_most = b.key_most; earlier = λ q. omega (arith, b.earlier q, L.rising k (omega arith) h) };
    split = λ j b. by_cases (ℕ_discrete j k) inl (λ n. inr (record {
      inside = b.inside;
      key_most = b.key_most;
      earlier = λ q. by_cases (dec_lt j k) (λ l. l) (λ l. absurd (omega (arith, b.earlier q, L.next_least k j (omega arith) (omega arith) b.inside (q ∙ sym e))));
    }));
  }

-- ---- marks

module _ {At : ℕ → ℕ → Type 0} {row mark : ℕ → ℕ} where
  topmost_same : {P Q : ℕ → Type 0} → Same P Q → Topmost P At row mark → Topmost Q At row mark
  topmost_same S T = record {
    attained = λ x b. ⊎_elim inl (λ (j, p, a, e). inr (j, S.to j p, a, e)) (T.attained x b);
    above = λ j x b q a. T.above j x b (S.back j q) a;
  }

  -- no mark is above that of the topmost item
  mark_most : {P : ℕ → Type 0} {r : ℕ} → Topmost P At row mark → ((j : ℕ) → P j → row j ≤ r) → (x : ℕ) → x < 1024 → mark x ≤ suc r
  mark_most T most x b = ⊎_elim (λ z. omega arith) (λ (j, p, a, e). omega (arith, most j p)) (T.attained x b)

  -- an item that is topmost where it is gives its mark there
  topmost_more : {P Q : ℕ → Type 0} {k : ℕ} {mark' : ℕ → ℕ} → More P k Q → Topmost P At row mark → ((j : ℕ) → P j → row j ≤ row k)
      → ((x : ℕ) → Dec (At k x)) → ((x : ℕ) → x < 1024 → At k x → mark' x ≡ suc (row k)) → ((x : ℕ) → x < 1024 → ¬ At k x → mark' x ≡ mark x)
      → Topmost Q At row mark'
  topmost_more {k} M T most at hit miss = record {
    attained = λ x b. by_cases (at x)
        (λ a. inr (k, M.here, a, hit x b a))
        (λ n. ⊎_elim (λ z. inl (miss x b n ∙ z)) (λ (j, p, a, e). inr (j, M.old j p, a, miss x b n ∙ e)) (T.attained x b));
    above = λ j x b q a. by_cases (at x)
        (λ h. ⊎_elim (λ (e : j ≡ k). omega (arith, hit x b h, ap row e)) (λ p. omega (arith, hit x b h, most j p)) (M.split j q))
        (λ n. ⊎_elim (λ e. absurd (n (rw e at a))) (λ p. omega (arith, miss x b n, T.above j x b p a)) (M.split j q));
  }

kept_up : {c : Columns} {a b : ℕ} → Kept c a → a ≤ b → Kept c b
kept_up K h = record {
  cells = λ x. omega (arith, K.cells x);
  blocks = λ x. omega (arith, K.blocks x);
  greatest = λ x. omega (arith, K.greatest x);
  above = K.above;
  reached = K.reached;
}

spans : (D : Drawing) (v x : ℕ) → Dec (Spans D v x)
spans D v x = by_cases (dec_le (vertex_of D v).first x)
    (λ l. by_cases (dec_le x (vertex_of D v).last) (λ r. yes (record { from = l; to = r })) (λ r. no (λ s. r s.to)))
    (λ l. no (λ s. l s.from))

module _ {n : ℕ} {D : Drawing} where
  pub swept_same : {P P' W W' : ℕ → Type 0} {a b : ℕ} {s : Sweep} → Same P P' → Same W W' → a ≤ b → Swept n D a P W s → Swept n D b P' W' s
  swept_same A B h S = record {
    free = record {
      apart = λ v w x p q. S.free.apart v w x (A.back v p) (A.back w q);
      uncrossed = λ v k l p. S.free.uncrossed v k l (B.back k p);
      ends_apart = λ k l p q. S.free.ends_apart k l (B.back k p) (B.back l q);
    };
    bars = topmost_same A S.bars;
    ends = topmost_same B S.ends;
    size_ended = S.size_ended;
    kept = kept_up S.kept h;
  }

  -- ---- a bar v

  module _ {P Q W : ℕ → Type 0} {v limit : ℕ} {s : Sweep} (S : Swept n D limit P W s) (M : More P v Q)
      (most : (j : ℕ) → P j → row_of D j ≤ row_of D v) (inside : (vertex_of D v).last < 1024)
      (mark : ℕ) (is_mark : mark ≡ suc (row_of D v)) where
    -- a swept bar of this row gave its columns this mark
    marked_by : (w x : ℕ) → P w → row_of D w ≡ row_of D v → Spans D w x → x < 1024 → mark_at s.columns x ≡ mark
    marked_by w x p e a b = omega (arith, S.bars.above w x b p a, mark_most S.bars most x b)

    pub bar_more : (ended' : List ℕ) → ended' ≡ s.ended → (c : Columns) → Kept c mark
        → ((x : ℕ) → (vertex_of D v).first ≤ x → x ≤ (vertex_of D v).last → mark_at s.columns x ≢ mark)
        → ((x : ℕ) → x < 1024 → mark_at c x ≡ cond (leb (vertex_of D v).first x && leb x (vertex_of D v).last) mark (mark_at s.columns x))
        → Swept n D mark Q W (record { columns = c; ended = ended' })
    bar_more ended' same_ended c K free marked = record {
      free = record {
        apart = λ u w x p q e a b. ⊎_elim
            (λ eu. ⊎_elim (λ ew. eu ∙ sym ew) (λ pw. absurd (none w x pw (sym e ∙ rw eu refl) b (rw eu at a))) (M.split w q))
            (λ pu. ⊎_elim (λ ew. absurd (none u x pu (e ∙ rw ew refl) a (rw ew at b))) (λ pw. S.free.apart u w x pu pw e a b) (M.split w q))
            (M.split u p);
        uncrossed = S.free.uncrossed;
        ends_apart = S.free.ends_apart;
      };
      bars = topmost_more M S.bars most (spans D v) hit miss;
      ends = rw same_ended S.ends;
      size_ended = rw same_ended S.size_ended;
      kept = K;
    }
      where
        none : (w x : ℕ) → P w → row_of D w ≡ row_of D v → Spans D w x → Spans D v x → ⊥
        none w x p e a b = free x b.from b.to (marked_by w x p e a (omega (arith, b.to)))

        hit : (x : ℕ) → x < 1024 → Spans D v x → mark_at c x ≡ suc (row_of D v)
        hit x b a = marked x b ∙ rw (le-leb _ _ a.from, le-leb _ _ a.to) is_mark

        miss : (x : ℕ) → x < 1024 → ¬ Spans D v x → mark_at c x ≡ mark_at s.columns x
        miss x b m = marked x b ∙ by_cases (dec_le (vertex_of D v).first x)
            (λ l. by_cases (dec_le x (vertex_of D v).last) (λ r. absurd (m (record { from = l; to = r }))) (λ r. rw (le-leb _ _ l, lt-leb x (vertex_of D v).last (omega arith)) refl))
            (λ l. rw (lt-leb (vertex_of D v).first x (omega arith)) refl)

    -- no column of it had the mark, if nothing touches
    pub bar_free : (m : ℕ) → AllFree n m D → ((j : ℕ) → P j → j < n) → v < n
        → (x : ℕ) → (vertex_of D v).first ≤ x → x ≤ (vertex_of D v).last → mark_at s.columns x ≢ mark
    bar_free m F in_n in_v x l r e = ⊎_elim
        (λ z. omega arith)
        (λ (j, p, a, q). M.new (rw (F.apart j v x (in_n j p) in_v (omega arith) a (record { from = l; to = r })) at p))
        (S.bars.attained x (omega arith))

  -- ---- a wire k

  module _ {P W : ℕ → Type 0} {m k limit : ℕ} {s : Sweep} (S : Swept n D limit P W s) (below : (v : ℕ) → v < n → row_of D v < high_of D k → P v)
      (x : ℕ) (is_x : x ≡ column_of D k) (inside : x < 1024) where
    -- the topmost bar on it is its tail, if nothing crosses it
    pub wire_low : AllFree n m D → k < m → ((j : ℕ) → P j → (j < n) × (row_of D j < high_of D k)) → (edge_of D k).low < high_of D k
        → (u : ℕ) → u < n → row_of D u ≡ (edge_of D k).low → Spans D u (column_of D k) → mark_at s.columns x ≡ (edge_of D k).low + 1
    wire_low F in_k in_n up u in_u at_low on = ⊎_elim
        (λ z. absurd (omega (arith, tail)))
        (λ (j, p, a, q). let (in_j, r) = in_n j p in
        by_cases (dec_le (row_of D j) (edge_of D k).low)
        (λ l. omega (arith, q, tail))
        (λ l. absurd (omega (arith, F.uncrossed j k in_j in_k (rw is_x at a) (omega arith)))))
        (S.bars.attained x inside)
      where
        tail : row_of D u < mark_at s.columns x
        tail = S.bars.above u x inside (below u in_u (omega arith)) (rw is_x on)

  module _ {P W V : ℕ → Type 0} {k limit : ℕ} {s : Sweep} (S : Swept n D limit P W s) (M : More W k V) (most : (l : ℕ) → W l → high_of D l ≤ high_of D k)
      (x : ℕ) (is_x : x ≡ column_of D k) (inside : x < 1024) (end : ℕ) (is_end : end ≡ suc (high_of D k)) where
    pub wire_more : ((v : ℕ) → v < n → row_of D v < high_of D k → P v) → mark_at s.columns x ≡ (edge_of D k).low + 1 → get_or s.ended x 0 ≢ end → Swept n D limit P V (record { columns = s.columns; ended = set s.ended x end })
    wire_more below low first = record {
      free = record {
        apart = S.free.apart;
        uncrossed = λ v l h q a o. ⊎_elim (λ e. rw e (uncrossed v h (rw e at a) (rw e at o))) (λ w. S.free.uncrossed v l h w a o) (M.split l q);
        ends_apart = λ i j p q e f. ⊎_elim
            (λ ei. ⊎_elim (λ ej. ei ∙ sym ej) (λ wj. absurd (none j wj (sym e ∙ ap (column_of D) ei) (sym f ∙ ap (high_of D) ei))) (M.split j q))
            (λ wi. ⊎_elim (λ ej. absurd (none i wi (e ∙ ap (column_of D) ej) (f ∙ ap (high_of D) ej))) (λ wj. S.free.ends_apart i j wi wj e f) (M.split j q))
            (M.split i p);
      };
      bars = S.bars;
      ends = topmost_more M S.ends most (λ y. ℕ_discrete (column_of D k) y) hit miss;
      size_ended = length-set s.ended x end ∙ S.size_ended;
      kept = S.kept;
    }
      where
        uncrossed : (v : ℕ) → v < n → Spans D v (column_of D k) → (edge_of D k).low < row_of D v → high_of D k ≤ row_of D v
        uncrossed v h a o = by_cases (dec_lt (row_of D v) (high_of D k))
            (λ l. absurd (omega (arith, low, S.bars.above v x inside (below v h l) (rw is_x a))))
            (λ l. omega arith)

        none : (l : ℕ) → W l → column_of D l ≡ column_of D k → high_of D l ≡ high_of D k → ⊥
        none l w e f = first (omega (arith, f, S.ends.above l x inside w (e ∙ sym is_x), mark_most S.ends most x inside))

        hit : (y : ℕ) → y < 1024 → Stands D k y → get_or (set s.ended x end) y 0 ≡ suc (high_of D k)
        hit y b e = rw (← e, ← is_x) (get_or-set_same s.ended x end 0 (omega (arith, S.size_ended)) ∙ is_end)

        miss : (y : ℕ) → y < 1024 → ¬ Stands D k y → get_or (set s.ended x end) y 0 ≡ get_or s.ended y 0
        miss y b m = get_or-set_other s.ended x y end 0 (λ e. m (sym is_x ∙ sym e))

    -- no wire ended there, if nothing touches
    pub wire_first : {m : ℕ} → AllFree n m D → k < m → ((l : ℕ) → W l → l < m) → get_or s.ended x 0 ≢ end
    wire_first F in_k in_m = ⊎_elim
        (λ z. omega arith)
        (λ (l, w, a, q). λ e. M.new (rw (F.ends_apart l k (in_m l w) in_k (a ∙ is_x) (omega (arith, q, e))) at w))
        (S.ends.attained x inside)

-- ---- all rows

module _ (n m : ℕ) (D : Drawing) where
  -- before the first row
  pub unswept : (c : Columns) → Kept c 0 → ((x : ℕ) → mark_at c x ≡ 0)
      → Swept n D 0 (Before n (row_of D) 0 0) (Before m (high_of D) 0 0) (record { columns = c; ended = replicate 1024 0 })
  unswept c K zero = record {
    free = record {
      apart = λ v w x p. absurd (none p);
      uncrossed = λ v k h p. absurd (none p);
      ends_apart = λ k l p. absurd (none p);
    };
    bars = record { attained = λ x b. inl (zero x); above = λ v x b p. absurd (none p) };
    ends = record { attained = λ x b. inl (replicate_at 0 1024 x); above = λ k x b p. absurd (none p) };
    size_ended = refl;
    kept = K;
  }
    where
      none : {items : ℕ} {key : ℕ → ℕ} {j : ℕ} → Before items key 0 0 j → ⊥
      none b = omega (arith, key_before b)

  -- after the last one
  pub swept_all : {limit : ℕ} {s : Sweep} → WellFormed n m D → Swept n D limit (Before n (row_of D) D.rows 0) (Before m (high_of D) D.rows 0) s → AllFree n m D
  swept_all F S = record {
    apart = λ v w x h g. S.free.apart v w x (before h (F.vertices v h).row) (before g (F.vertices w g).row);
    uncrossed = λ v k h g. S.free.uncrossed v k h (before g (F.edges k g).high);
    ends_apart = λ k l h g. S.free.ends_apart k l (before h (F.edges k h).high) (before g (F.edges l g).high);
  }
