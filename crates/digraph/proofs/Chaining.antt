-- The lists of edges by one of their ends, built from the last edge down. Assumes nothing.
use Rattle.std.proofs.Common.{◌≡◌, refl, sym, ap, ◌∙◌, ◌≢◌, ◌⊎◌, inl, inr, ⊎_elim, List, ℕ, suc, ◌≤◌, ◌<◌, arith, get_or, set, length-set, replicate, get_or-set_same, get_or-set_other}
use Rattle.std.proofs.Math.Logic.{by_cases}
use Rattle.std.proofs.Math.Decide.{ℕ_discrete}
use Rattle.std.proofs.Math.ListN.{get_or-replicate}
use Rattle.digraph.specs.Inner.{Listed, Chained}
use Rattle.digraph.specs.Inner.Listed.{at_head, later}

module _ {edges : ℕ} {after : List ℕ} where
  pub listed_in : {j k : ℕ} → Listed edges after j k → j < edges
  listed_in (at_head h) = h
  listed_in (later h e l) = listed_in l

  pub list_in : {j k : ℕ} → Listed edges after j k → k < edges
  list_in (at_head h) = h
  list_in (later h e l) = h

  -- an edge of a list is its first one, or on the rest
  pub split : {j k i : ℕ} → Listed edges after j k → get_or after k 0 ≡ i → (j ≡ k) ⊎ Listed edges after j i
  split (at_head h) q = inl refl
  split (later h e l) q = inr (rw (sym q ∙ e) l)

-- before the first edge
pub unchained : (edges : ℕ) (ends : List ℕ) → edges ≤ 256 → Chained edges edges ends (replicate 256 256) (replicate 256 256)
unchained edges ends few = record {
  size_first = refl;
  size_after = refl;
  listed = λ j l b. absurd (omega arith);
  at_end = λ v j b l. absurd (omega (arith, list_in l, get_or-replicate {A = ℕ} 256 v 256 0 b));
  rising = λ k l b. absurd (omega arith);
  high = λ v b. omega (arith, get_or-replicate {A = ℕ} 256 v 256 0 b);
}

-- lists above k are the same where the tables agree above k
module _ {edges k : ℕ} {x y : List ℕ} (agree : (i : ℕ) → k < i → get_or x i 0 ≡ get_or y i 0) (rising : (i : ℕ) → k < i → i < edges → i < get_or x i 0) where
  same_list : {j i : ℕ} → k < i → Listed edges x j i → Listed edges y j i
  same_list b (at_head h) = at_head h
  same_list b (later {k = m} h e l) = later h (sym (agree m b) ∙ e) (same_list (omega (arith, rising m b h)) l)

-- one edge more, k, at v
module _ {edges k : ℕ} {ends first after : List ℕ} (C : Chained (suc k) edges ends first after) (in_k : k < edges) (few : edges ≤ 256)
    (v : ℕ) (ev : v ≡ get_or ends k 0) (in_v : v < 256) where
  abbrev first' : List ℕ
  first' = set first v k

  abbrev after' : List ℕ
  after' = set after k (get_or first v 0)

  at_first : get_or first' v 0 ≡ k
  at_first = get_or-set_same first v k 0 (omega (arith, C.size_first))

  off_first : (w : ℕ) → w ≢ v → get_or first' w 0 ≡ get_or first w 0
  off_first w n = get_or-set_other first v w k 0 n

  at_after : get_or after' k 0 ≡ get_or first v 0
  at_after = get_or-set_same after k (get_or first v 0) 0 (omega (arith, C.size_after))

  off_after : (i : ℕ) → k < i → get_or after' i 0 ≡ get_or after i 0
  off_after i h = get_or-set_other after k i (get_or first v 0) 0 (omega arith)

  old_new : {j i : ℕ} → k < i → Listed edges after j i → Listed edges after' j i
  old_new = same_list (λ i h. sym (off_after i h)) (λ i h b. C.rising i h b)

  new_old : {j i : ℕ} → k < i → Listed edges after' j i → Listed edges after j i
  new_old = same_list off_after (λ i h b. omega (arith, off_after i h, C.rising i h b))

  -- the list of v begins at k
  on_v : {j : ℕ} → Listed edges after' j k → (w : ℕ) → w ≡ v → Listed edges after' j (get_or first' w 0)
  on_v l w e = rw (e, at_first) l

  pub chained_more : ((j : ℕ) → j < edges → get_or ends j 0 < 256) → Chained k edges ends first' after'
  chained_more inside = record {
    size_first = length-set first v k ∙ C.size_first;
    size_after = length-set after k (get_or first v 0) ∙ C.size_after;
    listed = λ j l b. by_cases (ℕ_discrete j k) (λ e. rw e (on_v (at_head in_k) (get_or ends k 0) (sym ev))) (λ n. old j (omega arith) b);
    at_end = λ w j b l. by_cases (ℕ_discrete w v) (λ e. from_v w j e (rw e at l)) (λ n. C.at_end w j b (new_old (C.high w b) (rw (off_first w n) at l)));
    rising = λ i l b. by_cases (ℕ_discrete i k) (λ e. rw (e, at_after) (C.high v in_v)) (λ n. omega (arith, off_after i (omega arith), C.rising i (omega arith) b));
    high = λ w b. by_cases (ℕ_discrete w v) (λ e. rw (e, at_first) (omega arith)) (λ n. omega (arith, off_first w n, C.high w b));
  }
    where
      old : (j : ℕ) → k < j → j < edges → Listed edges after' j (get_or first' (get_or ends j 0) 0)
      old j h b =
          let l = old_new (C.high (get_or ends j 0) (inside j b)) (C.listed j h b) in
          by_cases (ℕ_discrete (get_or ends j 0) v)
          (λ e. on_v (later in_k at_after (rw e at l)) (get_or ends j 0) e)
          (λ n. rw (off_first (get_or ends j 0) n) l)

      from_v : (w j : ℕ) → w ≡ v → Listed edges after' j (get_or first' v 0) → get_or ends j 0 ≡ w
      from_v w j e l =
          ⊎_elim (λ q. ap (λ x. get_or ends x 0) q ∙ sym ev ∙ sym e) (λ m. C.at_end v j in_v (new_old (C.high v in_v) m) ∙ sym e)
          (split (rw at_first at l) at_after)

-- of a digraph with its lists: the edges on the list of v are those out of v, and the list runs upwards
module _ {edges : ℕ} {ends first after : List ℕ} (C : Chained 0 edges ends first after) where
  list_low : {j k : ℕ} → Listed edges after j k → k ≤ j
  list_low (at_head h) = omega arith
  list_low (later {k} h e l) = omega (arith, list_low l, C.rising k (omega arith) h)

  pub later_on : {j k i : ℕ} → k < edges → i ≡ get_or after k 0 → Listed edges after j i → Listed edges after j k × (j ≢ k)
  later_on {k} h e l = (later h (sym e) l, λ q. omega (arith, list_low l, C.rising k (omega arith) h))
