-- The lists of items by their keys, built from the last item down. Assumes nothing.
use Rattle.std.proofs.Common.{◌≡◌, refl, sym, ◌∙◌, ◌≢◌, List, ℕ, suc, ◌≤◌, ◌<◌, arith, get_or, set, length-set, replicate, get_or-set_same, get_or-set_other}
use Rattle.std.proofs.Math.Logic.{by_cases}
use Rattle.std.proofs.Math.Decide.{ℕ_discrete}
use Rattle.std.proofs.Math.ListN.{get_or-replicate}
use Rattle.contact.specs.Lists.{Linked}

-- before the first item
pub unlinked : (items : ℕ) (key : ℕ → ℕ) → items ≤ 256 → Linked items items key (replicate 1024 256) (replicate 256 256)
unlinked items key few = record {
  size_first = refl;
  size_after = refl;
  first_from = λ r b. omega (arith, get_or-replicate {A = ℕ} 1024 r 256 0 b);
  first_least = λ j l b. absurd (omega arith);
  first_key = λ r b h. absurd (omega (arith, get_or-replicate {A = ℕ} 1024 r 256 0 b));
  rising = λ k l b. absurd (omega arith);
  next_least = λ k j l h b e. absurd (omega arith);
  next_key = λ k l b h. absurd (omega arith);
}

-- one item more, k, of the key r
module _ {k items : ℕ} {key : ℕ → ℕ} {first after : List ℕ} (L : Linked (suc k) items key first after) (in_k : k < items) (few : items ≤ 256)
    (r : ℕ) (er : r ≡ key k) (in_r : r < 1024) where
  abbrev first' : List ℕ
  first' = set first r k

  abbrev after' : List ℕ
  after' = set after k (get_or first r 0)

  at_first : get_or first' r 0 ≡ k
  at_first = get_or-set_same first r k 0 (omega (arith, L.size_first))

  off_first : (q : ℕ) → q ≢ r → get_or first' q 0 ≡ get_or first q 0
  off_first q n = get_or-set_other first r q k 0 n

  at_after : get_or after' k 0 ≡ get_or first r 0
  at_after = get_or-set_same after k (get_or first r 0) 0 (omega (arith, L.size_after))

  off_after : (i : ℕ) → k < i → get_or after' i 0 ≡ get_or after i 0
  off_after i h = get_or-set_other after k i (get_or first r 0) 0 (omega arith)

  -- the first item of the key r so far
  least_of : (j : ℕ) → k < j → j < items → key j ≡ r → get_or first r 0 ≤ j
  least_of j h b e = rw e at (L.first_least j h b)

  pub linked_more : Linked k items key first' after'
  linked_more = record {
    size_first = length-set first r k ∙ L.size_first;
    size_after = length-set after k (get_or first r 0) ∙ L.size_after;
    first_from = λ q b. by_cases (ℕ_discrete q r) (λ e. rw (e, at_first) (omega arith)) (λ n. omega (arith, off_first q n, L.first_from q b));
    first_least = λ j l b. by_cases (ℕ_discrete (key j) r) (λ e. rw (e, at_first) l) (λ n. omega (arith, off_first (key j) n, other j n, L.first_least j (omega (arith, other j n)) b));
    first_key = λ q b h. by_cases (ℕ_discrete q r)
        (λ e. rw (e, at_first) (sym er))
        (λ n. rw (off_first q n) (L.first_key q b (omega (arith, off_first q n))));
    rising = λ i l b. by_cases (ℕ_discrete i k) (λ e. rw (e, at_after) (omega (arith, L.first_from r in_r))) (λ n. omega (arith, off_after i (omega arith), L.rising i (omega arith) b));
    next_least = λ i j l h b e. by_cases (ℕ_discrete i k)
        (λ q. rw (q, at_after) (least_of j (omega arith) b (rw q at e ∙ sym er)))
        (λ n. omega (arith, off_after i (omega arith), L.next_least i j (omega arith) h b e));
    next_key = λ i l b h. by_cases (ℕ_discrete i k)
        (λ q. rw (q, at_after) (L.first_key r in_r (omega (arith, at_after, rw q at h)) ∙ er))
        (λ n. rw (off_after i (omega arith)) (L.next_key i (omega arith) b (omega (arith, off_after i (omega arith)))));
  }
    where
      -- an item of another key is not k
      other : (j : ℕ) → key j ≢ r → j ≢ k
      other j n e = n (rw e (sym er))
