-- Arrays that are filled entry by entry. Assumes nothing.
use Rattle.std.proofs.Common.{ℕ, zero, suc, ◌+◌, ◌-◌, ◌≤◌, ◌<◌, ◌≡◌, refl, sym, ap, ap₂, ◌∙◌, ◌≢◌, List, ◌++◌, add-one, arith, get_or, set, take, drop, length, length-append, length-set, replicate, ext_get_or}
use Rattle.std.proofs.Math.Seq.{set_at, append_snoc, set-append_left}
use Rattle.std.proofs.lemmas.List.{append-nil, take-replicate, drop-replicate, length-replicate, get_or-append_right}
use Rattle.counting.specs.Below.{tabulate, table}
use Rattle.counting.proofs.Below.{length_tabulate, get_d_tabulate, get_d_tabulated}
use Rattle.counting.proofs.Stores.{replicate_at, Stored, stored}
use Rattle.counting.proofs.Stores.Stored.{here, apart}

tabulate_agree : {A : Type 0} (f g : ℕ → A) (n : ℕ) → ((k : ℕ) → k < n → f k ≡ g k) → tabulate f n ≡ tabulate g n
unfolding tabulate
tabulate_agree f g zero h = refl
tabulate_agree f g (suc n) h = rw (tabulate_agree f g n (λ k l. h k (omega arith)), h n (omega arith)) refl

module _ {A : Type 0} (f : ℕ → A) (size : ℕ) (z : A) where
  pub table_more : (k : ℕ) → k < size → (l : List A) → l ≡ table f k size z → (x : A) → x ≡ f k → set l k x ≡ table f (k + 1) size z
  unfolding table tabulate
  table_more k h l e x q =
      let d : size - k ≡ suc (size - (k + 1)) = omega arith in
      rw (e, q, d) (set_at (tabulate f k) z (replicate (size - (k + 1)) z) (f k) k (length_tabulate f k) ∙ sym (append_snoc (tabulate f k) (f k) (replicate (size - (k + 1)) z))
      ∙ rw (add-one k) refl)

  -- none is filled
  pub table_none : replicate size z ≡ table f 0 size z
  unfolding table tabulate
  table_none = let e : size - 0 ≡ size = omega arith in rw e refl

  -- the first m entries of an array, filled
  pub table_front : (m : ℕ) → m ≤ size → take m (replicate size z) ≡ table f 0 m z
  unfolding table tabulate
  table_front m h = let e : m - 0 ≡ m = omega arith in rw e (take-replicate m size z h)

  pub table_whole : (m k : ℕ) → k ≤ m → m ≤ k → (l : List A) → l ≡ table f k m z → l ++ drop m (replicate size z) ≡ table f m size z
  unfolding table
  table_whole m k a b l e =
      let q : k ≡ m = omega arith in
      let none : m - m ≡ 0 = omega arith in
      let full : table f m m z ≡ tabulate f m = ap (λ n. tabulate f m ++ replicate n z) none ∙ append-nil (tabulate f m) in
      ap₂ (λ (x y : List A). x ++ y) (rw q at e ∙ full) (drop-replicate m size z)

  pub table_at : (d : A) (n k : ℕ) → k < n → get_or (table f n size z) k d ≡ f k
  unfolding table
  table_at d n k h = get_d_tabulated f (replicate (size - n) z) d n k h

  -- past the filled ones there is z
  pub table_past : (n k : ℕ) → n ≤ k → get_or (table f n size z) k z ≡ z
  unfolding table
  table_past n k h = get_or-append_right (tabulate f n) (replicate (size - n) z) n k z (length_tabulate f n) h ∙ replicate_at z (size - n) (k - n)

  pub table_sized : (n : ℕ) → n ≤ size → length (table f n size z) ≡ size
  unfolding table
  table_sized n h = omega (arith, length-append (tabulate f n) (replicate (size - n) z), length_tabulate f n, length-replicate (size - n) z)

  pub table_agree : (g : ℕ → A) (n : ℕ) → ((k : ℕ) → k < n → f k ≡ g k) → table f n size z ≡ table g n size z
  unfolding table
  table_agree g n h = ap (λ l. l ++ replicate (size - n) z) (tabulate_agree f g n h)

  -- a store at one of the first n entries
  pub table_put : (g : ℕ → A) (n i : ℕ) (x : A) → i < n → x ≡ g i → ((j : ℕ) → j < n → j ≢ i → f j ≡ g j) → set (table f n size z) i x ≡ table g n size z
  unfolding table
  table_put g n i x h q same =
      set-append_left (tabulate f n) (replicate (size - n) z) i x (omega (arith, length_tabulate f n))
      ∙ ap (λ l. l ++ replicate (size - n) z) (ext_get_or z (set (tabulate f n) i x) (tabulate g n) (omega (arith, lengths, length_tabulate g n)) each)
    where
      lengths : length (set (tabulate f n) i x) ≡ n
      lengths = length-set (tabulate f n) i x ∙ length_tabulate f n

      each : (j : ℕ) → j < length (set (tabulate f n) i x) → get_or (set (tabulate f n) i x) j z ≡ get_or (tabulate g n) j z
      each j l =
          let m : j < n = omega (arith, lengths) in
          go (stored (tabulate f n) i x j z (omega (arith, length_tabulate f n))) m ∙ sym (get_d_tabulate g z n j m)
        where
          go : Stored (tabulate f n) i x j z → j < n → get_or (set (tabulate f n) i x) j z ≡ g j
          go (here e s) m = s ∙ q ∙ ap g (sym e)
          go (apart e s) m = s ∙ get_d_tabulate f z n j m ∙ same j m e
