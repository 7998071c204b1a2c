-- Laws of `count`, and the pigeonhole principle for a function onto. Assumes nothing.
use Rattle.std.proofs.Common.{◌≡◌, refl, sym, ap, ◌∙◌, ◌≢◌, Bool, true, false, not, ◌&&◌, ◌||◌, true≢false, ℕ, zero, suc, ◌+◌, ◌*◌, ◌≤◌, ◌<◌, zero-le, le_of_eq, arith, eqb, ltb, eq-eqb, ne_eqb, lt-ltb, le-ltb, List, get_or, set, length, zero-add, add-one}
use Rattle.std.proofs.Math.Logic.{by_cases}
use Rattle.std.proofs.Math.Bool.{or-true, or-false}
use Rattle.std.proofs.lemmas.Bool.{false≢true}
use Rattle.std.proofs.Math.Decide.{ℕ_discrete, dec_lt}
use Rattle.counting.specs.Below.{some_below}
use Rattle.counting.specs.Counts.{bit, count}
use Rattle.counting.proofs.Pigeonhole.{Found, find, pigeonhole}
use Rattle.counting.proofs.Pigeonhole.Found.{at, nowhere}
use Rattle.counting.proofs.Stores.{Stored, stored}
use Rattle.counting.proofs.Stores.Stored.{here, apart}

-- ---- the test p, failed at d

unfoldable pub without : (ℕ → Bool) → ℕ → ℕ → Bool
without p d e = not (eqb e d) && p e

pub without_same : (p : ℕ → Bool) (d : ℕ) → without p d d ≡ false
unfolding without
without_same p d = rw (eq-eqb d d refl) refl

pub without_other : (p : ℕ → Bool) {d e : ℕ} → e ≢ d → without p d e ≡ p e
unfolding without
without_other p {d} {e} h = rw (ne_eqb e d h)

-- what passes `without p d` is not d, and passes p
pub without_not : (p : ℕ → Bool) (d e : ℕ) → without p d e ≡ true → e ≢ d
without_not p d e h q = false≢true (sym (without_same p d) ∙ ap (without p d) (sym q) ∙ h)

pub without_passes : (p : ℕ → Bool) (d e : ℕ) → without p d e ≡ true → p e ≡ true
without_passes p d e h = sym (without_other p (without_not p d e h)) ∙ h

-- ---- laws of `count`

pub bit_most : (b : Bool) → bit b ≤ 1
bit_most true = omega arith
bit_most false = omega arith

-- tests that agree below n have one count
pub count_agree : (p q : ℕ → Bool) (n : ℕ) → ((d : ℕ) → d < n → p d ≡ q d) → count p n ≡ count q n
unfolding count
count_agree p q zero h = refl
count_agree p q (suc n) h =
    let ih = count_agree p q n (λ d k. h d (omega arith)) in
    rw (h n (omega arith), ih)

-- a number that passes, taken out
pub count_without : (p : ℕ → Bool) (n d : ℕ) → d < n → p d ≡ true → count p n ≡ suc (count (without p d) n)
unfolding count
count_without p zero d h k = absurd (omega arith)
count_without p (suc n) d h k = go (ℕ_discrete d n) (λ l. count_without p n d l k)
  where
    go : Dec (d ≡ n) → (d < n → count p n ≡ suc (count (without p d) n)) → bit (p n) + count p n ≡ suc (bit (without p d n) + count (without p d) n)
    go (yes e) ih =
        let here : bit (p n) ≡ 1 = ap bit (ap p (sym e) ∙ k) in
        let gone : bit (without p d n) ≡ 0 = ap bit (ap (without p d) (sym e) ∙ without_same p d) in
        let rest = count_agree (without p d) p n (λ x l. without_other p (omega arith)) in
        omega arith
    go (no e) ih =
        let same : bit (without p d n) ≡ bit (p n) = ap bit (without_other p (λ q. e (sym q))) in
        let rest = ih (omega arith) in
        omega arith

-- the test that every number passes: all numbers below n are n
abbrev pub all : ℕ → Bool
all d = true

pub count_all : (n : ℕ) → count all n ≡ n
unfolding count
count_all zero = refl
count_all (suc n) = let ih = count_all n in omega arith

-- a test that is passed where one of two is, and no number passes both
pub count_two : (p q r : ℕ → Bool) → ((d : ℕ) → bit (p d) + bit (q d) ≡ bit (r d)) → (n : ℕ) → count p n + count q n ≡ count r n
unfolding count
count_two p q r h zero = refl
count_two p q r h (suc n) = omega (arith, count_two p q r h n, h n)

-- the numbers with a value below k, and those with the value k
pub count_below : (f : ℕ → ℕ) (k n : ℕ) → count (λ d. ltb (f d) k) n + count (λ d. eqb (f d) k) n ≡ count (λ d. ltb (f d) (suc k)) n
count_below f k = count_two (λ d. ltb (f d) k) (λ d. eqb (f d) k) (λ d. ltb (f d) (suc k)) (λ d. one_more (f d))
  where
    one_more : (x : ℕ) → bit (ltb x k) + bit (eqb x k) ≡ bit (ltb x (suc k))
    one_more x =
        by_cases (dec_lt x k) (λ h. rw (lt-ltb x k h, ne_eqb x k (omega arith), lt-ltb x (suc k) (omega arith)) refl)
        (λ h. by_cases (ℕ_discrete x k) (λ e. rw (le-ltb x k (omega arith), eq-eqb x k e, lt-ltb x (suc k) (omega arith)) refl)
        (λ e. rw (le-ltb x k (omega arith), ne_eqb x k e, le-ltb x (suc k) (omega arith)) refl))

-- four tests of which each number passes one: their counts add up to n
pub count_four : (p q r s : ℕ → Bool) → ((d : ℕ) → bit (p d) + bit (q d) + bit (r d) + bit (s d) ≡ 1)
    → (n : ℕ) → count p n + count q n + count r n + count s n ≡ n
unfolding count
count_four p q r s h zero = refl
count_four p q r s h (suc n) = omega (arith, count_four p q r s h n, h n)

-- all but two of them are two fewer
unfoldable pub all_but : ℕ → ℕ → ℕ → Bool
all_but a b = without (without all a) b

pub count_all_but : (n a b : ℕ) → a < n → b < n → b ≢ a → count (all_but a b) n + 2 ≡ n
unfolding all_but
count_all_but n a b h k ne =
    let one_out = count_without all n a h refl in
    let two_out = count_without (without all a) n b k (without_other all ne) in
    let whole = count_all n in
    omega arith

pub all_but_fails : (a b v : ℕ) → all_but a b v ≡ true → (v ≢ a) × (v ≢ b)
unfolding all_but
all_but_fails a b v h = (without_not all a v (without_passes (without all a) b v h), without_not (without all a) b v h)

module _ (p : ℕ → Bool) where
  count_mono : (m n : ℕ) → m ≤ n → count p m ≤ count p n
  unfolding count
  count_mono m zero h = let e : m ≡ 0 = omega arith in le_of_eq (ap (count p) e)
  count_mono m (suc n) h = by_cases (ℕ_discrete m (suc n)) (λ e. le_of_eq (ap (count p) e)) (λ e. omega (arith, count_mono m n (omega arith)))

  -- a number that passes raises the count
  pub count_lt : (m n : ℕ) → m < n → p m ≡ true → count p m < count p n
  unfolding count
  count_lt m n h t = omega (arith, count_mono (suc m) n h, ap bit t)

  -- so the count at a number that passes tells it from the others
  pub count_one_one : (m n : ℕ) → p m ≡ true → p n ≡ true → count p m ≡ count p n → m ≡ n
  count_one_one m n t u e =
      by_cases (dec_lt m n) (λ l. absurd (omega (arith, count_lt m n l t))) (λ l.
      by_cases (dec_lt n m) (λ k. absurd (omega (arith, count_lt n m k u))) (λ k. omega arith))

  -- and each c below the whole count is the count at one
  pub count_onto : (c n : ℕ) → c < count p n → (m : ℕ) × (m < n) × (p m ≡ true) × (count p m ≡ c)
  unfolding count
  count_onto c zero h = absurd (omega arith)
  count_onto c (suc n) h = go (p n) refl h (count_onto c n)
    where
      go : (x : Bool) → p n ≡ x → c < bit x + count p n → (c < count p n → (m : ℕ) × (m < n) × (p m ≡ true) × (count p m ≡ c))
          → (m : ℕ) × (m < suc n) × (p m ≡ true) × (count p m ≡ c)
      go true e l rest = by_cases (ℕ_discrete c (count p n)) (λ q. (n, omega arith, e, sym q))
          (λ q. let t = rest (omega arith) in (t.0, omega (arith, t.1), t.2, t.3))
      go false e l rest = let t = rest (omega arith) in (t.0, omega (arith, t.1), t.2, t.3)

-- ---- the pigeonhole principle

-- n different numbers below N that pass p
module _ (p : ℕ → Bool) (N n : ℕ) (f : ℕ → ℕ) (inside : (i : ℕ) → i < n → (f i < N) × (p (f i) ≡ true)) (one_one : (i j : ℕ) → i < n → j < n → f i ≡ f j → i ≡ j) where
  -- n is at most their count
  pub count_room : n ≤ count p N
  count_room =
      pigeonhole n (count p N) (λ i k. count p (f i) ≡ k) (λ i l. (count p (f i), count_lt p (f i) N (inside i l).0 (inside i l).1, refl))
      (λ i j k l m a b. one_one i j l m (count_one_one p (f i) (f j) (inside i l).1 (inside j m).1 (a ∙ sym b)))

-- and where it is their count, each number that passes is among them
pub room_onto : (p : ℕ → Bool) (N n : ℕ) (f : ℕ → ℕ) → ((i : ℕ) → i < n → (f i < N) × (p (f i) ≡ true)) → ((i j : ℕ) → i < n → j < n → f i ≡ f j → i ≡ j)
    → count p N ≤ n → (d : ℕ) → d < N → p d ≡ true → (i : ℕ) × (i < n) × (f i ≡ d)
room_onto p N n f inside one_one full d l t = go (find (λ i. f i ≡ d) (λ i. ℕ_discrete (f i) d) n)
  where
    go : Found (λ i. f i ≡ d) n → (i : ℕ) × (i < n) × (f i ≡ d)
    go (at i b q m) = (i, b, q)
    go (nowhere g) = absurd (omega (
      arith,
      count_room (without p d) N n f (λ i b. ((inside i b).0, without_other p (g i b) ∙ (inside i b).1)) one_one,
      count_without p N d l t,
    ))

-- each v < n that passes q is g d for some d < N that passes p
abbrev pub Onto : (ℕ → ℕ) → (ℕ → Bool) → ℕ → (ℕ → Bool) → ℕ → Type 0
Onto g p N q n = (v : ℕ) → v < n → q v ≡ true → (d : ℕ) × (d < N) × (p d ≡ true) × (g d ≡ v)

-- onto what passes q below n + 1, n among it: without a d that goes to n, still onto what passes q below n
onto_rest : (g : ℕ → ℕ) (p : ℕ → Bool) (N : ℕ) (q : ℕ → Bool) (n d : ℕ) → Onto g p N q (suc n) → g d ≡ n → Onto g (without p d) N q n
onto_rest g p N q n d s e v l t =
    let (x, below, passes, goes) = s v (omega arith) t in
    let other : x ≢ d = λ same. (let v_is_n : v ≡ n = cc in omega arith) in
    (x, below, without_other p other ∙ passes, goes)

-- then those of q are at most those of p
pub onto_count : (g : ℕ → ℕ) (p : ℕ → Bool) (N : ℕ) (q : ℕ → Bool) (n : ℕ) → Onto g p N q n → count q n ≤ count p N
unfolding count
onto_count g p N q zero s = zero-le
onto_count g p N q (suc n) s = go (q n) refl (onto_count g p N q n) (λ d. onto_count g (without p d) N q n)
  where
    go : (b : Bool) → q n ≡ b → (Onto g p N q n → count q n ≤ count p N)
        → ((d : ℕ) → Onto g (without p d) N q n → count q n ≤ count (without p d) N) → bit b + count q n ≤ count p N
    go false e ih ihd = omega (arith, ih (λ v l t. s v (omega arith) t))
    go true e ih ihd =
        let (d, below, passes, goes) = s n (omega arith) e in
        omega (arith, ihd d (onto_rest g p N q n d s goes), count_without p N d below passes)

-- and where they are as many, no two of p go to the same number
pub onto_injective : (g : ℕ → ℕ) (p : ℕ → Bool) (N : ℕ) (q : ℕ → Bool) (n : ℕ) → Onto g p N q n → count p N ≤ count q n
    → (d e : ℕ) → d < N → p d ≡ true → e < N → p e ≡ true → g d ≡ g e → d ≡ e
onto_injective g p N q n s few d e d_n pd e_n pe same = go (ℕ_discrete d e)
  where
    spared : d ≢ e → Onto g (without p d) N q n
    spared ne v l t =
        let (x, below, passes, goes) = s v l t in
        pick x below passes goes (ℕ_discrete x d)
      where
        pick : (x : ℕ) → x < N → p x ≡ true → g x ≡ v → Dec (x ≡ d) → (y : ℕ) × (y < N) × (without p d y ≡ true) × (g y ≡ v)
        pick x below passes goes (yes is_d) = (e, e_n, without_other p (λ h. ne (sym h)) ∙ pe, cc)
        pick x below passes goes (no not_d) = (x, below, without_other p not_d ∙ passes, goes)

    go : Dec (d ≡ e) → d ≡ e
    go (yes h) = h
    go (no ne) = absurd (omega (arith, onto_count g (without p d) N q n (spared ne), count_without p N d d_n pd))

-- ---- a count against n

module _ (p : ℕ → Bool) (n : ℕ) where
  pub count_le : count p n ≤ n
  count_le = omega (arith, onto_count (λ v. v) all n p n (λ v h t. (v, h, refl, refl)), count_all n)

  -- a number that fails is not counted
  pub count_less : (d : ℕ) → d < n → p d ≡ false → count p n < n
  count_less d h f = omega (arith, onto_count (λ v. v) (without all d) n p n there, count_without all n d h refl, count_all n)
    where
      there : Onto (λ v. v) (without all d) n p n
      there v l t = (v, l, without_other all (λ e. true≢false (sym t ∙ ap p e ∙ f)), refl)

  -- all numbers that pass are n only where none fails
  pub count_full : n ≤ count p n → (d : ℕ) → d < n → p d ≡ true
  count_full h d l = go (p d) refl
    where
      go : (b : Bool) → p d ≡ b → b ≡ true
      go true e = refl
      go false e = absurd (omega (arith, count_less d l e))

  -- a number that failed already, taken out
  pub count_absent : (d : ℕ) → p d ≡ false → count (without p d) n ≡ count p n
  count_absent d f = count_agree (without p d) p n (λ e _. by_cases (ℕ_discrete e d) (λ q. rw q (without_same p d ∙ sym f)) (λ q. without_other p q))

-- where not all numbers pass, one fails
pub count_gap : (p : ℕ → Bool) (n : ℕ) → count p n < n → (d : ℕ) × (d < n) × (p d ≡ false)
unfolding count
count_gap p zero h = absurd (omega arith)
count_gap p (suc n) h = go (p n) refl h (count_gap p n)
  where
    go : (b : Bool) → p n ≡ b → bit b + count p n < suc n → (count p n < n → (d : ℕ) × (d < n) × (p d ≡ false)) → (d : ℕ) × (d < suc n) × (p d ≡ false)
    go true e l ih = let (d, b, f) = ih (omega arith) in (d, omega arith, f)
    go false e l ih = (n, omega arith, e)

-- a table of how often each number stands among the first k of a list: one more of them is counted
pub tally_more : (k : ℕ) (entries table : List ℕ) (v : ℕ) → v ≡ get_or entries k 0 → v < length table → (x : ℕ) → get_or table x 0 ≡ count (λ d. eqb (get_or entries d 0) x) k
    → get_or (set table v (get_or table v 0 + 1)) x 0 ≡ count (λ d. eqb (get_or entries d 0) x) (k + 1)
unfolding count
tally_more k entries table v e h x old = rw (add-one k) (go (stored table v (get_or table v 0 + 1) x 0 h))
  where
    go : Stored table v (get_or table v 0 + 1) x 0 → get_or (set table v (get_or table v 0 + 1)) x 0 ≡ bit (eqb (get_or entries k 0) x) + count (λ d. eqb (get_or entries d 0) x) k
    go (here p q) = omega (arith, q, ap bit (eq-eqb (get_or entries k 0) x (sym e ∙ sym p)), old, ap (λ y. get_or table y 0) p)
    go (apart n q) = omega (arith, q, ap bit (ne_eqb (get_or entries k 0) x (λ p. n (sym p ∙ sym e))), old)

-- some number passes where their count is not 0
pub some_counted : (p : ℕ → Bool) (n : ℕ) → some_below p n ≡ not (eqb (count p n) 0)
unfolding some_below count
some_counted p zero = refl
some_counted p (suc n) = go (p n) (some_counted p n)
  where
    go : (b : Bool) → some_below p n ≡ not (eqb (count p n) 0) → (some_below p n || b) ≡ not (eqb (bit b + count p n) 0)
    go true ih = rw (or-true (some_below p n), ne_eqb (1 + count p n) 0 (omega arith)) refl
    go false ih = rw (or-false, zero-add) ih

-- the numbers that pass below 2n are the even ones and the odd ones
pub count_twice : (p : ℕ → Bool) (n : ℕ) → count p (2 * n) ≡ count (λ k. p (2 * k)) n + count (λ k. p (2 * k + 1)) n
unfolding count
count_twice p zero = refl
count_twice p (suc n) =
    let z : 2 * suc n ≡ suc (suc (2 * n)) = omega arith in
    let o : suc (2 * n) ≡ 2 * n + 1 = omega arith in
    omega (arith, ap (count p) z, ap (λ x. bit (p x)) o, count_twice p n)
