-- The walk round one orbit, and the orbits so far. Assumes nothing.
use Rattle.std.proofs.Common.{ℕ, suc, ◌+◌, ◌≤◌, ◌<◌, ◌≡◌, refl, sym, ap, ◌∙◌, ◌⊎◌, inl, inr, ⊎_elim, List, arith, below_more, get_or, set, length, length-set}
use Rattle.std.proofs.Math.Logic.{by_cases}
use Rattle.std.proofs.Math.Decide.{ℕ_discrete}
use Rattle.counting.specs.Orbits.{Perm, iter, Reach}
use Rattle.counting.proofs.Iterate.{around}
use Rattle.counting.proofs.Reach.{iter_below, reach_below, reach_refl, reach_trans, reach_sym}
use Rattle.counting.proofs.Orbits.{kept_reach}
use Rattle.orbits.specs.Meaning.{entries, Lead}
use Rattle.counting.proofs.Stores.{Stored, stored}
use Rattle.counting.proofs.Stores.Stored.{here, apart}

-- the orbits of all elements below e have their numbers, which are below f; 512 stands for no number yet
pub record Part (size : ℕ) (φ : ℕ → ℕ) (orbit : List ℕ) (e f : ℕ) : Type 0 where
  pub full : length orbit ≡ 512
  pub past : (d : ℕ) → size ≤ d → get_or orbit d 0 ≡ 0
  pub few : f ≤ e
  pub kind : (d : ℕ) → d < size → (get_or orbit d 0 ≡ 512) ⊎ (get_or orbit d 0 < f)
  pub done : (d : ℕ) → d < e → get_or orbit d 0 < f
  pub step : (d : ℕ) → d < size → get_or orbit (φ d) 0 ≡ get_or orbit d 0
  pub joins : (a b : ℕ) → a < size → b < size → get_or orbit a 0 < f → get_or orbit a 0 ≡ get_or orbit b 0 → Reach φ a b
  pub lead : (c : ℕ) → c < f → Lead size (entries orbit) c

-- i steps of the walk from s have given the number f
pub record Walk (φ : ℕ → ℕ) (orbit₀ orbit : List ℕ) (s f i : ℕ) : Type 0 where
  pub full : length orbit ≡ 512
  pub new : (j : ℕ) → j < i → get_or orbit (iter φ j s) 0 ≡ f
  pub kind : (d : ℕ) → (get_or orbit d 0 ≡ get_or orbit₀ d 0) ⊎ Reach φ s d

pub set_out : {size : ℕ} {φ : ℕ → ℕ} {orbit : List ℕ} {e f : ℕ} → Part size φ orbit e f → Walk φ orbit orbit e f 0
set_out p = record { full = p.full; new = λ j h. absurd (omega arith); kind = λ d. inl refl }

-- the element has its number already
pub pass : {size : ℕ} {φ : ℕ → ℕ} {orbit : List ℕ} {e f : ℕ} → e < size → Part size φ orbit e f → (get_or orbit e 0 ≡ 512 → ⊥) → Part size φ orbit (e + 1) f
pass {e = e} h p n = record {
  full = p.full;
  past = p.past;
  few = omega (arith, p.few);
  kind = p.kind;
  done = below_more _ _ p.done (⊎_elim (λ k. absurd (n k)) (λ k. k) (p.kind e h));
  step = p.step;
  joins = p.joins;
  lead = p.lead;
}

-- a walk that is back where it started has been at every element of the orbit
module _ {φ : ℕ → ℕ} {orbit₀ orbit : List ℕ} {s f i : ℕ} (w : Walk φ orbit₀ orbit s f (suc i)) (round : iter φ (suc i) s ≡ s) where
  pub walked_all : (d : ℕ) → Reach φ s d → get_or orbit d 0 ≡ f
  walked_all d (k, r) = let (j, l, q) = around φ s (suc i) (omega arith) round k in ap (entries orbit) (sym (q ∙ r)) ∙ w.new j l

module _ {size : ℕ} {φ : ℕ → ℕ} (P : Perm size φ) (fits : size ≤ 512) where
  pub walk_on : {orbit₀ orbit : List ℕ} {s f i : ℕ} → s < size → Walk φ orbit₀ orbit s f i → Walk φ orbit₀ (set orbit (iter φ i s) f) s f (suc i)
  walk_on {orbit₀} {orbit} {s} {f} {i} h w = record {
    full = length-set orbit (iter φ i s) f ∙ w.full;
    new = λ j l. fresh j l (put (iter φ j s));
    kind = λ d. either d (put d) (w.kind d);
  }
    where
      put : (d : ℕ) → Stored orbit (iter φ i s) f d 0
      put d = stored orbit (iter φ i s) f d 0 (omega (arith, w.full, iter_below P i s h))

      fresh : (j : ℕ) → j < suc i → Stored orbit (iter φ i s) f (iter φ j s) 0 → get_or (set orbit (iter φ i s) f) (iter φ j s) 0 ≡ f
      fresh j l (here _ q) = q
      fresh j l (apart n q) = by_cases (ℕ_discrete j i) (λ e. absurd (n (ap (λ x. iter φ x s) e))) (λ e. q ∙ w.new j (omega arith))

      either : (d : ℕ) → Stored orbit (iter φ i s) f d 0 → (get_or orbit d 0 ≡ get_or orbit₀ d 0) ⊎ Reach φ s d → (get_or (set orbit (iter φ i s) f) d 0 ≡ get_or orbit₀ d 0) ⊎ Reach φ s d
      either d (here p _) k = inr (i, sym p)
      either d (apart _ q) k = ⊎_elim (λ e. inl (q ∙ e)) inr k

  -- the walk is back where it started
  module _ {orbit₀ orbit : List ℕ} {s f i : ℕ} (h : s < size) (p : Part size φ orbit₀ s f) (free : get_or orbit₀ s 0 ≡ 512)
      (w : Walk φ orbit₀ orbit s f (suc i)) (round : iter φ (suc i) s ≡ s) where
    new_all : (d : ℕ) → Reach φ s d → get_or orbit d 0 ≡ f
    new_all = walked_all w round

    -- none of which had a number
    was_free : (d : ℕ) → Reach φ s d → get_or orbit₀ d 0 ≡ 512
    was_free d r = sym (kept_reach P (entries orbit₀) p.step s d h r) ∙ free

    old : (d : ℕ) → get_or orbit₀ d 0 < 512 → get_or orbit d 0 ≡ get_or orbit₀ d 0
    old d l = ⊎_elim (λ e. e) (λ r. absurd (omega (arith, was_free d r))) (w.kind d)

    step_on : (d : ℕ) → d < size → get_or orbit (φ d) 0 ≡ get_or orbit d 0
    step_on d l = go (w.kind d) (w.kind (φ d))
      where
        go : (get_or orbit d 0 ≡ get_or orbit₀ d 0) ⊎ Reach φ s d → (get_or orbit (φ d) 0 ≡ get_or orbit₀ (φ d) 0) ⊎ Reach φ s (φ d) → get_or orbit (φ d) 0 ≡ get_or orbit d 0
        go (inl x) (inl y) = y ∙ p.step d l ∙ sym x
        go (inl x) (inr r) = new_all (φ d) r ∙ sym (new_all d (reach_trans φ r (reach_sym P l (1, refl))))
        go (inr r) k = new_all (φ d) (reach_trans φ r (1, refl)) ∙ sym (new_all d r)

    joined : (a b : ℕ) → a < size → b < size → get_or orbit a 0 < f + 1 → get_or orbit a 0 ≡ get_or orbit b 0 → Reach φ a b
    joined a b k l g q = go (w.kind a) (w.kind b)
      where
        -- an old number is not f
        not_f : (d : ℕ) → d < size → get_or orbit₀ d 0 ≡ f → ⊥
        not_f d m x = ⊎_elim (λ y. omega (arith, p.few)) (λ y. omega arith) (p.kind d m)

        go : (get_or orbit a 0 ≡ get_or orbit₀ a 0) ⊎ Reach φ s a → (get_or orbit b 0 ≡ get_or orbit₀ b 0) ⊎ Reach φ s b → Reach φ a b
        go (inl x) (inl y) = p.joins a b k l (omega (arith, not_f a k)) (sym x ∙ q ∙ y)
        go (inl x) (inr r) = absurd (not_f a k (sym x ∙ q ∙ new_all b r))
        go (inr r) (inl y) = absurd (not_f b l (sym y ∙ sym q ∙ new_all a r))
        go (inr r) (inr t) = reach_trans φ (reach_sym P h r) t

    -- every element below s has a lower number
    lower : (d : ℕ) → d < s → get_or orbit d 0 < f
    lower d l = omega (arith, p.few, p.done d l, old d (omega (arith, p.few, p.done d l)))

    old_lead : (c : ℕ) → c < f → Lead size (entries orbit₀) c → Lead size (entries orbit) c
    old_lead c l d = record {
      first = d.first;
      inside = d.inside;
      has = old d.first (omega (arith, p.few, d.has)) ∙ d.has;
      least = λ j k. omega (arith, p.few, d.least j k, old j (omega (arith, p.few, d.least j k)));
    }

    pub come_round : Part size φ orbit (s + 1) (f + 1)
    come_round = record {
      full = w.full;
      past = λ d l. ⊎_elim (λ e. e ∙ p.past d l) (λ r. absurd (omega (arith, reach_below P h r))) (w.kind d);
      few = omega (arith, p.few);
      kind = λ d l. ⊎_elim (λ e. ⊎_elim (λ k. inl (e ∙ k)) (λ k. inr (omega arith)) (p.kind d l)) (λ r. inr (omega (arith, new_all d r))) (w.kind d);
      done = below_more _ _ (λ d l. omega (arith, lower d l)) (omega (arith, new_all s (reach_refl φ s)));
      step = step_on;
      joins = joined;
      lead = below_more _ _ (λ c l. old_lead c l (p.lead c l)) (record { first = s; inside = h; has = new_all s (reach_refl φ s); least = lower });
    }
