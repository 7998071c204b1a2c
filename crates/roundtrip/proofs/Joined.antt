-- Texts one after the other, with line ends of both kinds. Assumes nothing.
use Rattle.std.proofs.Common.{◌≡◌, refl, sym, ◌∙◌, ap₂, cond, List, ◌++◌, ℕ, zero, suc, ◌<◌, arith, eq-eqb, ne_eqb, eqb}
use Rattle.std.proofs.Math.Logic.{by_cases}
use Rattle.std.proofs.Math.Decide.{ℕ_discrete}
use Rattle.counting.specs.Below.{join_below}
use Rattle.counting.proofs.Joined.{join_agree}
use Rattle.layout.specs.Mixed.{MixedEnds}
use Rattle.layout.specs.Mixed.MixedEnds.{over}
use Rattle.layout.proofs.Mixed.{Parts, mixed_parts}

pub record Joined (f : ℕ → List ℕ) (n : ℕ) (us : List ℕ) : Type 0 where
  pub mixed : ℕ → List ℕ
  pub whole : us ≡ join_below mixed n
  pub each : (k : ℕ) → k < n → MixedEnds (f k) (mixed k)

pub mixed_joined : (f : ℕ → List ℕ) (n : ℕ) (us : List ℕ) → MixedEnds (join_below f n) us → Joined f n us
unfolding join_below
mixed_joined f zero us over = record { mixed = f; whole = refl; each = λ k h. absurd (omega arith) }
mixed_joined f (suc n) us m = go (mixed_parts (join_below f n) (f n) us m) (λ vs. mixed_joined f n vs)
  where
    go : Parts (join_below f n) (f n) us → ((vs : List ℕ) → MixedEnds (join_below f n) vs → Joined f n vs) → Joined f (suc n) us
    go p ih = record {
      mixed = g;
      whole = p.whole ∙ ap₂ (λ a b. a ++ b) (J.whole ∙ join_agree J.mixed g n (λ k h. sym (before k h))) (sym here);
      each = λ k h. by_cases (ℕ_discrete k n) (λ e. rw (e, here) p.back_mixed) (λ e. rw (before k (omega arith)) (J.each k (omega arith)));
    }
      where
        J : Joined f n p.front
        J = ih p.front p.front_mixed

        g : ℕ → List ℕ
        g k = cond (eqb k n) p.back (J.mixed k)

        here : g n ≡ p.back
        here = rw (eq-eqb n n refl) refl

        before : (k : ℕ) → k < n → g k ≡ J.mixed k
        before k h = rw (ne_eqb k n (λ e. omega arith)) refl
