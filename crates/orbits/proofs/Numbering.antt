-- Of a permutation `traced` has the orbits. Assumes nothing.
use Rattle.std.proofs.Common.{ℕ, zero, suc, ◌+◌, ◌-◌, ◌≤◌, ◌<◌, ◌≡◌, sym, ap, ◌∙◌, inl, List, ◌++◌, arith, eq-eqb, ne_eqb, le-leb, eqb, leb, get_or, set, length, length-append, replicate, get_or-append-add}
use Rattle.std.proofs.Math.Decide.{ℕ_discrete}
use Rattle.std.proofs.lemmas.Bool.{lt-leb}
use Rattle.std.proofs.Math.ListN.{get_or-replicate, length-replicate, get_or-append}
use Rattle.counting.specs.Orbits.{Perm, iter, Orbits}
use Rattle.counting.proofs.Iterate.{by_bool}
use Rattle.counting.proofs.Reach.{iter_below, returns}
use Rattle.counting.proofs.Orbits.{kept_reach}
use Rattle.counting.proofs.Stores.{replicate_at}
use Rattle.orbits.specs.Tables.{unnumbered_below, walk_from, trace_from, traced}
use Rattle.orbits.specs.Meaning.{entries, Numbering, TracedLaw, CountLaw}
use Rattle.orbits.proofs.Walks.{Part, Walk, set_out, walk_on, come_round, pass}

module _ (size : ℕ) (step : ℕ → ℕ) (P : Perm size step) (fits : size ≤ 512) where
  none : Part size step (unnumbered_below size) 0 0
  unfolding unnumbered_below
  none = record {
    full = length-append (replicate size 512) (replicate (512 - size) 0) ∙ omega (arith, length-replicate {A = ℕ} size 512, length-replicate {A = ℕ} (512 - size) 0);
    past = λ d l.
        let z : d ≡ length {A = ℕ} (replicate size 512) + (d - size) = omega (arith, length-replicate {A = ℕ} size 512) in
        ap (entries (replicate size 512 ++ replicate (512 - size) 0)) z ∙ get_or-append-add (replicate size 512) (replicate (512 - size) 0) (d - size) 0 ∙ replicate_at 0 (512 - size) (d - size);
    few = omega arith;
    kind = λ d l. inl (bare d l);
    done = λ d l. absurd (omega arith);
    step = λ d l. bare (step d) (P.below d l) ∙ sym (bare d l);
    joins = λ a b k l h _. absurd (omega arith);
    lead = λ c l. absurd (omega arith);
  }
    where
      bare : (d : ℕ) → d < size → get_or {A = ℕ} (replicate size 512 ++ replicate (512 - size) 0) d 0 ≡ 512
      bare d l =
          get_or-append (replicate size 512) (replicate (512 - size) 0) 0 d (omega (arith, length-replicate {A = ℕ} size 512)) ∙ get_or-replicate size d 512 0 l

  -- the walk from s, which returns after suc k steps, comes round before its steps run out
  walked : {k s f : ℕ} {orbit₀ : List ℕ} → s < size → Part size step orbit₀ s f → get_or orbit₀ s 0 ≡ 512 → iter step (suc k) s ≡ s
      → (n i : ℕ) {orbit : List ℕ} → k < n + i → i ≤ k → Walk step orbit₀ orbit s f i
      → Part size step (walk_from n size step s f (iter step i s) orbit) (s + 1) (f + 1)
  unfolding walk_from
  walked h p free back zero i l m w = absurd (omega arith)
  walked {k} {s} {f} {orbit₀} h p free back (suc n) i {orbit} l m w =
      go (ℕ_discrete (iter step (suc i) s) s) (λ g. walked h p free back n (suc i) (omega arith) g (walk_on P fits h w))
    where
      go : Dec (iter step (suc i) s ≡ s)
          → (suc i ≤ k → Part size step (walk_from n size step s f (iter step (suc i) s) (set orbit (iter step i s) f)) (s + 1) (f + 1))
          → Part size step (walk_from (suc n) size step s f (iter step i s) orbit) (s + 1) (f + 1)
      go (yes q) ih = rw (eq-eqb (iter step (suc i) s) s q) (come_round P fits h p free (walk_on P fits h w) q)
      go (no q) ih =
          rw (ne_eqb (iter step (suc i) s) s q, lt-leb size (iter step (suc i) s) (iter_below P (suc i) s h))
          (ih (before_end (ℕ_discrete i k)))
        where
          before_end : Dec (i ≡ k) → suc i ≤ k
          before_end (yes e) = absurd (q (ap (λ x. iter step (suc x) s) e ∙ back))
          before_end (no e) = omega arith

  all_done : {orbit : List ℕ} {e f : ℕ} → e ≡ size → Part size step orbit e f → Numbering size step (record { count = f; orbit = orbit })
  all_done {orbit} {e} {f} z p = record {
    orbits = orbits;
    same = λ a b k l. (orbits.joins a b k l, kept_reach P (entries orbit) p.step a b k);
    lead = p.lead;
    past = p.past;
    full = p.full;
  }
    where
      orbits : Orbits size step (entries orbit) f
      orbits = record {
        inside = λ d l. p.done d (omega arith);
        step = p.step;
        joins = λ a b k l. p.joins a b k l (p.done a (omega arith));
        used = λ c l. let lead = p.lead c l in (lead.first, lead.inside, lead.has);
      }

  from_part : (n : ℕ) {orbit : List ℕ} {e f : ℕ} → n + e ≡ size → Part size step orbit e f → Numbering size step (trace_from n size step e f orbit)
  unfolding trace_from
  from_part zero z p = all_done (omega arith) p
  from_part (suc n) {orbit} {e} {f} z p = go (ℕ_discrete (get_or orbit e 0) 512) (λ o g x. from_part n {orbit = o} {e = e + 1} {f = g} (omega arith) x)
    where
      h : e < size
      h = omega arith

      go : Dec (get_or orbit e 0 ≡ 512) → ((o : List ℕ) (g : ℕ) → Part size step o (e + 1) g → Numbering size step (trace_from n size step (e + 1) g o)) → Numbering size step (trace_from (suc n) size step e f orbit)
      go (yes x) ih =
          let (k, l, back) = returns P e h in
          rw (eq-eqb (get_or orbit e 0) 512 x) (ih _ _ (walked {k = k} h p x back size 0 (omega arith) (omega arith) (set_out p)))
      go (no x) ih = rw (ne_eqb (get_or orbit e 0) 512 x) (ih _ _ (pass h p x))

pub traced_law : TracedLaw
unfolding traced
traced_law size step fits P = rw (le-leb size 512 fits) (from_part size step P fits size (omega arith) (none size step P fits))

count_from : (n size : ℕ) (step : ℕ → ℕ) (e f : ℕ) (orbit : List ℕ) → (trace_from n size step e f orbit).count ≤ n + f
unfolding trace_from
count_from zero size step e f orbit = omega arith
count_from (suc n) size step e f orbit =
    let new = count_from n size step (e + 1) (f + 1) (walk_from size size step e f e orbit) in
    let old = count_from n size step (e + 1) f orbit in
    by_bool (eqb (get_or orbit e 0) 512) (λ t. rw t (omega arith)) (λ t. rw t (omega arith))

pub count_law : CountLaw
unfolding traced
count_law size step =
    by_bool (leb size 512) (λ t. rw t (omega (arith, count_from size size step 0 0 (unnumbered_below size)))) (λ t. rw t (omega arith))
