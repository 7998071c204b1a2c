-- The wires of a bar as write sheet lists them: of a sound sheet they are the bar's wires, each once, and linking them gives its next-ends. Assumes nothing.
use Rattle.std.proofs.Common.{◌≡◌, refl, sym, ◌∙◌, ap, subst, ◌≢◌, List, [], ◌∷◌, ◌++◌, ℕ, zero, suc, ◌/◌, ◌≤◌, ◌<◌, arith, eq-eqb, ne_eqb, get_or, length}
use Rattle.std.proofs.Math.Decide.{ℕ_discrete}
use Rattle.counting.specs.Below.{lowest_below}
use Rattle.counting.specs.Orbits.{iter}
use Rattle.counting.proofs.Below.{lowest_found}
use Rattle.counting.proofs.Iterate.{iter_shift, iter_keeps, around}
use Rattle.counting.proofs.Pigeonhole.{Found, at, nowhere, find}
use Rattle.counting.proofs.Reach.{returns, iter_one_one}
use Rattle.clauses.specs.declared.Sheet.{Sheet}
use Rattle.sheet.specs.Darts.{darts, touches, dart_at, next}
use Rattle.sheet.specs.Sound.{Sound}
use Rattle.sheet.proofs.Darts.{edge_below}
use Rattle.soundness.proofs.Rings.{Rotation}
use Rattle.soundness.proofs.Law.{rotation_of}
use Rattle.load.specs.Rings.{link_ring}
use Rattle.writesheet.specs.Rings.{ring_from, rotation}
use Rattle.roundtrip.proofs.Around.{Around}
use Rattle.soundness.proofs.Ends.{EndAt, at_edge, at_below, at_end, end_touches, end_at_law, touched}
use Rattle.roundtrip.proofs.Linking.{link_at}

-- ---- the ends from d on

module _ (s : Sheet) where
  -- the wires of the first n of them
  steps : ℕ → ℕ → List ℕ
  steps zero d = []
  steps (suc n) d = d / 2 ∷ steps n (next s d)

  steps_length : (n d : ℕ) → length (steps n d) ≡ n
  unfolding steps
  steps_length zero d = refl
  steps_length (suc n) d = ap suc (steps_length n (next s d))

  steps_entry : (n d i : ℕ) → i < n → get_or (steps n d) i 0 ≡ iter (next s) i d / 2
  unfolding steps
  steps_entry zero d i h = absurd (omega arith)
  steps_entry (suc n) d zero h = refl
  steps_entry (suc n) d (suc i) h = steps_entry n (next s d) i (omega arith) ∙ ap (λ x. x / 2) (iter_shift (next s) i d)

  steps_last : (n d : ℕ) → steps n d ++ iter (next s) n d / 2 ∷ [] ≡ steps (suc n) d
  unfolding steps
  steps_last zero d = refl
  steps_last (suc n) d = ap (λ l. d / 2 ∷ l) (ap (λ x. steps n (next s d) ++ x / 2 ∷ []) (sym (iter_shift (next s) n d)) ∙ steps_last n (next s d))

  ring_steps : (start t n d : ℕ) → t < n → ((u : ℕ) → u < t → iter (next s) (suc u) d ≢ start) → iter (next s) (suc t) d ≡ start → ring_from n s start d ≡ steps (suc t) d
  unfolding ring_from steps
  ring_steps start t zero d h f e = absurd (omega arith)
  ring_steps start zero (suc n) d h f e = rw (eq-eqb (next s d) start e)
  ring_steps start (suc t) (suc n) d h f e =
      rw (ne_eqb (next s d) start (f 0 (omega arith)))
      (ap (λ l. d / 2 ∷ l) (ring_steps start t n (next s d) (omega arith) (λ u l q. f (suc u) (omega arith) (sym (iter_shift (next s) (suc u) d) ∙ q)) (iter_shift (next s) (suc t) d ∙ e)))

  -- ---- the ring of bar v, from its end `start`
  module _ (S : Sound s) (v start : ℕ) (from : EndAt s v start) where
    R : Rotation s
    R = rotation_of S

    -- it returns after one more step than `last`, and not before
    record Round : Type 0 where
      last : ℕ
      soon : last < darts s
      returned : iter (next s) (suc last) start ≡ start
      before : (u : ℕ) → u < last → iter (next s) (suc u) start ≢ start

    round : Round
    round = go (find (λ i. iter (next s) (suc i) start ≡ start) (λ i. ℕ_discrete (iter (next s) (suc i) start) start) (darts s))
      where
        go : Found (λ i. iter (next s) (suc i) start ≡ start) (darts s) → Round
        go (at i l e m) = record { last = i; soon = l; returned = e; before = m }
        go (nowhere f) = let (i, l, e) = returns R.perm start from.below in absurd (f i l e)

    abbrev L : ℕ
    L = suc round.last

    abbrev ring : List ℕ
    ring = steps L start

    -- its ends, in turn: the end i is that of wire i of the list
    abbrev end : ℕ → ℕ
    end i = iter (next s) i start

    pub end_in : (i : ℕ) → EndAt s v (iter (next s) i start)
    end_in i = iter_keeps (next s) (EndAt s v) (λ x e. record { below = R.perm.below x e.below; here = R.keeps x e.below ∙ e.here }) i start from

    entry_end : (n i : ℕ) → i < n → dart_at s (get_or (steps n start) i 0) v ≡ end i
    entry_end n i h = ap (λ w. dart_at s w v) (steps_entry n start i h) ∙ end_at_law s S.joins (end_in i)

    -- they differ
    differ : (i j : ℕ) → i < L → j < L → end i ≡ end j → i ≡ j
    differ i j h k e = iter_one_one R.perm round.last start from.below round.before i j (omega arith) (omega arith) e

    -- every end at the bar is one of them
    place : {d : ℕ} → EndAt s v d → (i : ℕ) × (i < L) × (end i ≡ d)
    place {d} e =
        let (j, q) = R.ring start d from.below e.below (from.here ∙ sym e.here) in
        let (i, h, p) = around (next s) start L (omega arith) round.returned j in
        (i, h, p ∙ q)

    ring_around : Around s v ring
    ring_around = record {
      distinct = record { same = λ i j h k e. differ i j (in_ring h) (in_ring k) (sym (entry_end L i (in_ring h)) ∙ ap (λ w. dart_at s w v) e ∙ entry_end L j (in_ring k)) };
      inside = λ i h. rw (steps_entry L start i (in_ring h)) (edge_below s (end_in i).below);
      touching = λ i h. rw (steps_entry L start i (in_ring h)) (end_touches s (end_in i));
      all = λ k h t. let (i, l, e) = place (at_end s k v h t) in (i, omega (arith, steps_length L start), steps_entry L start i l ∙ ap (λ d. d / 2) e ∙ at_edge s k v);
    }
      where
        in_ring : {i : ℕ} → i < length ring → i < L
        in_ring h = omega (arith, steps_length L start)

    ring_links : (nexts : List ℕ) → darts s ≤ length nexts → (d : ℕ) → EndAt s v d → get_or (link_ring s v ring nexts) d 0 ≡ next s d
    ring_links nexts room d e =
        let (i, h, q) = place e in
        let first : get_or ring 0 0 ≡ end L / 2 = steps_entry L start 0 (omega arith) ∙ ap (λ x. x / 2) (sym round.returned) in
        let again : ring ++ get_or ring 0 0 ∷ [] ≡ steps (suc L) start = ap (λ w. ring ++ w ∷ []) first ∙ steps_last L start in
        ap (λ x. get_or (link_ring s v ring nexts) x 0) (sym (entry_end L i h ∙ q))
        ∙ link_at s v (get_or ring 0 0) ring nexts ring_around.distinct i (omega (arith, steps_length L start)) (λ j l. omega (arith, at_below s (get_or ring j 0) v (ring_around.inside j l)))
        ∙ ap (λ l. dart_at s (get_or l (suc i) 0) v) again
        ∙ entry_end (suc L) (suc i) (omega arith)
        ∙ ap (next s) q

    ring_is : ring_from (darts s) s start start ≡ ring
    ring_is = ring_steps start round.last (darts s) start round.soon round.before round.returned

-- the wires of bar v
pub record Rotated (s : Sheet) (v : ℕ) (ws : List ℕ) : Type 0 where
  pub some : 0 < length ws
  pub around : Around s v ws
  pub links : (nexts : List ℕ) → darts s ≤ length nexts → (d : ℕ) → EndAt s v d → get_or (link_ring s v ws nexts) d 0 ≡ next s d

-- begun at its end `start`
pub record Begun (s : Sheet) (v start : ℕ) (ws : List ℕ) : Type 0 where
  pub from : EndAt s v start
  pub rotates : Rotated s v ws
  pub entries : (i : ℕ) → i < length ws → get_or ws i 0 ≡ iter (next s) i start / 2
  pub again : iter (next s) (length ws) start ≡ start

module _ (s : Sheet) (S : Sound s) where
  pub ring_begun : (v start : ℕ) → EndAt s v start → Begun s v start (ring_from (darts s) s start start)
  ring_begun v start from =
      let n : ℕ = L s S v start from in
      let size = steps_length s n start in
      subst (Begun s v start) (sym (ring_is s S v start from))
      (record {
        from = from;
        rotates = record { some = omega arith; around = ring_around s S v start from; links = ring_links s S v start from };
        entries = λ i h. steps_entry s n start i (omega arith);
        again = ap (λ k. iter (next s) k start) size ∙ (round s S v start from).returned;
      })

  pub rotation_begun : (v : ℕ) → v < s.vertices → (start : ℕ) × Begun s v start (rotation s v)
  unfolding rotation
  rotation_begun v h =
      let (k, l, t) = touched S v h in
      let (below, touching, _) = lowest_found (λ k. touches s k v) s.edges k l t in
      (_, ring_begun v _ (at_end s (lowest_below (λ k. touches s k v) s.edges) v below touching))

  pub rotated : (v : ℕ) → v < s.vertices → Rotated s v (rotation s v)
  rotated v h = let (start, B) = rotation_begun v h in B.rotates
