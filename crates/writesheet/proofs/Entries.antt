-- The rings of a sound sheet have an entry for each dart, together, and so its text is short. Assumes nothing.
use Rattle.std.proofs.Common.{ℕ, zero, suc, ◌+◌, ◌-◌, ◌*◌, ◌/◌, ◌≤◌, ◌<◌, ◌≡◌, refl, ◌∙◌, ◌≢◌, Bool, true, false, [], ◌∷◌, arith, eqb, ltb, length, length-append, eq-eqb}
use Rattle.std.proofs.lemmas.Bool.{eqb-false}
use Rattle.counting.specs.Below.{join_below}
use Rattle.counting.specs.Choice.{pick}
use Rattle.counting.specs.Counts.{count}
use Rattle.counting.specs.Orbits.{iter}
use Rattle.counting.proofs.Counts.{count_below, count_room, count_le}
use Rattle.counting.proofs.Iterate.{iter_shift}
use Rattle.counting.proofs.Orbits.{kept}
use Rattle.counting.proofs.Reach.{iter_below, iter_one_one}
use Rattle.text.specs.Keys.{bars_key, wires_key, around_key}
use Rattle.buffer.proofs.Writing.{line_short}
use Rattle.clauses.specs.declared.Sheet.{Sheet}
use Rattle.sheet.specs.Darts.{darts, vertex, next}
use Rattle.sheet.specs.Sound.{Sound}
use Rattle.sheet.specs.Check.{sound}
use Rattle.sheet.specs.Darts.{Sized}
use Rattle.soundness.proofs.Law.{rotation_of, sound_law}
use Rattle.writesheet.specs.Rings.{ring_from, rotation, lowest_dart}
use Rattle.writesheet.specs.Inner.{ring_text}
use Rattle.writesheet.specs.Write.{sheet_text}
use Rattle.writesheet.proofs.Firsts.{lowest_below_law, lowest_vertex}
use Rattle.writesheet.proofs.Measure.{edges_short, sheet_size}

-- a sheet that passes the check is sound
pub sound_of : {s : Sheet} → (sound s ≡ true) × Sized s → Sound s
sound_of (e, z) = (sound_law _ z).0 e

-- a ring is listed no further than where it returns to its start
no_return : (n : ℕ) (s : Sheet) (start d j : ℕ) → suc j < length (ring_from n s start d) → iter (next s) (suc j) d ≢ start
unfolding ring_from
no_return zero s start d j h = absurd (omega arith)
no_return (suc n) s start d j h = go (eqb (next s d) start) refl h (no_return n s start (next s d))
  where
    go : (b : Bool) → eqb (next s d) start ≡ b → suc j < length (d / 2 ∷ pick b (λ _. []) (λ _. ring_from n s start (next s d)))
        → ((i : ℕ) → suc i < length (ring_from n s start (next s d)) → iter (next s) (suc i) (next s d) ≢ start) → iter (next s) (suc j) d ≢ start
    go true e h rest = absurd (omega arith)
    go false e h rest = step j h
      where
        step : (j : ℕ) → suc j < suc (length (ring_from n s start (next s d))) → iter (next s) (suc j) d ≢ start
        step zero h q = eqb-false (next s d) start e q
        step (suc i) h q = rest i (omega arith) (iter_shift (next s) (suc i) d ∙ q)

module _ {s : Sheet} (S : Sound s) where
  -- a ring has no more entries than its vertex has darts
  ring_few : (v : ℕ) → v < s.vertices → length (rotation s v) ≤ count (λ d. eqb (vertex s d) v) (darts s)
  unfolding rotation
  ring_few v h =
      let start = lowest_dart s v in
      let R = rotation_of S in
      let below = lowest_below_law S v h in
      let size = length (ring_from (darts s) s start start) in
      count_room (λ d. eqb (vertex s d) v) (darts s) size (λ i. iter (next s) i start)
      (λ i l. (iter_below R.perm i start below, eq-eqb _ _ (kept R.perm (vertex s) R.keeps i start below ∙ lowest_vertex S v h)))
      (λ i j l m. iter_one_one R.perm (size - 1) start below (λ k g. no_return (darts s) s start start k (omega arith)) i j (omega arith) (omega arith))

  rings_few : (k : ℕ) → k ≤ s.vertices → length (join_below (ring_text s) k) ≤ k * 8 + 4 * count (λ d. ltb (vertex s d) k) (darts s)
  unfolding join_below
  rings_few zero h = omega arith
  rings_few (suc k) h =
      omega (arith, length-append (join_below (ring_text s) k) (ring_text s k), rings_few k (omega arith), line_short around_key (rotation s k), ring_few k h, count_below (vertex s) k (darts s))

  -- so there are at most 512 in all
  pub rings_short : (k : ℕ) → k ≤ s.vertices → length (join_below (ring_text s) k) ≤ 3072
  rings_short k h = omega (arith, rings_few k h, count_le (λ d. ltb (vertex s d) k) (darts s), S.limits.vertices_most, S.limits.edges_most)

  pub sheet_short : length (sheet_text s) ≤ 6677
  sheet_short =
      omega (arith, sheet_size s, line_short bars_key (s.vertices ∷ []), line_short wires_key (s.edges ∷ []), edges_short s s.edges, rings_short s.vertices (omega arith), S.limits.edges_most)
