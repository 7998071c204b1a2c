-- A ring that begins anywhere. Assumes nothing.
use Rattle.std.proofs.Common.{◌≡◌, refl, sym, ◌∙◌, ap, subst, List, ◌++◌, ℕ, ◌+◌, ◌-◌, ◌/◌, ◌≤◌, ◌<◌, arith, get_or, length, take, drop, length-append, length-drop, drop_of_length-le, length-take-le, take_all, get_or-take, get_or-drop, get_or-append-add, ext_get_or}
use Rattle.std.proofs.Math.Logic.{by_cases}
use Rattle.std.proofs.Math.Decide.{dec_lt, dec_le}
use Rattle.std.proofs.Math.ListN.{get_or-append}
use Rattle.counting.specs.Orbits.{iter}
use Rattle.counting.proofs.Iterate.{iter_add}
use Rattle.clauses.specs.declared.Sheet.{Sheet}
use Rattle.sheet.specs.Darts.{darts, dart_at, next}
use Rattle.sheet.specs.Sound.{Sound}
use Rattle.soundness.proofs.Ends.{EndAt, at_edge, end_at_law}
use Rattle.writesheet.specs.Rings.{ring_from, rotation}
use Rattle.roundtrip.proofs.Around.{around_length}
use Rattle.roundtrip.proofs.Laid.{Laid, cyclic_entry, end, steps}
use Rattle.roundtrip.proofs.Rotations.{Rotated, Begun, ring_begun, rotation_begun, end_in}
use Rattle.acceptance.specs.Laws.{turned}

turned_length : (t : ℕ) (ws : List ℕ) → t ≤ length ws → length (turned t ws) ≡ length ws
unfolding turned
turned_length t ws h = omega (arith, length-append (drop t ws) (take t ws), length-drop t ws, length-take-le t ws h)

turned_over : (t : ℕ) (ws : List ℕ) → length ws ≤ t → turned t ws ≡ ws
unfolding turned
turned_over t ws h = rw (drop_of_length-le ws {i = t} h, take_all t ws h) refl

module _ (s : Sheet) (S : Sound s) (v : ℕ) where
  module _ (start : ℕ) (ws : List ℕ) (B : Begun s v start ws) (t : ℕ) (h : t ≤ length ws) where
    -- the end t steps on, and the ring from there
    start' : ℕ
    start' = iter (next s) t start

    from_there : EndAt s v start'
    unfolding start'
    from_there = end_in s S v start B.from t

    B' : Begun s v start' (ring_from (darts s) s start' start')
    B' = ring_begun s S v start' from_there

    size : length ws ≡ length (ring_from (darts s) s start' start')
    size = around_length B.rotates.around B'.rotates.around

    entry : (i : ℕ) → i < length ws → get_or (turned t ws) i 0 ≡ get_or (ring_from (darts s) s start' start') i 0
    unfolding turned start'
    entry i l = by_cases (dec_lt i (length (drop t ws))) front back ∙ sym (B'.entries i (omega (arith, size)))
      where
        front : i < length (drop t ws) → get_or (drop t ws ++ take t ws) i 0 ≡ iter (next s) i start' / 2
        front m =
            let e : t + i ≡ i + t = omega arith in
            get_or-append (drop t ws) (take t ws) 0 i m
            ∙ get_or-drop t ws i 0
            ∙ B.entries (t + i) (omega (arith, length-drop t ws))
            ∙ ap (λ k. iter (next s) k start / 2) e
            ∙ ap (λ d. d / 2) (iter_add (next s) i t start)

        back : ¬ (i < length (drop t ws)) → get_or (drop t ws ++ take t ws) i 0 ≡ iter (next s) i start' / 2
        back m =
            let j : ℕ = i - length (drop t ws) in
            let left = length-drop t ws in
            let e : i ≡ length (drop t ws) + j = omega arith in
            let f : j + length ws ≡ i + t = omega arith in
            ap (λ k. get_or (drop t ws ++ take t ws) k 0) e
            ∙ get_or-append-add (drop t ws) (take t ws) j 0
            ∙ get_or-take t ws j 0 (omega arith)
            ∙ B.entries j (omega arith)
            ∙ ap (λ d. d / 2) (ap (iter (next s) j) (sym B.again) ∙ sym (iter_add (next s) j (length ws) start) ∙ ap (λ k. iter (next s) k start) f ∙ iter_add (next s) i t start)

    turned_begun : Begun s v (iter (next s) t start) (turned t ws)
    unfolding start'
    turned_begun = subst (Begun s v start') (sym (ext_get_or 0 (turned t ws) _ (turned_length t ws h ∙ size) (λ i l. entry i (omega (arith, turned_length t ws h))))) B'

  module _ (h : v < s.vertices) where
    pub turned_rotates : (t : ℕ) → Rotated s v (turned t (rotation s v))
    turned_rotates t = let (start, B) = rotation_begun s S v h in by_cases (dec_le t (length (rotation s v)))
        (λ l. (turned_begun start (rotation s v) B t l).rotates)
        (λ l. rw (turned_over t (rotation s v) (omega arith)) B.rotates)

    -- a list that its ends follow is the ring, turned
    pub laid_turned : (ws : List ℕ) → 0 < length ws → Laid s v s.nexts ws → (t : ℕ) × (ws ≡ turned t (rotation s v))
    unfolding end
    laid_turned ws some L =
        let (start, B) = rotation_begun s S v h in
        let (t, l, e) = B.rotates.around.all (get_or ws 0 0) (L.around.inside 0 some) (L.around.touching 0 some) in
        let T = turned_begun start (rotation s v) B t (omega arith) in
        let first : iter (next s) t start ≡ end s v ws L 0 =
        sym (end_at_law s S.joins T.from) ∙ ap (λ k. dart_at s k v) (sym (B.entries t l) ∙ e ∙ sym (cyclic_entry ws 0 some)) in
        let n = around_length L.around T.rotates.around in (
          t,
          ext_get_or 0 ws (turned t (rotation s v)) n (λ i m.
              sym (at_edge s (get_or ws i 0) v)
              ∙ ap (λ d. d / 2) (ap (λ k. dart_at s k v) (sym (cyclic_entry ws i m)) ∙ sym (steps s v ws L i (omega arith)) ∙ ap (iter (next s) i) (sym first))
              ∙ sym (T.entries i (omega arith))),
        )
