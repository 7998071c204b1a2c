-- What the linking of a ring stores. Assumes nothing.
use Rattle.std.proofs.Common.{◌≡◌, refl, sym, ◌∙◌, ap, ◌≢◌, List, [], ◌∷◌, ◌++◌, ℕ, zero, suc, ◌/◌, ◌<◌, arith, get_or, length, set, length-set, get_or-set_same, get_or-set_other, lt-length-set}
use Rattle.clauses.specs.Darts.{dart_of}
use Rattle.clauses.specs.declared.Sheet.{Sheet}
use Rattle.sheet.specs.Darts.{dart_at}
use Rattle.load.specs.Rings.{link_from}
use Rattle.load.specs.Load.{with_nexts}
use Rattle.roundtrip.proofs.Around.{Distinct, distinct_tail}
use Rattle.soundness.proofs.Ends.{at_edge}

module _ (s : Sheet) (v first : ℕ) where
  pub link_length : (ws nexts : List ℕ) → length (link_from s v first ws nexts) ≡ length nexts
  unfolding link_from
  link_length [] nexts = refl
  link_length (w ∷ []) nexts = length-set nexts (dart_at s w v) (dart_at s first v)
  link_length (w ∷ x ∷ ws) nexts = link_length (x ∷ ws) (set nexts (dart_at s w v) (dart_at s x v)) ∙ length-set nexts (dart_at s w v) (dart_at s x v)

  -- the next-ends of the sheet itself do not matter
  pub link_anew : (other ws nexts : List ℕ) → link_from (with_nexts s other) v first ws nexts ≡ link_from s v first ws nexts
  unfolding link_from with_nexts dart_of
  link_anew other [] nexts = refl
  link_anew other (w ∷ []) nexts = refl
  link_anew other (w ∷ x ∷ ws) nexts = link_anew other (x ∷ ws) (set nexts (dart_at s w v) (dart_at s x v))

  -- every other entry is as it was
  pub link_other : (ws nexts : List ℕ) (d : ℕ) → ((i : ℕ) → i < length ws → d ≢ dart_at s (get_or ws i 0) v) → get_or (link_from s v first ws nexts) d 0 ≡ get_or nexts d 0
  unfolding link_from
  link_other [] nexts d n = refl
  link_other (w ∷ []) nexts d n = get_or-set_other nexts (dart_at s w v) d (dart_at s first v) 0 (n 0 (omega arith))
  link_other (w ∷ x ∷ ws) nexts d n =
      link_other (x ∷ ws) (set nexts (dart_at s w v) (dart_at s x v)) d (λ i h. n (suc i) (omega arith))
      ∙ get_or-set_other nexts (dart_at s w v) d (dart_at s x v) 0 (n 0 (omega arith))

  -- each end is followed by the next one of the list, the last by the first
  pub link_at : (ws nexts : List ℕ) → Distinct ws → (i : ℕ) → i < length ws → ((i : ℕ) → i < length ws → dart_at s (get_or ws i 0) v < length nexts)
      → get_or (link_from s v first ws nexts) (dart_at s (get_or ws i 0) v) 0 ≡ dart_at s (get_or (ws ++ first ∷ []) (suc i) 0) v
  unfolding link_from
  link_at [] nexts D i h room = absurd (omega arith)
  link_at (w ∷ []) nexts D zero h room = get_or-set_same nexts (dart_at s w v) (dart_at s first v) 0 (room 0 (omega arith))
  link_at (w ∷ []) nexts D (suc i) h room = absurd (omega arith)
  link_at (w ∷ x ∷ ws) nexts D zero h room =
      link_other (x ∷ ws) (set nexts (dart_at s w v) (dart_at s x v)) (dart_at s w v) (λ i l e. apart i l (sym (at_edge s w v) ∙ ap (λ d. d / 2) e ∙ at_edge s (get_or (x ∷ ws) i 0) v))
      ∙ get_or-set_same nexts (dart_at s w v) (dart_at s x v) 0 (room 0 (omega arith))
    where
      apart : (i : ℕ) → i < length (x ∷ ws) → w ≢ get_or (x ∷ ws) i 0
      apart i l e = omega (arith, D.same 0 (suc i) (omega arith) (omega arith) e)
  link_at (w ∷ x ∷ ws) nexts D (suc i) h room =
      link_at (x ∷ ws) (set nexts (dart_at s w v) (dart_at s x v)) (distinct_tail D) i (omega arith) (λ j l. lt-length-set nexts (dart_at s w v) (dart_at s x v) (room (suc j) (omega arith)))
