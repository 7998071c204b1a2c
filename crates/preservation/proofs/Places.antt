-- What stands at a place of an array after darts were renamed. Assumes nothing.
use Rattle.std.proofs.Common.{ℕ, zero, suc, ◌<◌, ◌≡◌, refl, sym, ◌∙◌, ap, ◌≢◌, List, [], ◌∷◌, map, arith, get_or, set, length, length-set, get_or-set_same, get_or-set_other, eq-eqb, ne_eqb}
use Rattle.std.proofs.Math.ListN.{length-map}
use Rattle.std.proofs.lemmas.List.{get_or-map}
use Rattle.edit.specs.Changes.{renamed, replace_dart, insert_dart}

pub renamed_old : (a b : ℕ) → renamed a b a ≡ b
unfolding renamed
renamed_old a b = rw (eq-eqb a a refl) refl

pub renamed_other : (a b x : ℕ) → x ≢ a → renamed a b x ≡ x
unfolding renamed
renamed_other a b x n = rw (ne_eqb x a n) refl

-- past its end, and where nothing stands, nothing stands
pub named_zero : (a b : ℕ) (l : List ℕ) (i : ℕ) → a ≢ 0 → get_or l i 0 ≡ 0 → get_or (map (renamed a b) l) i 0 ≡ 0
named_zero a b [] i n e = refl
named_zero a b (x ∷ l) zero n e = ap (renamed a b) e ∙ renamed_other a b 0 (λ q. n (sym q))
named_zero a b (x ∷ l) (suc i) n e = named_zero a b l i n e

-- one dart in the place of another
module _ (old new : ℕ) (l : List ℕ) where
  pub replace_size : length (replace_dart old new l) ≡ length l
  unfolding replace_dart
  replace_size = length-set (map (renamed old new) l) new (get_or (map (renamed old new) l) old 0) ∙ length-map l (renamed old new)

  pub replace_new : old < length l → new < length l → get_or (replace_dart old new l) new 0 ≡ renamed old new (get_or l old 0)
  unfolding replace_dart
  replace_new h k =
      get_or-set_same (map (renamed old new) l) new (get_or (map (renamed old new) l) old 0) 0 (omega (arith, length-map l (renamed old new)))
      ∙ get_or-map (renamed old new) l old 0 0 h

  pub replace_at : (d : ℕ) → d ≢ new → d < length l → get_or (replace_dart old new l) d 0 ≡ renamed old new (get_or l d 0)
  unfolding replace_dart
  replace_at d n h = get_or-set_other (map (renamed old new) l) new d (get_or (map (renamed old new) l) old 0) 0 n ∙ get_or-map (renamed old new) l d 0 0 h

  pub replace_zero : (d : ℕ) → d ≢ new → old ≢ 0 → get_or l d 0 ≡ 0 → get_or (replace_dart old new l) d 0 ≡ 0
  unfolding replace_dart
  replace_zero d n z e = get_or-set_other (map (renamed old new) l) new d (get_or (map (renamed old new) l) old 0) 0 n ∙ named_zero old new l d z e

-- a new dart just after another
module _ (new d : ℕ) (l : List ℕ) (apart : new ≢ d) where
  abbrev before : List ℕ
  before = set l new (get_or l d 0)

  before_size : length before ≡ length l
  before_size = length-set l new (get_or l d 0)

  pub insert_size : length (insert_dart new d l) ≡ length l
  unfolding insert_dart
  insert_size = length-set before d new ∙ before_size

  pub insert_at : d < length l → get_or (insert_dart new d l) d 0 ≡ new
  unfolding insert_dart
  insert_at h = get_or-set_same before d new 0 (omega (arith, before_size))

  pub insert_new : new < length l → get_or (insert_dart new d l) new 0 ≡ get_or l d 0
  unfolding insert_dart
  insert_new h = get_or-set_other before d new new 0 apart ∙ get_or-set_same l new (get_or l d 0) 0 h

  pub insert_rest : (e : ℕ) → e ≢ d → e ≢ new → get_or (insert_dart new d l) e 0 ≡ get_or l e 0
  unfolding insert_dart
  insert_rest e n k = get_or-set_other before d e new 0 n ∙ get_or-set_other l new e (get_or l d 0) 0 k
