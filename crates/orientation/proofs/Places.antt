-- Orders of placed vertices, and what putting one more vertex in keeps. A vertex that is not placed is called free. Assumes nothing.
use Rattle.std.proofs.Common.{◌≡◌, ℕ, zero, suc, ◌<◌, ◌≤◌, Bool, true, false, not, ◌≢◌, List, length, get_or, set, refl, ap, ◌∙◌, arith, length-set, get_or-set_other, get_or-set_same, le-leb}
use Rattle.std.proofs.Math.Decide.{ℕ_discrete, dec_le}
use Rattle.std.proofs.Math.ListN.{get_or-eq_default}
use Rattle.std.proofs.Math.Logic.{by_cases}
use Rattle.std.proofs.lemmas.Bool.{lt-leb}
use Rattle.counting.specs.Counts.{count}
use Rattle.counting.proofs.Counts.{without, without_other, count_without, Onto, onto_count}
use Rattle.orientation.specs.Ears.{Graph, is_placed, raise, raised, insert_at}
use Rattle.orientation.proofs.Tests.{free_at, free_passes}

-- ---- graphs

-- a dart leads from u to v
pub record Adjacent (G : Graph) (u v : ℕ) : Type 0 where
  pub dart : ℕ
  pub dart_in : dart < G.darts
  pub at_from : G.from dart ≡ u
  pub at_to : G.to dart ≡ v

-- darts between different vertices below `vertices`, each with one that leads back; one leads from vertex 0 to vertex 1
pub record GraphLaws (vertices : ℕ) (G : Graph) : Type 0 where
  pub two : 2 ≤ vertices
  pub few : vertices ≤ 128
  pub counted : G.vertices ≡ vertices
  pub from_in : (d : ℕ) → d < G.darts → G.from d < vertices
  pub to_in : (d : ℕ) → d < G.darts → G.to d < vertices
  pub different : (d : ℕ) → d < G.darts → G.from d ≢ G.to d
  pub back : (d : ℕ) → d < G.darts → Adjacent G (G.to d) (G.from d)
  pub root : Adjacent G 0 1

-- where one leads from u to v, one leads from v to u
pub adjacent_sym : {vertices : ℕ} {G : Graph} → GraphLaws vertices G → {u v : ℕ} → Adjacent G u v → Adjacent G v u
adjacent_sym L j = rw (j.at_from, j.at_to) at (L.back j.dart j.dart_in)

-- ---- orders

-- the entry of v: its place, or its parent
abbrev pub at : List ℕ → ℕ → ℕ
at l v = get_or l v 0

-- a step to a free vertex
pub record ToFree (S : ℕ → ℕ → Type 0) (order : List ℕ) (u v : ℕ) : Type 0 where
  pub step : S u v
  pub free : at order v ≡ 0

-- p is lower than q, or higher
abbrev pub Less : Bool → ℕ → ℕ → Type 0
Less true p q = p < q
Less false p q = q < p

-- the vertex that has no neighbour on the side t: the first, or the last
abbrev pub pole : Bool → ℕ
pole true = 0
pole false = 1

-- v has a placed neighbour on the side t: a lower one where t is true, else a higher one
pub record Neighbour (G : Graph) (order : List ℕ) (t : Bool) (v : ℕ) : Type 0 where
  pub vertex : ℕ
  pub link : Adjacent G v vertex
  pub placed : 1 ≤ at order vertex
  pub side : Less t (at order vertex) (at order v)

-- places differ; vertex 0 is the first and vertex 1 the last
pub record Ordered (order : List ℕ) : Type 0 where
  pub size : length order ≡ 128
  pub first : at order 0 ≡ 1
  pub second : 2 ≤ at order 1
  pub last : (v : ℕ) → at order v ≤ at order 1
  pub distinct : (v w : ℕ) → 1 ≤ at order v → at order v ≡ at order w → v ≡ w

-- each placed vertex but 0 has a lower neighbour, and each but 1 a higher one; vertex z may lack its neighbour on the side s
abbrev pub Sided : Graph → List ℕ → ℕ → Bool → Type 0
Sided G order z s = (t : Bool) (v : ℕ) → 1 ≤ at order v → v ≢ pole t → (v ≡ z → t ≡ not s) → Neighbour G order t v

-- no vertex lacks one
abbrev pub AllSided : Graph → List ℕ → Type 0
AllSided G order = (t : Bool) (v : ℕ) → 1 ≤ at order v → v ≢ pole t → Neighbour G order t v

-- the placed vertices are in an order as of an st-numbering
pub record StOrder (G : Graph) (order : List ℕ) : Type 0 where
  pub is_ordered : Ordered order
  pub sided : AllSided G order

-- ---- one more vertex

-- y has got place p, and what had p or a higher place has moved up by one
pub record Inserted (p y : ℕ) (order order' : List ℕ) : Type 0 where
  pub size : length order' ≡ 128
  pub new : at order' y ≡ p
  pub under : (v : ℕ) → v ≢ y → at order v < p → at order' v ≡ at order v
  pub over : (v : ℕ) → v ≢ y → p ≤ at order v → at order' v ≡ suc (at order v)

-- one vertex moves up, or stays
module _ (p : ℕ) (l : List ℕ) (k : ℕ) where
  raise_over : p ≤ at l k → raise p l k ≡ set l k (suc (at l k))
  unfolding raise
  raise_over h = rw (le-leb p (at l k) h) refl

  raise_under : at l k < p → raise p l k ≡ l
  unfolding raise
  raise_under h = rw (lt-leb p (at l k) h) refl

  pub raise_size : length (raise p l k) ≡ length l
  raise_size = by_cases (dec_le p (at l k)) (λ h. ap length (raise_over h) ∙ length-set l k (suc (at l k))) (λ h. ap length (raise_under (omega arith)))

  raise_other : (v : ℕ) → v ≢ k → at (raise p l k) v ≡ at l v
  raise_other v n =
      by_cases (dec_le p (at l k))
      (λ h. ap (λ x. at x v) (raise_over h) ∙ get_or-set_other l k v (suc (at l k)) 0 n)
      (λ h. ap (λ x. at x v) (raise_under (omega arith)))

-- the first k vertices move up, or stay
module _ (p : ℕ) (order : List ℕ) where
  pub raised_size : (k : ℕ) → length (raised p k order) ≡ length order
  unfolding raised
  raised_size zero = refl
  raised_size (suc k) = raise_size p (raised p k order) k ∙ raised_size k

  -- from k on nothing moved
  pub raised_later : (k v : ℕ) → k ≤ v → at (raised p k order) v ≡ at order v
  unfolding raised
  raised_later zero v h = refl
  raised_later (suc k) v h = raise_other p (raised p k order) k v (omega arith) ∙ raised_later k v (omega arith)

  -- what is below place p stays
  raised_under : (k v : ℕ) → at order v < p → at (raised p k order) v ≡ at order v
  unfolding raised
  raised_under zero v h = refl
  raised_under (suc k) v h = go (ℕ_discrete v k) (raised_under k v h)
    where
      go : Dec (v ≡ k) → at (raised p k order) v ≡ at order v → at (raise p (raised p k order) k) v ≡ at order v
      go (yes e) ih = ap (λ x. at x v) (raise_under p (raised p k order) k (omega (arith, ap (at (raised p k order)) e))) ∙ ih
      go (no n) ih = raise_other p (raised p k order) k v n ∙ ih

  -- what is not moves up
  raised_over : (k v : ℕ) → k ≤ length order → v < k → p ≤ at order v → at (raised p k order) v ≡ suc (at order v)
  unfolding raised
  raised_over zero v l h o = absurd (omega arith)
  raised_over (suc k) v l h o = go (ℕ_discrete v k) (λ m. raised_over k v (omega arith) m o)
    where
      was : at (raised p k order) k ≡ at order k
      was = raised_later k k (omega arith)

      go : Dec (v ≡ k) → (v < k → at (raised p k order) v ≡ suc (at order v)) → at (raise p (raised p k order) k) v ≡ suc (at order v)
      go (yes e) ih =
          rw e
          (ap (λ x. at x k) (raise_over p (raised p k order) k (omega (arith, was, ap (at order) e)))
          ∙ get_or-set_same (raised p k order) k (suc (at (raised p k order) k)) 0 (omega (arith, raised_size k))
          ∙ ap suc was)
      go (no n) ih = raise_other p (raised p k order) k v n ∙ ih (omega arith)

-- so it is done by `insert_at`
pub inserted : (p y : ℕ) (order : List ℕ) → length order ≡ 128 → y < 128 → 1 ≤ p → Inserted p y order (insert_at p y order)
unfolding insert_at
inserted p y order size h some = record {
  size = length-set (raised p 128 order) y p ∙ raised_size p order 128 ∙ size;
  new = get_or-set_same (raised p 128 order) y p 0 (omega (arith, raised_size p order 128));
  under = λ v n l. get_or-set_other (raised p 128 order) y v p 0 n ∙ raised_under p order 128 v l;
  over = λ v n l. get_or-set_other (raised p 128 order) y v p 0 n ∙ raised_over p order 128 v (omega arith) (inside v l) l;
}
  where
    inside : (v : ℕ) → p ≤ at order v → v < 128
    inside v l = by_cases (dec_le 128 v) (λ q. absurd (omega (arith, get_or-eq_default order 0 {n = v} (omega arith)))) (λ q. omega arith)

module _ {p y : ℕ} {order order' : List ℕ} (I : Inserted p y order order') where
  -- a vertex that was placed keeps its place or moves up by one
  data Moved (v : ℕ) : Type 0 where
    under : at order v < p → at order' v ≡ at order v → Moved v
    over : p ≤ at order v → at order' v ≡ suc (at order v) → Moved v

  moved : (v : ℕ) → v ≢ y → Moved v
  moved v n = by_cases (dec_le p (at order v)) (λ l. over l (I.over v n l)) (λ l. under (omega arith) (I.under v n (omega arith)))

  module _ (y_free : at order y ≡ 0) (some : 1 ≤ p) where
    -- a placed vertex is not the new one
    pub was_other : {v : ℕ} → 1 ≤ at order v → v ≢ y
    was_other {v} h e = let z : at order v ≡ at order y = ap (at order) e in omega arith

    -- and it stays placed
    pub keeps : (v : ℕ) → 1 ≤ at order v → 1 ≤ at order' v
    keeps v h = go (moved v (was_other h))
      where
        go : Moved v → 1 ≤ at order' v
        go (under l e) = omega arith
        go (over l e) = omega arith

    -- what is placed is the new vertex or was placed
    pub was : (v : ℕ) → v ≢ y → 1 ≤ at order' v → 1 ≤ at order v
    was v n h = go (moved v n)
      where
        go : Moved v → 1 ≤ at order v
        go (under l e) = omega arith
        go (over l e) = omega arith

    -- the order of those that were placed stays
    rises : (v w : ℕ) → 1 ≤ at order v → 1 ≤ at order w → at order v < at order w → at order' v < at order' w
    rises v w h k l = go (moved v (was_other h)) (moved w (was_other k))
      where
        go : Moved v → Moved w → at order' v < at order' w
        go (under a e) (under b f) = omega arith
        go (under a e) (over b f) = omega arith
        go (over a e) (under b f) = omega arith
        go (over a e) (over b f) = omega arith

    less_kept : (t : Bool) (v w : ℕ) → 1 ≤ at order v → 1 ≤ at order w → Less t (at order v) (at order w) → Less t (at order' v) (at order' w)
    less_kept true v w h k l = rises v w h k l
    less_kept false v w h k l = rises w v k h l

    -- and neighbours stay neighbours on their sides
    pub neighbour_kept : {G : Graph} {t : Bool} {v : ℕ} → 1 ≤ at order v → Neighbour G order t v → Neighbour G order' t v
    neighbour_kept {G} {t} {v} h b = record {
      vertex = b.vertex;
      link = b.link;
      placed = keeps b.vertex b.placed;
      side = less_kept t b.vertex v b.placed h b.side;
    }

    -- a place between those of vertices 0 and 1 keeps the order in order
    pub ordered : Ordered order → 2 ≤ p → p ≤ at order 1 → Ordered order'
    ordered O low high = record {
      size = I.size;
      first = first_kept (moved 0 (was_other (omega (arith, O.first))));
      second = omega (arith, above);
      last = λ v. by_cases (ℕ_discrete v y) (λ e. omega (arith, ap (at order') e, I.new, above)) (λ n. last_kept v (moved v n));
      distinct = λ v w h e. apart_kept v w h e;
    }
      where
        above : at order' 1 ≡ suc (at order 1)
        above = I.over 1 (was_other (omega (arith, O.second))) high

        first_kept : Moved 0 → at order' 0 ≡ 1
        first_kept (under l e) = omega (arith, O.first)
        first_kept (over l e) = absurd (omega (arith, O.first))

        last_kept : (v : ℕ) → Moved v → at order' v ≤ at order' 1
        last_kept v (under l e) = omega (arith, O.last v, above)
        last_kept v (over l e) = omega (arith, O.last v, above)

        new_apart : (v : ℕ) → Moved v → at order' v ≢ p
        new_apart v (under l e) q = omega arith
        new_apart v (over l e) q = omega arith

        same_kept : (v w : ℕ) → v ≢ y → 1 ≤ at order' v → at order' v ≡ at order' w → Moved v → Moved w → v ≡ w
        same_kept v w n h q (under a e) (under b f) = O.distinct v w (was v n h) (omega arith)
        same_kept v w n h q (under a e) (over b f) = absurd (omega arith)
        same_kept v w n h q (over a e) (under b f) = absurd (omega arith)
        same_kept v w n h q (over a e) (over b f) = O.distinct v w (was v n h) (omega arith)

        apart_kept : (v w : ℕ) → 1 ≤ at order' v → at order' v ≡ at order' w → v ≡ w
        apart_kept v w h q =
            by_cases (ℕ_discrete v y)
            (λ e. by_cases (ℕ_discrete w y) (λ f. omega arith) (λ f. absurd (new_apart w (moved w f) (omega (arith, ap (at order') e, I.new)))))
            (λ e. by_cases (ℕ_discrete w y) (λ f. absurd (new_apart v (moved v e) (omega (arith, ap (at order') f, I.new)))) (λ f. same_kept v w e h q (moved v e) (moved w f)))

-- ---- how many vertices are free

abbrev pub is_free : List ℕ → ℕ → Bool
is_free order v = not (is_placed order v)

-- where no placed vertex is lost and y comes, fewer are left
pub fewer : (n y : ℕ) (order order' : List ℕ) → y < n → at order y ≡ 0 → 1 ≤ at order' y → ((v : ℕ) → 1 ≤ at order v → 1 ≤ at order' v)
    → count (is_free order') n < count (is_free order) n
fewer n y order order' h o p kept = omega (arith, onto_count (λ v. v) (without (is_free order) y) n (is_free order') n onto, count_without (is_free order) n y h (free_passes order y o))
  where
    onto : Onto (λ v. v) (without (is_free order) y) n (is_free order') n
    onto v l t =
        let z = free_at order' v t in
        let other : v ≢ y = λ e. (let q = ap (at order') e in omega arith) in
        let was_free : at order v ≡ 0 = by_cases (ℕ_discrete (at order v) 0) (λ e. e) (λ e. absurd (omega (arith, kept v (omega arith)))) in
        (v, l, without_other (is_free order) other ∙ free_passes order v was_free, refl)

-- where no placed vertex is lost, no more are left
pub not_more : (n : ℕ) (order order' : List ℕ) → ((v : ℕ) → 1 ≤ at order v → 1 ≤ at order' v) → count (is_free order') n ≤ count (is_free order) n
not_more n order order' kept = onto_count (λ v. v) (is_free order) n (is_free order') n onto
  where
    onto : Onto (λ v. v) (is_free order) n (is_free order') n
    onto v l t =
        let z = free_at order' v t in
        let was_free : at order v ≡ 0 = by_cases (ℕ_discrete (at order v) 0) (λ e. e) (λ e. absurd (omega (arith, kept v (omega arith)))) in
        (v, l, free_passes order v was_free, refl)
