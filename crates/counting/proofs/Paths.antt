-- Directed paths: joined, cut, decided; a long path holds a circle; where there is no circle, longest paths exist. Assumes nothing.
use Rattle.std.proofs.Common.{◌≡◌, refl, sym, ◌∙◌, subst, ◌≢◌, ℕ, zero, suc, ◌+◌, ◌-◌, ◌≤◌, ◌<◌, add-zero, add-suc, arith}
use Rattle.std.proofs.Math.Logic.{by_cases}
use Rattle.std.proofs.Math.Decide.{ℕ_discrete, dec_lt}
use Rattle.counting.specs.Paths.{Path, Circle, Longest}
use Rattle.counting.specs.Paths.Path.{here, more}
use Rattle.counting.proofs.Pigeonhole.{Found, find, pigeonhole, Apart}
use Rattle.counting.proofs.Pigeonhole.Found.{at, nowhere}

-- f takes one value twice
pub record Twice (f : ℕ → ℕ) (n : ℕ) : Type 0 where
  pub first : ℕ
  pub second : ℕ
  pub apart : first < second
  pub inside : second ≤ n
  pub same : f first ≡ f second

pub twice : (n : ℕ) (f : ℕ → ℕ) → ((i : ℕ) → i ≤ n → f i < n) → Twice f n
twice n f h = go (find Again again? (suc n))
  where
    Again : ℕ → Type 0
    Again j = (i : ℕ) × (i < j) × (f i ≡ f j)

    again? : (j : ℕ) → Dec (Again j)
    again? j = one (find (λ i. f i ≡ f j) (λ i. ℕ_discrete (f i) (f j)) j)
      where
        one : Found (λ i. f i ≡ f j) j → Dec (Again j)
        one (at i l e _) = yes (i, l, e)
        one (nowhere g) = no (λ a. g a.0 a.1 a.2)

    go : Found Again (suc n) → Twice f n
    go (at j l (i, b, e) _) = record { first = i; second = j; apart = b; inside = omega arith; same = e }
    go (nowhere g) =
        absurd
        (let b = pigeonhole (suc n) n (λ i x. f i ≡ x) (λ i l. (f i, h i (omega arith), refl)) one_one in
        omega arith)
      where
        one_one : Apart (λ i x. f i ≡ x) (suc n)
        one_one i j x l b p q =
            by_cases (dec_lt i j)
            (λ z. absurd (g j b (i, z, p ∙ sym q)))
            (λ y. by_cases (dec_lt j i) (λ z. absurd (g i l (j, z, q ∙ sym p))) (λ z. omega arith))

-- a path over another relation
pub carry : {S T : ℕ → ℕ → Type 0} → ((u v : ℕ) → S u v → T u v) → {a v k : ℕ} → Path S a v k → Path T a v k
carry f here = here
carry f (more {b} {v} p s) = more (carry f p) (f b v s)

module _ {Step : ℕ → ℕ → Type 0} where
  pub append : {a b v j k : ℕ} → Path Step a b j → Path Step b v k → Path Step a v (j + k)
  append {j} p here = rw (add-zero j) p
  append p (more q s) = rw add-suc (more (append p q) s)

  -- one edge more in front
  pub before : {a b v k : ℕ} → Step a b → Path Step b v k → Path Step a v (suc k)
  before s here = more here s
  before s (more p t) = more (before s p) t

  -- the vertex i edges before the path's end
  pub back : {a v k : ℕ} → Path Step a v k → ℕ → ℕ
  back {a} here i = a
  back {v} (more p s) zero = v
  back (more p s) (suc i) = back p i

  -- a path's last d edges
  pub ending : {a v k : ℕ} (p : Path Step a v k) (d : ℕ) → d ≤ k → Path Step (back p d) v d
  unfolding back
  ending here zero l = here
  ending here (suc d) l = absurd (omega arith)
  ending (more p s) zero l = here
  ending (more p s) (suc d) l = more (ending p d (omega arith)) s

  -- the part between two of its vertices
  pub between : {a v k : ℕ} (p : Path Step a v k) (i j d : ℕ) → d + i ≡ j → j ≤ k → Path Step (back p j) (back p i) d
  unfolding back
  between here i j d e l = let z : d ≡ 0 = omega arith in rw z here
  between {v} (more p s) zero j d e l =
      let z : d ≡ j = omega arith in
      subst (λ (m : ℕ). Path Step (back (more p s) m) v d) z (ending (more p s) d (omega arith))
  between (more p s) (suc i) zero d e l = absurd (omega arith)
  between (more p s) (suc i) (suc j) d e l = between p i j d (omega arith) (omega arith)

  unmoved : {a v : ℕ} → Path Step a v 0 → a ≡ v
  unmoved here = refl

  last_step : {a v k : ℕ} → Path Step a v (suc k) → (u : ℕ) × Path Step a u k × Step u v
  last_step (more {b} p s) = (b, p, s)

  -- a vertex that a path visits twice lies on a circle
  pub meets : {a v k : ℕ} (p : Path Step a v k) (i j : ℕ) → i < j → j ≤ k → back p i ≡ back p j → Circle Step
  meets p i j b l e = record { at = back p i; edges = j - suc i; round = rw (← e) at (between p i j (suc (j - suc i)) (omega arith) l) }

  -- where there is no circle, a path visits no vertex twice
  pub visits_once : ¬ Circle Step → {a v k : ℕ} (p : Path Step a v k) (i j : ℕ) → i < j → j ≤ k → back p i ≢ back p j
  visits_once f p i j b l e = f (meets p i j b l e)

  -- a rank that rises along each step forbids a circle
  module _ (rank : ℕ → ℕ) (rises : (u v : ℕ) → Step u v → rank u < rank v) where
    pub rank_path : {a v k : ℕ} → Path Step a v k → rank a + k ≤ rank v
    rank_path here = omega arith
    rank_path (more {b} {v} p s) = omega (arith, rank_path p, rises b v s)

    pub no_circle : ¬ Circle Step
    no_circle c = omega (arith, rank_path c.round)

  pub longest_unique : {a v j k : ℕ} → Longest Step a v j → Longest Step a v k → j ≡ k
  longest_unique {j} {k} x y = omega (arith, x.most k y.path, y.most j x.path)

  -- steps start below n
  module _ (n : ℕ) (below : (u v : ℕ) → Step u v → u < n) where
    pub back_below : {a v k : ℕ} (p : Path Step a v k) → v < n → (i : ℕ) → i ≤ k → back p i < n
    unfolding back
    back_below here h i l = h
    back_below (more p s) h zero l = h
    back_below (more {b} {v} p s) h (suc i) l = back_below p (below b v s) i (omega arith)

    pub start_below : {a v k : ℕ} → Path Step a v k → v < n → a < n
    start_below here h = h
    start_below (more {b} {v} p s) h = start_below p (below b v s)

    -- a path of n edges or more holds a circle
    pub circle : {a v k : ℕ} → v < n → n ≤ k → Path Step a v k → Circle Step
    circle h l p =
        let t = twice n (back p) (λ i b. back_below p h i (omega arith)) in
        meets p t.first t.second t.apart (omega (arith, t.inside)) t.same

    -- where there is no circle, a path has fewer than n edges
    pub short : ¬ Circle Step → {a v k : ℕ} → v < n → Path Step a v k → k < n
    short f {k} h p = by_cases (dec_lt k n) (λ l. l) (λ l. absurd (f (circle h (omega arith) p)))

    -- where each vertex below n but s has a step to it
    module _ (s : ℕ) (prior : (v : ℕ) → v < n → v ≢ s → (u : ℕ) × Step u v) where
      -- back from v by k edges, or to s
      data Back (v k : ℕ) : Type 0 where
        source : {j : ℕ} → Path Step s v j → Back v k
        further : {a : ℕ} → a < n → Path Step a v k → Back v k

      go_back : (v : ℕ) → v < n → (k : ℕ) → Back v k
      go_back v h zero = further h here
      go_back v h (suc k) = go (go_back v h k)
        where
          go : Back v k → Back v (suc k)
          go (source p) = source p
          go (further {a} b p) =
              elim (ℕ_discrete a s) [
                | yes e ↦ source (rw e at p)
                | no e ↦ let (u, t) = prior a b e in further (below u a t) (before t p)
              ]

      -- and there is no circle: each vertex below n is reached from s
      pub reached : ¬ Circle Step → (v : ℕ) → v < n → (k : ℕ) × Path Step s v k
      reached f v h = go (go_back v h n)
        where
          go : Back v n → (k : ℕ) × Path Step s v k
          go (source {j} p) = (j, p)
          go (further b p) = absurd (f (circle h (omega arith) p))

      -- a path to v that is a longest from anywhere starts at s
      pub from_source : {a v k : ℕ} → v < n → Path Step a v k → ((b j : ℕ) → Path Step b v j → j ≤ k) → Longest Step s v k
      from_source {a} {v} {k} h p m =
          by_cases (ℕ_discrete a s)
          (λ e. record { path = rw e at p; most = m s })
          (λ e. let (u, t) = prior a (start_below p h) e in absurd (omega (arith, m u (suc k) (before t p))))

    -- where steps are decided
    module _ (step? : (u v : ℕ) → Dec (Step u v)) where
      pub path? : (a v k : ℕ) → Dec (Path Step a v k)
      path? a v zero = elim (ℕ_discrete a v) [ yes e ↦ yes (rw e here) | no e ↦ no (λ p. e (unmoved p)) ]
      path? a v (suc k) = go (find (λ u. Path Step a u k × Step u v) (λ u. both (path? a u k) (step? u v)) n)
        where
          both : {u : ℕ} → Dec (Path Step a u k) → Dec (Step u v) → Dec (Path Step a u k × Step u v)
          both (yes p) (yes t) = yes (p, t)
          both (yes p) (no f) = no (λ x. f x.1)
          both (no f) d = no (λ x. f x.0)

          go : Found (λ u. Path Step a u k × Step u v) n → Dec (Path Step a v (suc k))
          go (at u l (p, t) _) = yes (more p t)
          go (nowhere f) = no (λ p. let (u, q, t) = last_step p in f u (below u v t) (q, t))

      -- of the lengths below m, the greatest of a path from a to v
      greatest : (a v m : ℕ) → ((j : ℕ) → Path Step a v j → j < m) → {k : ℕ} → Path Step a v k → (j : ℕ) × Longest Step a v j
      greatest a v zero h {k} p = absurd (omega (arith, h k p))
      greatest a v (suc m) h p =
          elim (path? a v m) [
            | yes q ↦ (m, record { path = q; most = λ j r. omega (arith, h j r) })
            | no f ↦ greatest a v m (λ j r. by_cases (ℕ_discrete j m) (λ e. absurd (f (rw e at r))) (λ e. omega (arith, h j r))) p
          ]

      -- where there is no circle and some path from a to v, there is a longest one
      pub longest : ¬ Circle Step → {a v k : ℕ} → v < n → Path Step a v k → (j : ℕ) × Longest Step a v j
      longest f {a} {v} h p = greatest a v n (λ j q. short f h q) p
