-- Permutations of the numbers below N, and their orbits.
use Rattle.std.specs.Prelude.{◌≡◌, ℕ, zero, suc, ◌<◌}

-- φ permutes the numbers below N
pub record Perm (N : ℕ) (φ : ℕ → ℕ) : Type 0 where
  pub below : (d : ℕ) → d < N → φ d < N
  pub one_one : (d e : ℕ) → d < N → e < N → φ d ≡ φ e → d ≡ e

-- σ permutes the numbers below N, and τ undoes it
pub record Bijection (N : ℕ) (σ τ : ℕ → ℕ) : Type 0 where
  pub to_below : (d : ℕ) → d < N → σ d < N
  pub from_below : (d : ℕ) → d < N → τ d < N
  pub from_to : (d : ℕ) → d < N → τ (σ d) ≡ d
  pub to_from : (d : ℕ) → d < N → σ (τ d) ≡ d

-- φ, i times
abbrev pub iter : (ℕ → ℕ) → ℕ → ℕ → ℕ
iter φ zero d = d
iter φ (suc i) d = φ (iter φ i d)

-- e is reached from d by steps of φ
abbrev pub Reach : (ℕ → ℕ) → ℕ → ℕ → Type 0
Reach φ d e = (i : ℕ) × (iter φ i d ≡ e)

-- `label` numbers the orbits of φ from 0 to count - 1
pub record Orbits (N : ℕ) (φ label : ℕ → ℕ) (count : ℕ) : Type 0 where
  pub inside : (d : ℕ) → d < N → label d < count
  pub step : (d : ℕ) → d < N → label (φ d) ≡ label d
  pub joins : (d e : ℕ) → d < N → e < N → label d ≡ label e → Reach φ d e
  pub used : (c : ℕ) → c < count → (d : ℕ) × (d < N) × (label d ≡ c)
