-- Two darts put into the orbits of a permutation, and taken out again: the old ones are the numbers below N, the new ones N and N + 1.
use Rattle.std.specs.Prelude.{◌≡◌, ◌≢◌, ℕ, suc, ◌<◌}

-- φ' is φ with N put in after p, and N + 1 after q
pub record Inserted (N p q : ℕ) (φ φ' : ℕ → ℕ) : Type 0 where
  pub p_below : p < N
  pub q_below : q < N
  pub two : p ≢ q
  pub at_p : φ' p ≡ N
  pub at_x : φ' N ≡ φ p
  pub at_q : φ' q ≡ suc N
  pub at_y : φ' (suc N) ≡ φ q
  pub rest : {d : ℕ} → d < N → d ≢ p → d ≢ q → φ' d ≡ φ d

-- φ is φ' with N and N + 1 taken out
pub record Removed (N : ℕ) (φ φ' : ℕ → ℕ) : Type 0 where
  pub over_x : {d : ℕ} → d < N → φ' d ≡ N → φ d ≡ φ' N
  pub over_y : {d : ℕ} → d < N → φ' d ≡ suc N → φ d ≡ φ' (suc N)
  pub rest : {d : ℕ} → d < N → φ' d < N → φ d ≡ φ' d

-- opposite' is opposite with N and N + 1 for a new pair
pub record Paired (N : ℕ) (opposite opposite' : ℕ → ℕ) : Type 0 where
  pub at_x : opposite' N ≡ suc N
  pub at_y : opposite' (suc N) ≡ N
  pub rest : {d : ℕ} → d < N → opposite' d ≡ opposite d
