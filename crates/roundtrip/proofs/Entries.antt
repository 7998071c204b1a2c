-- Lists that are filled from the front. Assumes nothing.
use Rattle.std.proofs.Common.{◌≡◌, sym, ◌∙◌, List, ℕ, ◌+◌, ◌≤◌, ◌<◌, arith, get_or, length, set, replicate, length-set, get_or-set_same, get_or-set_other, ext_get_or}
use Rattle.std.proofs.Math.Logic.{by_cases}
use Rattle.std.proofs.Math.Decide.{ℕ_discrete, dec_lt}
use Rattle.std.proofs.Math.ListN.{length-replicate}
use Rattle.counting.proofs.Stores.{replicate_at}

abbrev pub zeros : ℕ → List ℕ
zeros n = replicate n 0

-- the entries below k are those of the whole list, the others 0
pub record Filled (whole : List ℕ) (k : ℕ) (part : List ℕ) : Type 0 where
  pub sized : length part ≡ length whole
  pub front : (i : ℕ) → i < k → get_or part i 0 ≡ get_or whole i 0
  pub rest : (i : ℕ) → k ≤ i → get_or part i 0 ≡ 0

module _ {whole : List ℕ} where
  pub filled_none : {n : ℕ} → length whole ≡ n → Filled whole 0 (zeros n)
  filled_none {n} e = record { sized = length-replicate n 0 ∙ sym e; front = λ i h. absurd (omega arith); rest = λ i h. replicate_at 0 n i }

  pub filled_more : {k : ℕ} {part : List ℕ} → k < length whole → Filled whole k part → Filled whole (k + 1) (set part k (get_or whole k 0))
  filled_more {k} {part} l F = record {
    sized = length-set part k _ ∙ F.sized;
    front = λ i h. by_cases (ℕ_discrete i k)
        (λ e. rw e (get_or-set_same part k (get_or whole k 0) 0 (omega (arith, F.sized))))
        (λ n. get_or-set_other part k i (get_or whole k 0) 0 n ∙ F.front i (omega arith));
    rest = λ i h. get_or-set_other part k i (get_or whole k 0) 0 (omega arith) ∙ F.rest i (omega arith);
  }

  -- the entries past those are 0 in the whole list too
  pub filled_all : {k : ℕ} {part : List ℕ} → ((i : ℕ) → k ≤ i → get_or whole i 0 ≡ 0) → Filled whole k part → part ≡ whole
  filled_all {k} {part} z F = ext_get_or 0 part whole F.sized (λ i _. by_cases (dec_lt i k) (F.front i) (λ l. F.rest i (omega arith) ∙ sym (z i (omega arith))))
