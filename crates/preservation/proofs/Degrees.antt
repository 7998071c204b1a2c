-- The degrees of a vertex; one number that passes a test, or more than one. Assumes nothing.
use Rattle.std.proofs.Common.{ℕ, ◌<◌, ◌≡◌, sym, ◌∙◌, ◌≢◌, Bool, true, cond, arith, eqb}
use Rattle.std.proofs.Math.Logic.{by_cases}
use Rattle.std.proofs.Math.Decide.{ℕ_discrete}
use Rattle.counting.specs.Counts.{count}
use Rattle.counting.specs.Below.{lowest_below}
use Rattle.counting.proofs.Below.{lowest_found}
use Rattle.counting.proofs.Counts.{without, without_other, without_not, without_passes, count_without, count_onto}
use Rattle.clauses.specs.declared.Sheet.{Sheet}
use Rattle.sheet.specs.Darts.{tail, head}

-- the vertex of edge j at its tail, or at its head
abbrev pub end_of : Sheet → Bool → ℕ → ℕ
end_of s b j = cond b (tail s j) (head s j)

-- how many edges have their tail, or their head, at the vertex v
abbrev pub degree : Sheet → Bool → ℕ → ℕ
degree s b v = count (λ j. eqb (end_of s b j) v) s.edges

module _ (p : ℕ → Bool) (n : ℕ) where
  -- one passes, and the count is not 1: another passes
  pub another : (d : ℕ) → d < n → p d ≡ true → count p n ≢ 1 → (j : ℕ) × (j < n) × (j ≢ d) × (p j ≡ true)
  another d h t o =
      let more = count_without p n d h t in
      let (j, g, q, e) = count_onto (without p d) 0 n (omega arith) in
      (j, g, without_not p d j q, without_passes p d j q)

  -- the count is 1: no two pass
  pub only_one : count p n ≡ 1 → (d e : ℕ) → d < n → e < n → p d ≡ true → p e ≡ true → d ≡ e
  only_one o d e h k t u = by_cases (ℕ_discrete d e) (λ q. q) (λ q.
      absurd (omega (arith, count_without p n d h t, count_without (without p d) n e k (without_other p (λ r. q (sym r)) ∙ u))))

-- the count is 1: the lowest passes
pub lowest_passes : (p : ℕ → Bool) (n : ℕ) → count p n ≡ 1 → (lowest_below p n < n) × (p (lowest_below p n) ≡ true)
lowest_passes p n o =
    let (d, h, t, _) = count_onto p 0 n (omega arith) in
    let (below, passes, _) = lowest_found p n d h t in
    (below, passes)
