-- One column is marked, or one block; and no mark at first. Assumes nothing.
use Rattle.std.proofs.Common.{◌≡◌, sym, ap, ◌≢◌, ◌⊎◌, inl, inr, true, false, ℕ, ◌+◌, ◌*◌, ◌/◌, ◌≤◌, ◌<◌, arith, get_or, set, length, replicate}
use Rattle.std.proofs.Math.Logic.{by_cases}
use Rattle.std.proofs.Math.Decide.{ℕ_discrete}
use Rattle.std.proofs.lemmas.Grind.{common_steps}
use Rattle.counting.proofs.Stores.{replicate_at}
use Rattle.contact.specs.declared.columns.Columns.{Columns}
use Rattle.contact.specs.Columns.{mark_at, Kept, Covered}

-- a column that has the mark is in the part
taken : {mark first past : ℕ} {c : Columns} → Kept c mark → (x : ℕ) → first ≤ x → x < past → mark_at c x ≡ mark → Covered mark first past false c c
taken K x l r e = grind (arith, common_steps)

module _ {c : Columns} {mark : ℕ} (K : Kept c mark) where
  pub block_taken : 1 ≤ mark → (b : ℕ) → b < 32 → (get_or c.greatest b 0 ≡ mark) ⊎ (get_or c.blocks b 0 ≡ mark) → Covered mark (32 * b) (32 * b + 32) false c c
  unfolding mark_at
  block_taken some b h (inl e) =
      let (x, q, p) = K.reached b h (omega arith) in
      taken K x (omega arith) (omega arith) (omega (arith, K.blocks (x / 32)))
  block_taken some b h (inr e) =
      let q : (32 * b) / 32 ≡ b = omega arith in
      taken K (32 * b) (omega arith) (omega arith) (omega (arith, K.cells (32 * b), ap (λ i. get_or c.blocks i 0) q))

  pub column_marked : (x : ℕ) → x < length c.cells → x / 32 < length c.greatest → mark_at c x ≢ mark
      → Covered mark x (x + 1) true c (record { cells = set c.cells x mark; blocks = c.blocks; greatest = set c.greatest (x / 32) mark })
  unfolding mark_at
  column_marked x in_cells in_greatest free = record {
    kept = record {
      cells = λ y. grind (arith, common_steps, K.cells y);
      blocks = K.blocks;
      greatest = λ b. grind (arith, common_steps, K.greatest b);
      above = λ y. grind (arith, common_steps, K.cells y, K.above y);
      reached = λ b h g. by_cases (ℕ_discrete b (x / 32))
          (λ e. (x, sym e, grind (arith, common_steps)))
          (λ n. let (y, q, r) = K.reached b h (grind (arith, common_steps)) in (y, q, grind (arith, common_steps)));
    };
    free = grind (arith, common_steps);
    marked = λ _ y. grind (arith, common_steps, K.blocks (y / 32));
  }

  pub block_marked : (b : ℕ) → b < length c.blocks → get_or c.greatest b 0 ≢ mark → get_or c.blocks b 0 ≢ mark
      → Covered mark (32 * b) (32 * b + 32) true c (record { cells = c.cells; blocks = set c.blocks b mark; greatest = c.greatest })
  unfolding mark_at
  block_marked b in_blocks not_greatest not_block = record {
    kept = grind (arith, common_steps);
    free = grind (arith, common_steps, K.above, K.greatest);
    marked = λ _ y. grind (arith, common_steps, K.cells y);
  }

pub unmarked_kept : Kept (record { cells = replicate 1024 0; blocks = replicate 32 0; greatest = replicate 32 0 }) 0
unmarked_kept = record {
  cells = λ x. omega (arith, replicate_at {A = ℕ} 0 1024 x);
  blocks = λ b. omega (arith, replicate_at {A = ℕ} 0 32 b);
  greatest = λ b. omega (arith, replicate_at {A = ℕ} 0 32 b);
  above = λ x. omega (arith, replicate_at {A = ℕ} 0 1024 x);
  reached = λ b h g. absurd (omega (arith, replicate_at {A = ℕ} 0 32 b));
}

pub unmarked_none : (x : ℕ) → mark_at (record { cells = replicate 1024 0; blocks = replicate 32 0; greatest = replicate 32 0 }) x ≡ 0
unfolding mark_at
unmarked_none x = omega (arith, replicate_at {A = ℕ} 0 1024 x, replicate_at {A = ℕ} 0 32 (x / 32))
