-- Rows of a sound sheet.
use Rattle.std.proofs.Common.{refl, ℕ, suc, ◌<◌, arith}
use Rattle.counting.specs.Paths.{Path}
use Rattle.counting.specs.Paths.Path.{more}
use Rattle.counting.proofs.Paths.{rank_path, short, reached}
use Rattle.clauses.specs.declared.Sheet.{Sheet}
use Rattle.sheet.specs.Darts.{tail, head}
use Rattle.sheet.specs.Sound.{Leads, Sound}
use Rattle.sheet.specs.Levels.{Row}
use Rattle.sheet.specs.Check.{row_levels, row}
use Rattle.soundness.specs.Laws.{Rows}
use Rattle.soundness.proofs.Levels.{level_longest}
use Rattle.soundness.proofs.Law.{rows_within, listed, unlisted}

module _ {s : Sheet} (S : Sound s) where
  from_below : (u v : ℕ) → Leads s u v → u < s.vertices
  from_below u v t = rw t.from at (S.joins t.edge t.edge_in).tail_in

  -- every bar but 0 has an incoming wire, so all are reached from bar 0
  all_reached : (v : ℕ) → v < s.vertices → (k : ℕ) × Path (Leads s) 0 v k
  all_reached = reached s.vertices from_below 0
      (λ v h n. let (k, l, e) = S.poles.other_sources v h n in (tail s k, record { edge = k; edge_in = l; from = refl; to = e })) S.acyclic

  row_longest : (v : ℕ) → v < s.vertices → Row s v (row s v)
  unfolding row_levels
  row_longest = level_longest (Leads s) s.vertices s.edges s.tails s.heads
      (rows_within s S.limits S.joins) (listed s) (unlisted s) S.acyclic 0 all_reached

  row_rises : (u v : ℕ) → Leads s u v → row s u < row s v
  row_rises u v t =
      let h = rw t.to at (S.joins t.edge t.edge_in).head_in in
      (row_longest v h).most (suc (row s u)) (more (row_longest u (from_below u v t)).path t)

pub row_law : {s : Sheet} → Sound s → Rows s
row_law {s} S = record {
  longest = row_longest S;
  rises = λ k h. row_rises S (tail s k) (head s k) (record { edge = k; edge_in = h; from = refl; to = refl });
  first = omega (arith, rank_path (row s) (row_rises S) (row_longest S 0 (omega (arith, S.limits.vertices_least))).path);
  fewer = λ v h. short s.vertices (from_below S) S.acyclic h (row_longest S v h).path;
}
