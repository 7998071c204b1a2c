-- Soundness test by test; and what load refuses after the last line.
use Rattle.std.proofs.Common.{◌≡◌, true, []}
use Rattle.clauses.specs.declared.Sheet.{Sheet}
use Rattle.sheet.specs.Check.{within_limits, joined, in_rings, unused_zero, rooted, acyclic, poles, planar, sound, judge_by}
use Rattle.soundness.specs.Laws.{Lined, JudgeLaw}
use Rattle.soundness.proofs.Tests.{Says, reworded, and_says, itself}
use Rattle.answers.proofs.Refusals.{accepts_none, accepts}

-- the single tests
pub record Passed (s : Sheet) : Type 0 where
  pub lined : Lined s
  pub root : rooted s ≡ true
  pub no_circle : acyclic s ≡ true
  pub bars : poles s ≡ true
  pub two : planar s ≡ true

module _ (s : Sheet) where
  -- a sound sheet passes each of them
  pub passed_says : Says (sound s) (Passed s)
  unfolding sound
  passed_says =
      reworded
      (and_says (and_says (and_says (and_says (and_says (and_says (and_says
      (itself (within_limits s)) (itself (joined s))) (itself (in_rings s))) (itself (unused_zero s))) (itself (rooted s))) (itself (acyclic s))) (itself (poles s))) (itself (planar s)))
      (λ (((((((l, j), r), u), o), a), p), e). record { lined = record { limits = l; joins = j; rings = r; unused = u }; root = o; no_circle = a; bars = p; two = e })
      (λ x. (((((((x.lined.limits, x.lined.joins), x.lined.rings), x.lined.unused), x.root), x.no_circle), x.bars), x.two))

pub judge_law : JudgeLaw
unfolding judge_by
judge_law circle bars s x = (
  λ e.
      let (o, f) = (accepts _ (rooted s) _).0 e in
      let (a, g) = (accepts _ (acyclic s) _).0 f in
      let (p, h) = (accepts _ (poles s) _).0 g in
      let (t, _) = (accepts _ (planar s) _).0 h in
      (passed_says s).1 (record { lined = x; root = o; no_circle = a; bars = p; two = t }),
  λ t.
      let y = (passed_says s).0 t in
      (accepts _ (rooted s) _).1 (
        y.root,
        (accepts _ (acyclic s) _).1 (
          y.no_circle,
          (accepts _ (poles s) _).1 (y.bars, (accepts _ (planar s) []).1 (y.two, accepts_none)),
        ),
      ),
)
