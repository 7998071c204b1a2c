-- `sheet::is_bounded` meets its contract. Clause by clause, in order. Assumes nothing.
use Rattle.std.proofs.Common.{refl, sym, ◌∙◌}
use Rattle.sheet.proofs.Clauses.{bounded_is, limits_most}
use Rattle.sheet.proofs.is_bounded.Goals as goal
use Rattle.sheet.proofs.is_bounded.Goals.{then-within_limits, else-within_limits}

pub all_join-requires : goal.all_join-requires
all_join-requires c = (limits_most _ _ (sym c.within_limits.ensures ∙ c.if-within_limits.true)).1

pub unused_zero-requires : goal.unused_zero-requires
unused_zero-requires c = elim c.if-within_limits.branch [
  | then-within_limits w ↦ (limits_most _ _ (sym c.within_limits.ensures ∙ w.if-within_limits.true)).1
  | else-within_limits w ↦ cc (w.value-is, c.if-all_join.true)
]

pub returns-then-all_join : goal.returns-then-all_join
returns-then-all_join c = elim c.if-within_limits.branch [
  | then-within_limits w ↦
      rw (bounded_is, sym c.within_limits.ensures ∙ w.if-within_limits.true, sym w.all_join.ensures ∙ sym w.value-is ∙ c.if-all_join.true) c.unused_zero.ensures
  | else-within_limits w ↦ cc (w.value-is, c.if-all_join.true)
]

pub returns-else-all_join : goal.returns-else-all_join
returns-else-all_join c = elim c.if-within_limits.branch [
  | then-within_limits w ↦
      c.if-all_join.false ∙ sym (rw (bounded_is, sym c.within_limits.ensures ∙ w.if-within_limits.true, sym w.all_join.ensures ∙ sym w.value-is ∙ c.if-all_join.false) refl)
  | else-within_limits w ↦ w.value-is ∙ w.if-within_limits.false ∙ sym (rw (bounded_is, sym c.within_limits.ensures ∙ w.if-within_limits.false) refl)
]
