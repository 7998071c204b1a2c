-- `is_free` meets its contract: where a row is not free of contact, the drawing isn't. Assumes nothing.
use Rattle.std.proofs.Common.{◌≡◌, refl, rules, arith}
use Rattle.contact.specs.Free.{row_of, high_of}
use Rattle.contact.proofs.Sweeping.{unswept, swept_all}
use Rattle.contact.proofs.sweep.is_free.Goals as goal

pub invariant_of-rows : goal.invariant_of-rows
invariant_of-rows c = record {
  vertices_linked = c.by-vertices_at.ensures (row_of c.args.d.now) (λ v r h p. search rules);
  edges_linked = c.by-edges_at.ensures (high_of c.args.d.now) (λ k r h p. search rules);
}

pub loop-row-init : goal.loop-row-init
loop-row-init c = unswept _ _ _ c.unmarked.result c.unmarked.ensures.kept c.unmarked.ensures.none

pub returns : goal.returns
returns c =
    let all : c.loop-row.row ≡ c.args.d.now.rows = omega (arith, c.from-row-end.ensures) in
    (λ _. swept_all _ _ _ c.requires.formed (rw all at c.loop-row.invariant), λ _. refl)
