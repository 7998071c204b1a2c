-- `Lists::by` meets its contract, which is its loop's invariant at item 0. Assumes nothing.
use Rattle.std.proofs.Common.{◌≡◌, suc, ◌-◌, arith}
use Rattle.contact.proofs.Linking.{unlinked, linked_more}
use Rattle.contact.proofs.lists.Lists.by.Goals as goal

pub loop-k-init : goal.loop-k-init
loop-k-init g c = λ of p. unlinked _ of c.requires.few

pub loop-k-preserved : goal.loop-k-preserved
loop-k-preserved g c = λ of p.
    let z : c.loop-k.k ≡ suc (c.loop-k.k - 1) = omega arith in
    linked_more (rw z at (c.loop-k.invariant of p)) (omega arith) c.requires.few
    _ (p _ _ (omega arith) c.key-r.ensures) (c.requires.small _ _ (omega arith) c.key-r.ensures)
