-- `sheet::faced` meets its contract. Assumes nothing.
use Rattle.std.proofs.Common.{arith, rules}
use Rattle.clauses.specs.Inner.{walk_of}
use Rattle.sheet.proofs.Clauses.{few_orbits, walked}
use Rattle.sheet.proofs.faced.Goals as goal

pub overflow_add-s : goal.overflow_add-s
overflow_add-s c =
    let p = c.requires in
    omega (arith, few_orbits _ _ _ (c.trace-traced.ensures (walk_of c.args.s.now.nexts) (λ d x h e. walked _ _ _ c.walks-walk.ensures d x h (search rules))))
