-- What the functions behind `replay` compute.
use Rattle.std.specs.Prelude.{ℕ, ◌+◌, ◌*◌, cond, List, [], ◌∷◌, leb, length, set}
use Rattle.demand.specs.Calls.{Outcome}
use Rattle.replay.specs.declared.Reply.{Reply}

abbrev pub reply_of : Outcome → Reply
reply_of o = record { number = o.number; sheet = o.sheet; taken = o.taken }

-- two numbers as pair i of a list, if it has one
unfoldable pub pair_put : ℕ → ℕ → ℕ → List ℕ → List ℕ
pair_put i x y l = cond (leb (2 * i + 2) (length l)) (set (set l (2 * i) x) (2 * i + 1) y) l

-- the answers from pair i on
unfoldable pub answers_from : ℕ → List Outcome → List ℕ → List ℕ
answers_from i [] l = l
answers_from i (o ∷ os) l = answers_from (i + 1) os (pair_put i o.number o.taken l)
