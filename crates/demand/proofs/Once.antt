-- What is laid down for an edit leaves one answer. Assumes nothing.
use Rattle.std.proofs.Common.{◌≡◌, refl, sym, ◌∙◌, List}
use Rattle.std.proofs.Math.Logic.{by_cases}
use Rattle.std.proofs.Math.Decide.{ℕ_discrete}
use Rattle.answers.specs.Clauses.{Clause}
use Rattle.answers.proofs.Clauses.{first_once}
use Rattle.clauses.specs.declared.Sheet.{Sheet}
use Rattle.demand.specs.Calls.{Outcome}
use Rattle.demand.specs.Answered.{EditAnswered}

-- two outcomes that meet it are one
pub edit_once : (refusals : List Clause) (s made : Sheet) (o p : Outcome) → EditAnswered refusals s made o → EditAnswered refusals s made p → o ≡ p
edit_once refusals s made o p x y =
    let n = first_once refusals o.number p.number x.number y.number in
    let sheets : o.sheet ≡ p.sheet = by_cases (ℕ_discrete o.number 0)
    (λ e. x.accepted e ∙ sym (y.accepted (sym n ∙ e)))
    (λ e. x.refused e ∙ sym (y.refused (λ q. e (n ∙ q)))) in
    rw (n, sheets, x.taken, y.taken) refl
