use Rattle.std.proofs.Common.{◌≡◌, refl, ◌∙◌, ap, sym, Bool, List, ℕ, nat_eq, take, length}
use lib.Pointwise.{pointwise}
use Rattle.text.specs.Keys.{link_key}
use Rattle.text.specs.Reading.{starts_with}
use Rattle.text.proofs.Keys.{begins}
use Rattle.program.specs.Program.{after_line, input_form}
use Rattle.program.proofs.input_form.Goals as goal

-- what the code tests of the third line
test_is : (input second third : List ℕ) {b t : Bool} → second ≡ after_line input → third ≡ after_line second → t ≡ pointwise nat_eq link_key (take (length link_key) third) → t ≡ b
    → starts_with link_key (after_line (after_line input)) ≡ b
test_is input second third e f p q = ap (starts_with link_key) (sym (f ∙ ap after_line e)) ∙ sym (begins link_key third) ∙ sym p ∙ q

pub returns-then-starts_with : goal.returns-then-starts_with
unfolding input_form
returns-then-starts_with c = rw (test_is _ _ _ c.after_line.ensures c.after_line-2.ensures c.starts_with.ensures.value c.if-starts_with.true) refl

pub returns-else-starts_with : goal.returns-else-starts_with
unfolding input_form
returns-else-starts_with c = rw (test_is _ _ _ c.after_line.ensures c.after_line-2.ensures c.starts_with.ensures.value c.if-starts_with.false) refl
