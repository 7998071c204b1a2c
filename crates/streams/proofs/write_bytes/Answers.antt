use Rattle.std.proofs.Common.{rules, ◌≡◌, ◌+◌, ◌-◌, ◌++◌, ℕ, List, length, take, drop, sym, ap, ◌∙◌, subst, take-add}
use Rattle.std.proofs.lemmas.List.{take_rest}
use Rattle.std.specs.Io.KnownBytes.{Appends}
use Rattle.std.proofs.KnownBytes.{Appends-nil, Appends-trans, Appends-kept}
use Rattle.streams.proofs.write_bytes.Goals as goal

-- n bytes that were written behind the first `done`
written_behind : (done n : ℕ) (bytes : List ℕ) → take done bytes ++ take n (take (length bytes - done) (drop done bytes)) ≡ take (done + n) bytes
written_behind done n bytes = ap (λ l. take done bytes ++ take n l) (take_rest bytes done) ∙ sym (take-add done n bytes)

pub loop-done-init : goal.loop-done-init
loop-done-init g c = (search rules, Appends-nil _)

pub loop-done-preserved : goal.loop-done-preserved
loop-done-preserved g c =
    (search rules, subst (Appends _ _) (written_behind _ _ _) (Appends-trans _ _ _ _ _ c.loop-done.invariant.1 c.in-Ok.ensures.bytes))

pub returns-in-Err-clause-written : goal.returns-in-Err-clause-written
returns-in-Err-clause-written g c = Appends-kept _ _ _ _ c.loop-done.invariant.1 c.in-Err.ensures.bytes
