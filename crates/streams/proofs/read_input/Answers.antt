use Rattle.std.proofs.Common.{rules, ◌≡◌, ◌≤◌, ◌+◌, ◌++◌, ℕ, List, length, take, sym, ap, ◌∙◌, subst, le_refl, drop_at, length-take-le, take-add}
use Rattle.std.proofs.lemmas.Slice.{take-put_mid_below}
use Rattle.std.specs.Io.KnownBytes.{Consumes}
use Rattle.std.proofs.KnownBytes.{Consumes-trans}
use borrow.Rule.Slice.PartMut.{put_mid, post_of}
use Rattle.std.proofs.Math.Seq.{take-append-le}
use Rattle.streams.proofs.read_input.Goals as goal

-- n bytes that were read behind the first `at`
read_behind : (at k n : ℕ) (old part : List ℕ) → at ≤ length old → n ≤ length part → take at old ++ take n part ≡ take (at + n) (put_mid at k old part)
read_behind at k n old part within fits =
    let after = post_of at k old in
    let new = put_mid at k old part in
    let front : take at old ≡ take at new = sym (take-put_mid_below _ _ _ _ _ (le_refl _) within) in
    let behind : take n (lib.ListN.drop at new) ≡ take n part = ap (take n) (drop_at (take at old) (part ++ after) at (length-take-le at old within)) ∙ take-append-le n part after fits in
    ap (λ l. l ++ take n part) front ∙ ap (λ l. take at new ++ l) (sym behind) ∙ sym (take-add at n new)

pub loop-at-preserved : goal.loop-at-preserved
loop-at-preserved g c =
    let within = c.loop-at.invariant.0 in
    (search rules, subst (Consumes _ _) (read_behind _ _ _ _ _ within c.in_ok-more.ensures.bound.0) (Consumes-trans _ _ _ _ _ c.loop-at.invariant.1 c.in_ok-more.ensures.bytes.0))
