-- What a sink leaves of a buffer, and its laws: a text, and one after it.
use Rattle.std.specs.Prelude.{ℕ, suc, ◌+◌, ◌≡◌, List, [], ◌∷◌, ◌++◌, length, refl}
use Rattle.std.proofs.Common.{sym, ap, ◌∙◌, add-zero, add_assoc}
use Rattle.std.proofs.Math.Nat.{suc-add, add-suc}
use Rattle.std.proofs.Math.ListN.{set}
use Rattle.std.proofs.Math.Seq.{sets, length-sets}
use Rattle.std.proofs.lemmas.List.{length-append}
use Rattle.buffer.specs.declared.Writer.{Writer}

-- The buffer `out₁` and the place `at₁` when a text is put into the buffer `out` from the place `at` on.
pub record Put (out : List ℕ) (at : ℕ) (text out₁ : List ℕ) (at₁ : ℕ) : Type 0 where
  pub place : at₁ ≡ at + length text
  pub makes : out₁ ≡ sets out at text

-- the second writer is the first with a text more
abbrev pub Puts : Writer → List ℕ → Writer → Type 0
Puts w text v = Put w.out.now w.filled text v.out.now v.filled × (v.out.ghost_name ≡ w.out.ghost_name)

-- A count of bytes when a text is counted.
pub record Counted (at : ℕ) (text : List ℕ) (at₁ : ℕ) : Type 0 where
  pub place : at₁ ≡ at + length text

length_after : (at : ℕ) (xs ys : List ℕ) → at + length xs + length ys ≡ at + length (xs ++ ys)
length_after at xs ys = add_assoc at (length xs) (length ys) ∙ ap (λ (n : ℕ). at + n) (sym (length-append xs ys))

sets_append : (xs ys out : List ℕ) (at : ℕ) → sets out at (xs ++ ys) ≡ sets (sets out at xs) (at + length xs) ys
sets_append [] ys out at = ap (λ (n : ℕ). sets out n ys) (sym (add-zero at))
sets_append (x ∷ xs) ys out at =
    sets_append xs ys (set out at x) (suc at)
    ∙ ap (λ (n : ℕ). sets (sets (set out at x) (suc at) xs) n ys) (suc-add at (length xs) ∙ sym (add-suc at (length xs)))

pub put_nothing : (out : List ℕ) (at : ℕ) → Put out at [] out at
put_nothing out at = record { place = sym (add-zero at); makes = refl }

pub put_joined : {out out₁ out₂ xs ys : List ℕ} {at at₁ at₂ : ℕ} → Put out at xs out₁ at₁ → Put out₁ at₁ ys out₂ at₂ → Put out at (xs ++ ys) out₂ at₂
put_joined {out} {out₁} {out₂} {xs} {ys} {at} {at₁} p q = record {
  place = q.place ∙ ap (λ (n : ℕ). n + length ys) p.place ∙ length_after at xs ys;
  makes = q.makes ∙ ap (λ (o : List ℕ). sets o at₁ ys) p.makes ∙ ap (λ (n : ℕ). sets (sets out at xs) n ys) p.place ∙ sym (sets_append xs ys out at);
}

pub put_size : {out out₁ text : List ℕ} {at at₁ : ℕ} → Put out at text out₁ at₁ → length out₁ ≡ length out
put_size {out} {out₁} {text} {at} p = ap length p.makes ∙ length-sets out at text

pub counted_nothing : (at : ℕ) → Counted at [] at
counted_nothing at = record { place = sym (add-zero at) }

pub counted_joined : {xs ys : List ℕ} {at at₁ at₂ : ℕ} → Counted at xs at₁ → Counted at₁ ys at₂ → Counted at (xs ++ ys) at₂
counted_joined {xs} {ys} {at} p q = record { place = q.place ∙ ap (λ (n : ℕ). n + length ys) p.place ∙ length_after at xs ys }
