-- Read edit answers as laid down, and in no other way. Assumes nothing.
use Rattle.std.proofs.Common.{ℕ, ◌<◌, ◌≡◌, refl, sym, ◌∙◌, ap, ◌≢◌, ◌⊎◌, inl, inr, List, [], ◌∷◌, ◌++◌, arith, get_or, length}
use Rattle.text.specs.Written.{separated}
use Rattle.layout.specs.Layout.{Stands, LastLineAt}
use Rattle.layout.specs.Layout.LastLineAt.{whole, bare}
use Rattle.layout.proofs.Standing.{stands_left}
use Rattle.layout.proofs.Shapes.{last_line_reads, one_shaped, four_shaped, one_none, four_none, one_read, four_read}
use Rattle.answers.specs.Answers.{refusal_number, answer_number}
use Rattle.edit.specs.declared.Edit.{Edit}
use Rattle.edit.specs.declared.Edit.TheVariants.{In, Run, Out, Off, Refused}
use Rattle.edit.specs.Lines.{in_key, run_key, out_key, off_key, edit_of, edit_answer, read_edit}
use Rattle.editlines.specs.Lines.{EditLine, ReadAnswered}
use Rattle.editlines.specs.Lines.EditLine.{in_line, run_line, out_line, off_line}
use Rattle.editlines.specs.Lines.ReadAnswered.{reads, refuses}
use Rattle.editlines.specs.Laws.{ReadAnsweredLaw, ReadOnce}
use Rattle.editlines.proofs.Taken.{length_takes, takes_once}

module _ (text : List ℕ) where
  -- ---- two keys at one place

  key_there : {key vs : List ℕ} {next : ℕ} → LastLineAt key text 0 vs next → Stands text 0 key
  key_there {key} {vs} (whole L) = stands_left key (separated vs) (stands_left (key ++ separated vs) L.end L.same.holds)
  key_there {key} {vs} (bare t over) = stands_left key (separated vs) t.holds

  differ : {key vs other ws : List ℕ} {next after : ℕ} (i : ℕ) → i < length key → i < length other → get_or key i 0 ≢ get_or other i 0 → LastLineAt key text 0 vs next → ¬ LastLineAt other text 0 ws after
  differ i h l n L M = n (sym ((key_there L).each i h) ∙ (key_there M).each i l)

  -- ---- the edit of the line, where it is one

  record NoLine (e : Edit) : Type 0 where
    refused : e ≡ Refused
    none : (e : Edit) → ¬ EditLine text e

  edit_line : EditLine text (edit_of text) ⊎ NoLine (edit_of text)
  unfolding edit_of
  edit_line =
      one_shaped (last_line_reads in_key text 0) Line _ _ (λ no_in.
      four_shaped (last_line_reads run_key text 0) Line _ _ (λ no_run.
      one_shaped (last_line_reads out_key text 0) Line _ _ (λ no_out.
      one_shaped (last_line_reads off_key text 0) Line _ _ (λ no_off. inr (record { refused = refl; none = no_line no_in no_run no_out no_off }))
      (λ v next L. inl (off_line L))) (λ k next L. inl (out_line L))) (λ a p b q next L. inl (run_line L))) (λ k next L. inl (in_line L))
    where
      Line : Edit → Type 0
      Line e = EditLine text e ⊎ NoLine e

      no_line : ((k next : ℕ) → ¬ LastLineAt in_key text 0 (k ∷ []) next) → ((a p b q next : ℕ) → ¬ LastLineAt run_key text 0 (a ∷ p ∷ b ∷ q ∷ []) next)
          → ((k next : ℕ) → ¬ LastLineAt out_key text 0 (k ∷ []) next) → ((v next : ℕ) → ¬ LastLineAt off_key text 0 (v ∷ []) next) → (e : Edit) → ¬ EditLine text e
      no_line f g h i e (in_line L) = f _ _ L
      no_line f g h i e (run_line L) = g _ _ _ _ _ L
      no_line f g h i e (out_line L) = h _ _ L
      no_line f g h i e (off_line L) = i _ _ L

  line_edit : {e : Edit} → EditLine text e → e ≡ edit_of text
  unfolding edit_of
  line_edit (in_line {k} L) = one_read (last_line_reads in_key text 0) (λ x. In k ≡ x) _ _ L refl
  line_edit (run_line {a} {p} {b} {q} L) =
      one_none (last_line_reads in_key text 0) (λ x. Run a p b q ≡ x) _ _ (λ k next. differ 0 (omega arith) (omega arith) (λ z. omega arith) L)
      (four_read (last_line_reads run_key text 0) (λ x. Run a p b q ≡ x) _ _ L refl)
  line_edit (out_line {k} L) =
      one_none (last_line_reads in_key text 0) (λ x. Out k ≡ x) _ _ (λ j next. differ 0 (omega arith) (omega arith) (λ z. omega arith) L)
      (four_none (last_line_reads run_key text 0) (λ x. Out k ≡ x) _ _ (λ a p b q next. differ 0 (omega arith) (omega arith) (λ z. omega arith) L)
      (one_read (last_line_reads out_key text 0) (λ x. Out k ≡ x) _ _ L refl))
  line_edit (off_line {v} L) =
      one_none (last_line_reads in_key text 0) (λ x. Off v ≡ x) _ _ (λ j next. differ 0 (omega arith) (omega arith) (λ z. omega arith) L)
      (four_none (last_line_reads run_key text 0) (λ x. Off v ≡ x) _ _ (λ a p b q next. differ 0 (omega arith) (omega arith) (λ z. omega arith) L)
      (one_none (last_line_reads out_key text 0) (λ x. Off v ≡ x) _ _ (λ j next. differ 1 (omega arith) (omega arith) (λ z. omega arith) L)
      (one_read (last_line_reads off_key text 0) (λ x. Off v ≡ x) _ _ L refl)))

-- an edit is accepted
accepted : {text : List ℕ} {e : Edit} → EditLine text e → answer_number (edit_answer e) ≡ 0
unfolding answer_number
accepted (in_line L) = refl
accepted (run_line L) = refl
accepted (out_line L) = refl
accepted (off_line L) = refl

pub read_answered : ReadAnsweredLaw
unfolding read_edit answer_number refusal_number
read_answered text = go (edit_line text)
  where
    go : EditLine text (edit_of text) ⊎ NoLine text (edit_of text) → ReadAnswered text (answer_number (edit_answer (edit_of text))) (edit_of text) (read_edit text).taken
    go (inl L) = reads L (accepted L) (length_takes text)
    go (inr N) = refuses N.none (ap (λ e. answer_number (edit_answer e)) N.refused) N.refused (length_takes text)

pub read_once : ReadOnce
unfolding read_edit answer_number refusal_number
read_once text number edit taken (reads L z t) =
    let e = line_edit text L in
    (z ∙ sym (accepted L) ∙ ap (λ x. answer_number (edit_answer x)) e, e, takes_once t (length_takes text))
read_once text number edit taken (refuses none z r t) = go (edit_line text)
  where
    go : EditLine text (edit_of text) ⊎ NoLine text (edit_of text) → (number ≡ answer_number (edit_answer (edit_of text))) × (edit ≡ edit_of text) × (taken ≡ (read_edit text).taken)
    go (inl L) = absurd (none _ L)
    go (inr N) = (z ∙ sym (ap (λ e. answer_number (edit_answer e)) N.refused), r ∙ sym N.refused, takes_once t (length_takes text))
