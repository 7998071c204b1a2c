-- An output in a lent buffer that has room for the longest one. Assumes nothing.
use Rattle.std.proofs.Common.{Result, Ok, Err, ℕ, ◌≤◌, ◌<◌, ◌≡◌, refl, sym, ap, ◌∙◌, List, zero-add, arith, lt-ltb, le-ltb, length, take, length-take-le, take_all}
use Rattle.std.specs.Counts.{IsPrefixLen}
use Rattle.std.proofs.Math.Seq.{sets-eq, take-append-le}
use Rattle.buffer.specs.Sinks.{Put}
use Rattle.answers.specs.declared.Refusal.{Refusal}
use Rattle.answers.specs.declared.Refusal.TheVariants.{BufferTooShort}
use Rattle.answers.specs.Refusals.{first, answering}
use Rattle.writesheet.specs.Write.{written, buffer_after}
use Rattle.program.specs.Program.{room_answer}

module _ (longest : ℕ) (output buffer : List ℕ) where
  -- the answer w to a call that left `out` of the buffer
  abbrev pub Answered : Result ℕ Refusal → List ℕ → Type 0
  Answered w out = (w ≡ written (room_answer longest buffer) output) × (out ≡ buffer_after (room_answer longest buffer) output buffer)

  pub short_buffer : length buffer < longest → Answered (Err BufferTooShort) buffer
  unfolding room_answer buffer_after first answering
  short_buffer h = rw (lt-ltb (length buffer) longest h) (refl, refl)

  module _ (h : longest ≤ length buffer) (most : length output ≤ longest) where
    -- where a writer has put the output at the front of the buffer, and left it so
    pub output_put : {count : ℕ} {out : List ℕ} → Put buffer 0 output out count → (after : List ℕ) → after ≡ out → Answered (Ok count) after
    unfolding room_answer buffer_after first answering
    output_put p after q =
        rw (le-ltb (length buffer) longest h)
        (ap Ok (p.place ∙ zero-add (length output)), q ∙ p.makes ∙ sets-eq output buffer 0 (omega arith) ∙ rw zero-add refl)

    -- all of the output is written, and it is what stands in front
    module _ (w : Result ℕ Refusal) (out : List ℕ) (a : Answered w out) where
      pub output_fits : w ≡ Ok (length output)
      unfolding room_answer first answering
      output_fits = a.0 ∙ rw (le-ltb (length buffer) longest h) refl

      output_count : (count : ℕ) → w ≡ Ok count → count ≡ length output
      output_count count q = let z = output_fits in cc

      pub output_in_front : (count : ℕ) → w ≡ Ok count → take count out ≡ output
      unfolding room_answer buffer_after first answering
      output_in_front count q =
          rw (output_count count q, a.1, le-ltb (length buffer) longest h)
          (take-append-le _ output _ (omega arith) ∙ take_all _ output (omega arith))

      pub output_within : (count : ℕ) → w ≡ Ok count → length out ≡ length buffer → IsPrefixLen count out
      output_within count q same =
          let fits : count ≤ length out = omega (arith, output_count count q) in
          (fits, sym (length-take-le _ _ fits))
