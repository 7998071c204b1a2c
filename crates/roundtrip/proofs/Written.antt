-- What write sheet leaves in its buffer loads as the sheet that was written; so does, written out, what the load of links gave. Assumes nothing.
use Rattle.std.proofs.Common.{Ok, Err, ◌≡◌, refl, ap, ◌∙◌, List, ℕ, length, drop}
use Rattle.answers.specs.Answers.{Answer}
use Rattle.answers.specs.Refusals.{answering}
use Rattle.sheet.specs.Check.{sound}
use Rattle.answers.proofs.Refusals.{accepts}
use Rattle.soundness.proofs.Law.{sound_law}
use Rattle.writesheet.specs.Write.{sheet_text, write_answer, written, buffer_after}
use Rattle.load.specs.declared.Form.TheVariants.{Undirected}
use Rattle.roundtrip.specs.Laws.{LinksRoundTrip, WrittenLoads}
use Rattle.roundtrip.proofs.Loaded.{loaded_sound}
use Rattle.roundtrip.proofs.RoundTrip.{round_trip}

-- where a writer's answer is a count, it accepts, and the count is the text's length
pub answered : (a : Answer) (text : List ℕ) (count : ℕ) → written a text ≡ Ok count → (a ≡ Ok tt) × (length text ≡ count)
unfolding answering
answered (Ok u) text count e = (refl, cc e)
answered (Err r) text count e = cc e

pub written_loads : WrittenLoads
unfolding buffer_after write_answer
written_loads s z buffer count e =
    let (accepted, n) = answered (write_answer s (sheet_text s) buffer) (sheet_text s) count e in
    let (t, _) = (accepts _ (sound s) _).0 accepted in
    rw accepted (round_trip s z ((sound_law s z).0 t) (drop (length (sheet_text s)) buffer) ∙ ap (λ k. Ok (record { sheet = s; taken = k })) n)

pub links_round_trip : LinksRoundTrip
links_round_trip text l e rest = let (z, S) = loaded_sound Undirected text l e in round_trip l.sheet z S rest
