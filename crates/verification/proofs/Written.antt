-- A written sheet that a text follows: `verify` reads it by the first load, and both together are short. Assumes nothing.
use Rattle.std.proofs.Common.{ℕ, zero, suc, ◌≤◌, ◌≡◌, refl, ap, ◌∙◌, true, List, [], ◌∷◌, ◌++◌, append_assoc, arith, cond, eqb, eq-eqb, length, length-append, Ok}
use Rattle.std.proofs.lemmas.Bool.{not-true, and_parts}
use Rattle.counting.specs.Below.{join_below}
use Rattle.counting.proofs.Iterate.{clash}
use Rattle.counting.proofs.Joined.{join_first}
use Rattle.text.specs.Keys.{bars_key, wires_key, wire_key, link_key, around_key}
use Rattle.text.specs.Reading.{starts_with}
use Rattle.text.specs.Written.{separated, line}
use Rattle.layout.proofs.Mixed.{endless, endless_append, endless_separated}
use Rattle.clauses.specs.declared.Sheet.{Sheet}
use Rattle.sheet.specs.Darts.{Sized, tail, head}
use Rattle.sheet.specs.Sound.{Sound}
use Rattle.load.specs.declared.Form.TheVariants.{Directed, Undirected}
use Rattle.writesheet.specs.Rings.{rotation}
use Rattle.writesheet.specs.Write.{sheet_text}
use Rattle.writesheet.proofs.Entries.{sheet_short}
use Rattle.drawing.specs.Write.{drawing_text_of}
use Rattle.roundtrip.proofs.RoundTrip.{round_trip}
use Rattle.program.specs.Program.{after_line, input_form, load_input}
use Rattle.program.specs.Laws.{OneLine}
use Rattle.program.proofs.Bound.{whole_short}
use Rattle.program.proofs.Forms.{after_first}

-- a text with no byte 10
one_line : (l : List ℕ) → endless l ≡ true → OneLine l
unfolding endless
one_line [] e i h = absurd (omega arith)
one_line (b ∷ l) e zero h = λ z. clash (eq-eqb b 10 z) (not-true (eqb b 10) (and_parts _ _ e).0)
one_line (b ∷ l) e (suc i) h = one_line l (and_parts _ _ e).1 i (omega arith)

-- a written line and what follows it
after_written : (key vs rest : List ℕ) → endless key ≡ true → after_line (line key vs ++ rest) ≡ rest
unfolding line
after_written key vs rest e =
    ap after_line (append_assoc (key ++ separated vs) (10 ∷ []) rest)
    ∙ after_first (key ++ separated vs) rest (one_line (key ++ separated vs) (endless_append key (separated vs) e (endless_separated vs)))

-- five texts, joined from the right
five : (a b c d e : List ℕ) → a ++ b ++ c ++ d ++ e ≡ a ++ (b ++ (c ++ (d ++ e)))
five a b c d e = simp append_assoc

module _ (s : Sheet) (S : Sound s) where
  -- its third line begins with `wire=`
  written_directed : (rest : List ℕ) → input_form (sheet_text s ++ rest) ≡ Directed
  unfolding sheet_text input_form starts_with line endless
  written_directed rest =
      let edge : ℕ → List ℕ = λ k. line wire_key (tail s k ∷ head s k ∷ []) in
      let rings = join_below (λ v. line around_key (rotation s v)) s.vertices in
      let (more, e) = join_first edge s.edges (omega (arith, S.limits.edges_least)) in
      let third : after_line (after_line (sheet_text s ++ rest)) ≡ edge 0 ++ more ++ (rings ++ rest) =
      ap (λ l. after_line (after_line l)) (five (line bars_key (s.vertices ∷ [])) (line wires_key (s.edges ∷ [])) (join_below edge s.edges) rings rest)
      ∙ ap after_line (after_written bars_key (s.vertices ∷ []) _ refl)
      ∙ after_written wires_key (s.edges ∷ []) _ refl
      ∙ ap (λ l. l ++ (rings ++ rest)) e in
      ap (λ l. cond (starts_with link_key l) Undirected Directed) third

  pub written_loads : Sized s → (rest : List ℕ) → load_input (sheet_text s ++ rest) ≡ Ok (record { sheet = s; taken = length (sheet_text s) })
  written_loads z rest = rw (written_directed rest) (round_trip s z S rest)

  pub together_short : Sized s → length (sheet_text s ++ drawing_text_of s) ≤ 16384
  together_short z = omega (arith, length-append (sheet_text s) (drawing_text_of s), sheet_short S, whole_short s (S, z))
