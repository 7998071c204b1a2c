-- Check drawing answers as laid down, and accepts exactly what it must. Assumes nothing.
use Rattle.std.proofs.Common.{◌≡◌, refl, subst, ◌↔◌, Bool, true, not, List, [], ◌∷◌, ℕ, Option, Some, None, Ok, Err}
use Rattle.std.proofs.lemmas.Bool.{false≢true, not-false}
use Rattle.counting.proofs.Iterate.{by_bool}
use Rattle.answers.specs.Answers.{Answer, refusal_number}
use Rattle.answers.specs.declared.Refusal.{Refusal}
use Rattle.answers.specs.declared.Refusal.TheVariants.{NotSound, BadDrawing, Contact, OutOfOrder}
use Rattle.answers.specs.Refusals.{first, ◌if◌}
use Rattle.answers.proofs.Clauses.{Agree, first_number}
use Rattle.answers.proofs.Clauses.Agree.{none, then}
use Rattle.clauses.specs.declared.Sheet.{Sheet}
use Rattle.sheet.specs.Darts.{Sized}
use Rattle.sheet.specs.Sound.{Sound}
use Rattle.sheet.specs.Check.{sound}
use Rattle.soundness.proofs.Tests.{Says, not_says, reworded}
use Rattle.soundness.proofs.Law.{sound_law}
use Rattle.drawing.specs.declared.Drawing.{Drawing}
use Rattle.readdrawing.specs.Reading.{drawing_of_text}
use Rattle.readdrawing.specs.Laws.{Shows}
use Rattle.readdrawing.proofs.Exactly.{read_drawing_law}
use Rattle.contact.specs.Tests.{well_formed, is_clear}
use Rattle.contact.specs.Laws.{WellFormed}
use Rattle.contact.proofs.Numbers.{well_formed_law}
use Rattle.contact.proofs.Clear.{clear_law}
use Rattle.ringorder.specs.Order.{in_order}
use Rattle.ringorder.proofs.Law.{in_order_law}
use Rattle.checkdrawing.specs.Answered.{ShowsFormed, ShowsSome, check_drawing_refusals, Accepted}
use Rattle.checkdrawing.specs.Call.{passes, drawing_answer, check_drawing_call}
use Rattle.checkdrawing.specs.Laws.{CheckDrawingAnsweredLaw, AcceptedLaw}

-- two drawings that are there are one
same_some : {o : Option Drawing} {D E : Drawing} → o ≡ Some D → o ≡ Some E → D ≡ E
same_some e f = cc

no_error : {A : Type 0} {r : Refusal} {a : Answer} → a ≡ Ok tt → a ≡ Err r → A
no_error e f = cc

-- what passes a test is a drawing that is there
passes_says : (o : Option Drawing) (test : Drawing → Bool) → Says (passes o test) ((D : Drawing) × (o ≡ Some D) × (test D ≡ true))
unfolding passes
passes_says None test = (λ t. absurd (false≢true t), λ (D, e, t). cc)
passes_says (Some D) test = (λ t. (D, refl, t), λ (E, e, t). subst (λ X. test X ≡ true) (same_some e refl) t)

module _ (s : Sheet) (text : List ℕ) (S : Sound s) where
  abbrev shown : Option Drawing
  shown = drawing_of_text text s.vertices s.edges

  shows_law : (D : Drawing) → shown ≡ Some D ↔ Shows s.vertices s.edges text D
  shows_law = read_drawing_law text s.vertices s.edges S.limits.vertices_most S.limits.edges_most

  formed_law : (D : Drawing) → Says (well_formed s.vertices s.edges D) (WellFormed s.vertices s.edges D)
  formed_law = well_formed_law s.vertices s.edges

  -- the text shows a drawing whose numbers are in order
  formed_says : Says (passes shown (well_formed s.vertices s.edges)) (ShowsSome s text (λ D. Unit {0}))
  formed_says = (
    λ t. let (D, e, f) = (passes_says shown _).0 t in (D, record { shows = (shows_law D).0 e; formed = (formed_law D).0 f }, tt),
    λ (D, F, _). (passes_says shown _).1 (D, (shows_law D).1 F.shows, (formed_law D).1 F.formed),
  )

  -- and of that one a test says what its law says
  module _ {D : Drawing} (F : ShowsFormed s text D) {test : Drawing → Bool} {P : Drawing → Type 0} (law : (E : Drawing) → WellFormed s.vertices s.edges E → Says (test E) (P E)) where
    shown_says : Says (passes shown test) (P D)
    shown_says = (
      λ t. let (E, e, f) = (passes_says shown test).0 t in (law D F.formed).0 (subst (λ X. test X ≡ true) (same_some e ((shows_law D).1 F.shows)) f),
      λ p. (passes_says shown test).1 (D, (shows_law D).1 F.shows, (law D F.formed).1 p),
    )

    fails_says : Says (not (passes shown test)) (ShowsSome s text (λ E. ¬ P E))
    fails_says = reworded (not_says shown_says) (λ n. (D, F, n)) (λ (E, G, n). subst (λ X. ¬ P X) (same_some ((shows_law E).1 G.shows) ((shows_law D).1 F.shows)) n)

-- the tests, and the statements
agree : (s : Sheet) (text : List ℕ) → Sized s → let o = drawing_of_text text s.vertices s.edges in
    Agree (NotSound if not (sound s) ∷ BadDrawing if not (passes o (well_formed s.vertices s.edges)) ∷ Contact if not (passes o (is_clear s)) ∷ OutOfOrder if not (passes o (in_order s)) ∷ [])
    (check_drawing_refusals s text)
unfolding check_drawing_refusals refusal_number
agree s text z =
    then refl (not_says (sound_law s z)) (λ f.
    let S = (sound_law s z).0 (not-false (sound s) f) in
    then refl (not_says (formed_says s text S)) (λ g.
    let (D, F, _) = (formed_says s text S).0 (not-false _ g) in
    then refl (fails_says s text S F (λ E W. clear_law s E S W)) (λ _.
    then refl (fails_says s text S F (λ E W. in_order_law s E S)) (λ _.
    none))))

pub check_drawing_answered : CheckDrawingAnsweredLaw
unfolding drawing_answer
check_drawing_answered s text z = first_number (agree s text z)

-- all four tests are passed
record Passed (s : Sheet) (o : Option Drawing) : Type 0 where
  sound : sound s ≡ true
  formed : passes o (well_formed s.vertices s.edges) ≡ true
  clear : passes o (is_clear s) ≡ true
  ordered : passes o (in_order s) ≡ true

passed_says : (s : Sheet) (o : Option Drawing) → drawing_answer s o ≡ Ok tt ↔ Passed s o
unfolding drawing_answer first
passed_says s o = (
  λ e.
      by_bool (sound s) (λ a.
      by_bool (passes o (well_formed s.vertices s.edges)) (λ b.
      by_bool (passes o (is_clear s)) (λ c.
      by_bool (passes o (in_order s)) (λ d.
      record { sound = a; formed = b; clear = c; ordered = d })
      (λ d. no_error {r = OutOfOrder} e (rw (a, b, c, d) refl)))
      (λ c. no_error {r = Contact} e (rw (a, b, c) refl)))
      (λ b. no_error {r = BadDrawing} e (rw (a, b) refl)))
      (λ a. no_error {r = NotSound} e (rw a refl)),
  λ P. rw (P.sound, P.formed, P.clear, P.ordered) refl,
)

pub accepted_law : AcceptedLaw
accepted_law s text z = (to, from)
  where
    to : check_drawing_call s text ≡ Ok tt → Accepted s text
    to e =
        let P = (passed_says s _).0 e in
        let S = (sound_law s z).0 P.sound in
        let (D, F, _) = (formed_says s text S).0 P.formed in
        record {
          sound = S;
          drawing = D;
          shows = F;
          clear = (shown_says s text S F (λ E W. clear_law s E S W)).0 P.clear;
          ordered = (shown_says s text S F (λ E W. in_order_law s E S)).0 P.ordered;
        }

    from : Accepted s text → check_drawing_call s text ≡ Ok tt
    from A = (passed_says s _).1 (record {
      sound = (sound_law s z).1 A.sound;
      formed = (formed_says s text A.sound).1 (A.drawing, A.shows, tt);
      clear = (shown_says s text A.sound A.shows (λ E W. clear_law s E A.sound W)).1 A.clear;
      ordered = (shown_says s text A.sound A.shows (λ E W. in_order_law s E A.sound)).1 A.ordered;
    })
