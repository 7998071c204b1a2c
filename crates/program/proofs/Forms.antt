-- The form of an input is told by its third line. Assumes nothing.
use Rattle.std.proofs.Common.{ℕ, zero, suc, ◌≡◌, refl, sym, ap, ap₂, ◌∙◌, ◌≢◌, Bool, true, List, [], ◌∷◌, ◌++◌, arith, eqb-true, eq-eqb, ne_eqb}
use Rattle.std.proofs.Math.Decide.{ℕ_discrete}
use Rattle.std.proofs.lemmas.Bool.{false≢true, and_parts}
use Rattle.counting.proofs.Iterate.{by_bool}
use Rattle.text.specs.Keys.{link_key}
use Rattle.text.specs.Reading.{starts_with}
use Rattle.edit.specs.Lines.{line_length}
use Rattle.load.specs.declared.Form.TheVariants.{Directed, Undirected}
use Rattle.program.specs.Program.{after_line, input_form}
use Rattle.program.specs.Laws.{OneLine, ThirdLineLinks, FormLaw}

-- ---- the first line of a text

-- the text has a byte 10, and what follows the first of them; or none, and nothing follows
data Split (text : List ℕ) : Type 0 where
  line : (first rest : List ℕ) → OneLine first → text ≡ first ++ 10 ∷ rest → after_line text ≡ rest → Split text
  none : after_line text ≡ [] → Split text

one_more : (b : ℕ) (text : List ℕ) → b ≢ 10 → OneLine text → OneLine (b ∷ text)
one_more b text n o zero h = n
one_more b text n o (suc i) h = o i (omega arith)

split : (text : List ℕ) → Split text
unfolding line_length
split [] = none refl
split (b ∷ text) = go (ℕ_discrete b 10) (split text)
  where
    go : Dec (b ≡ 10) → Split text → Split (b ∷ text)
    go (yes e) s = line [] text (λ i h. absurd (omega arith)) (rw e refl) (rw (eq-eqb b 10 e) refl)
    go (no n) (line first rest o e q) = line (b ∷ first) rest (one_more b first n o) (rw e refl) (rw (ne_eqb b 10 n) q)
    go (no n) (none q) = none (rw (ne_eqb b 10 n) q)

-- what follows the first line end
pub after_first : (first rest : List ℕ) → OneLine first → after_line (first ++ 10 ∷ rest) ≡ rest
unfolding line_length
after_first [] rest o = refl
after_first (b ∷ first) rest o = rw (ne_eqb b 10 (o 0 (omega arith))) (after_first first rest (λ i h. o (suc i) (omega arith)))

-- ---- a key at the front

key_back : (key rest : List ℕ) → starts_with key (key ++ rest) ≡ true
unfolding starts_with
key_back [] rest = refl
key_back (k ∷ key) rest = rw (eq-eqb k k refl) (key_back key rest)

key_only : (key text : List ℕ) → starts_with key text ≡ true → (rest : List ℕ) × (text ≡ key ++ rest)
unfolding starts_with
key_only [] text t = (text, refl)
key_only (k ∷ key) [] t = absurd (false≢true t)
key_only (k ∷ key) (b ∷ text) t =
    let (e, f) = and_parts _ _ t in
    let (rest, q) = key_only key text f in
    (rest, ap₂ {C = List ℕ} ◌∷◌ (eqb-true b k e) q)

-- ---- the third line

-- it begins with the key
links_there : (input : List ℕ) → starts_with link_key (after_line (after_line input)) ≡ true → ThirdLineLinks input
unfolding starts_with line_length
links_there input t = go (split input) (split (after_line input))
  where
    nothing : {A : Type 0} → after_line (after_line input) ≡ [] → A
    nothing e = absurd (false≢true (ap (starts_with link_key) (sym e) ∙ t))

    go : Split input → Split (after_line input) → ThirdLineLinks input
    go s (none e) = nothing e
    go (none e) (line second rest o q r) = nothing (ap after_line e)
    go (line first onward p e f) (line second rest o q r) =
        let (end, k) = key_only link_key rest (ap (starts_with link_key) (sym r) ∙ t) in
        record { first = first; second = second; rest = end; first_line = p; second_line = o; whole = e ∙ ap (λ x. first ++ 10 ∷ x) (sym f ∙ q ∙ ap (λ x. second ++ 10 ∷ x) k) }

pub form_law : FormLaw
unfolding input_form
form_law input = (to, from)
  where
    test : Bool
    test = starts_with link_key (after_line (after_line input))

    to : input_form input ≡ Undirected → ThirdLineLinks input
    to e = by_bool test (links_there input) (λ f. let q : Directed ≡ Undirected = rw f at e in cc)

    from : ThirdLineLinks input → input_form input ≡ Undirected
    from T =
        let third : after_line (after_line input) ≡ link_key ++ T.rest = ap (λ x. after_line (after_line x)) T.whole ∙ ap after_line (after_first T.first _ T.first_line) ∙ after_first T.second _ T.second_line in
        rw (ap (starts_with link_key) third ∙ key_back link_key T.rest) refl
