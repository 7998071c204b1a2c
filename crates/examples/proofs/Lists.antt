-- A test over a table says the same of each entry. Assumes nothing.
use Rattle.std.proofs.Common.{ℕ, zero, suc, ◌<◌, ◌≡◌, refl, ap₂, subst, true, List, [], ◌∷◌, arith, length, get_or, eqb-true, ◌&&◌}
use Rattle.std.proofs.lemmas.Bool.{and_parts, false≢true}
use Rattle.clauses.specs.declared.Sheet.{Sheet}
use Rattle.sheet.specs.Sound.{Faces}
use Rattle.sheet.specs.Check.{face, face_count}
use Rattle.sheet.specs.Inner.{structured}
use Rattle.sheet.specs.Fresh.{fresh_sheet}
use Rattle.soundness.proofs.Clauses.{limits_law, joined_law}
use Rattle.soundness.proofs.Rings.{rings_law, rings_rotation}
use Rattle.soundness.proofs.Faces.{faces_numbered}
use Rattle.sheet.proofs.Darts.{same_parts}
use Rattle.program.specs.Program.{input_form, plate_output}
use Rattle.examples.specs.Described.{described}
use Rattle.examples.specs.Plates.{Remark, Plate, same, same_sheet, as_remarked, all_printed}
use Rattle.examples.specs.Plates.Remark.{none, fresh, faces}
use Rattle.examples.specs.Printed.{Remarked, Agrees}

-- texts that pass the test are equal
same_equal : (xs ys : List ℕ) → same xs ys ≡ true → xs ≡ ys
unfolding same
same_equal [] [] e = refl
same_equal [] (y ∷ ys) e = absurd (false≢true e)
same_equal (x ∷ xs) [] e = absurd (false≢true e)
same_equal (x ∷ xs) (y ∷ ys) e = let (p, q) = and_parts _ _ e in ap₂ {C = List ℕ} ◌∷◌ (eqb-true x y p) (same_equal xs ys q)

-- so are sheets
sheet_equal : (s t : Sheet) → same_sheet s t ≡ true → s ≡ t
unfolding same_sheet
sheet_equal s t e =
    let (four, ns) = and_parts _ _ e in
    let (three, hs) = and_parts _ _ four in
    let (two, ts) = and_parts _ _ three in
    let (n, m) = and_parts _ _ two in
    same_parts (eqb-true _ _ n) (eqb-true _ _ m) (same_equal _ _ ts) (same_equal _ _ hs) (same_equal _ _ ns)

-- the first four clauses of soundness give the faces
faces_counted : (s : Sheet) → structured s ≡ true → Faces s (face s) (face_count s)
unfolding structured
faces_counted s e =
    let (three, _) = and_parts _ _ e in
    let (two, rings) = and_parts _ _ three in
    let (l, j) = and_parts _ _ two in
    let limits = (limits_law s).0 l in
    let joins = (joined_law s).0 j in
    faces_numbered s limits.edges_most (rings_rotation s joins ((rings_law s joins limits.edges_most).0 rings))

remarked_of : (r : Remark) (s : Sheet) → as_remarked r s ≡ true → Remarked r s
unfolding as_remarked
remarked_of none s e = tt
remarked_of fresh s e = sheet_equal s fresh_sheet e
remarked_of (faces f) s e = let (o, n) = and_parts _ _ e in (face s, subst (Faces s (face s)) (eqb-true (face_count s) f n) (faces_counted s o))

right : (p : Plate) → (same (plate_output p.input) p.output && as_remarked p.sheet (described (input_form p.input) p.input)) ≡ true → Agrees p
right p e =
    let (a, b) = and_parts _ _ e in
    record { printed = same_equal (plate_output p.input) p.output a; remarked = remarked_of p.sheet (described (input_form p.input) p.input) b }

pub each_printed : (ps : List Plate) (z : Plate) → all_printed ps ≡ true → (i : ℕ) → i < length ps → Agrees (get_or ps i z)
unfolding all_printed
each_printed [] z e i h = absurd (omega arith)
each_printed (p ∷ ps) z e zero h = right p (and_parts _ _ e).0
each_printed (p ∷ ps) z e (suc i) h = each_printed ps z (and_parts _ _ e).1 i (omega arith)
