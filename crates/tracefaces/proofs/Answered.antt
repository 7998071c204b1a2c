-- Trace faces answers as laid down, and the table has the faces that columns are found from. Assumes nothing.
use Rattle.std.proofs.Common.{◌≡◌, refl, sym, subst, true, false, List, ℕ, ◌+◌, ◌-◌, arith, Ok, Err}
use Rattle.counting.proofs.Iterate.{by_bool, clash}
use Rattle.answers.specs.declared.Refusal.TheVariants.{NotSound}
use Rattle.answers.specs.Refusals.{first, answering}
use Rattle.clauses.specs.declared.Sheet.{Sheet}
use Rattle.orbits.specs.Meaning.{Numbering}
use Rattle.sheet.specs.Sound.{Sound}
use Rattle.sheet.specs.Check.{sound, face_table, face_count}
use Rattle.soundness.proofs.Law.{sound_law, rotation_of}
use Rattle.soundness.proofs.Faces.{walk_numbering, walk_perm, faces_unique}
use Rattle.soundness.proofs.Columns.{column_law}
use Rattle.tracefaces.specs.Table.{accepted, refused, FaceTable}
use Rattle.tracefaces.specs.Call.{trace_faces_answer, trace_faces_call, returned, TraceFacesAnsweredLaw, OneTableLaw, Numbered, NumberedLaw}
use Rattle.sheet.specs.Darts.{darts, walk}
use Rattle.soundness.specs.Laws.{Columns}
use Rattle.tracefaces.proofs.Tables.{traced_table, one_table}

module _ (s : Sheet) where
  pub not_sound : sound s ≡ false → Err NotSound ≡ trace_faces_call s
  unfolding trace_faces_answer first answering
  not_sound t = rw t refl

  pub is_sound : sound s ≡ true → (table : List ℕ) → table ≡ (face_table s).orbit → Ok table ≡ trace_faces_call s
  unfolding trace_faces_answer first answering
  is_sound t table e = rw (t, e) refl

module _ {s : Sheet} (S : Sound s) where
  numbering : Numbering (darts s) (walk s) (face_table s)
  numbering = walk_numbering s S.limits.edges_most (walk_perm s S.limits.edges_most (rotation_of S))

  pub sound_table : FaceTable s (face_table s).orbit
  sound_table = traced_table s (walk_perm s S.limits.edges_most (rotation_of S)) numbering

pub trace_faces_answered : TraceFacesAnsweredLaw
unfolding returned
trace_faces_answered s z = by_bool (sound s)
    (λ t. let S = (sound_law s z).0 t in rw (sym (is_sound s t _ refl)) (accepted S (sound_table S)))
    (λ t. rw (sym (not_sound s t)) (refused (λ S. clash ((sound_law s z).1 S) t)))

pub one_table_law : OneTableLaw
one_table_law s table S T = one_table s (walk_perm s S.limits.edges_most (rotation_of S)) (numbering S) T

pub numbered_law : NumberedLaw
numbered_law s table S T = subst (Numbered s) (sym (one_table_law s table S T)) (record {
  faces = rw (← count) C.faces;
  columns = λ c l. C.longest c (omega (arith, count));
})
  where
    C : Columns s
    C = column_law S

    count : face_count s ≡ s.edges + 2 - s.vertices
    count = omega (arith, S.euler.two, faces_unique s S.limits.edges_most (rotation_of S) S.euler.numbered)
