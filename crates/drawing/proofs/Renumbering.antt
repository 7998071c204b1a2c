-- Columns do not depend on how the faces are numbered.
use Rattle.std.proofs.Common.{◌≡◌, refl, sym, ◌∙◌, subst, true, ℕ, ◌<◌, arith}
use Rattle.counting.specs.Paths.{Path}
use Rattle.counting.specs.Paths.Path.{here, more}
use Rattle.counting.proofs.Orbits.{kept_joined}
use Rattle.clauses.specs.declared.Sheet.{Sheet}
use Rattle.clauses.specs.Darts.{tail_dart, head_dart}
use Rattle.sheet.specs.Darts.{darts}
use Rattle.sheet.specs.Sound.{Sound, Faces}
use Rattle.sheet.specs.Levels.{FaceLeads, Column}
use Rattle.sheet.specs.Levels.FaceLeads.{across, root}
use Rattle.sheet.proofs.Darts.{dart_below}
use Rattle.soundness.proofs.Faces.{walk_perm}
use Rattle.soundness.proofs.Law.{rotation_of}

module _ {s : Sheet} (S : Sound s) {label label' : ℕ → ℕ} {f f' : ℕ} (o : Faces s label f) (o' : Faces s label' f') where
  -- darts of one face by the first numbering are so by the second
  pub renumbered : (d e : ℕ) → d < darts s → e < darts s → label d ≡ label e → label' d ≡ label' e
  renumbered = kept_joined (walk_perm s S.limits.edges_most (rotation_of S)) o label' o'.step

  path_renumbered : {a c k : ℕ} → Path (FaceLeads s label) a c k → (d e : ℕ) → d < darts s → e < darts s → label d ≡ a → label e ≡ c
      → Path (FaceLeads s label') (label' d) (label' e) k
  path_renumbered here d e h i p q = subst (λ c. Path (FaceLeads s label') (label' d) c 0) (renumbered d e h i (p ∙ sym q)) here
  path_renumbered (more w (across k l n b c)) d e h i p q =
      more (path_renumbered w d (tail_dart k) h (dart_below true l) p b)
      (across k l n refl (renumbered (head_dart k) e (omega arith) i (c ∙ sym q)))
  path_renumbered (more w (root b c)) d e h i p q =
      more (path_renumbered w d (head_dart 0) h (omega (arith, S.limits.edges_least)) p b)
      (root refl (renumbered (tail_dart 0) e (omega (arith, S.limits.edges_least)) i (c ∙ sym q)))

pub column_renumbered : {s : Sheet} (S : Sound s) {label label' : ℕ → ℕ} {f f' : ℕ} → Faces s label f → Faces s label' f'
    → (d : ℕ) → d < darts s → {c : ℕ} → Column s label (label d) c → Column s label' (label' d) c
column_renumbered {s} S o o' d h l =
    let z : head_dart 0 < darts s = omega (arith, S.limits.edges_least) in
    record {
      path = path_renumbered S o o' l.path (head_dart 0) d z h refl refl;
      most = λ j p. l.most j (path_renumbered S o' o p (head_dart 0) d z h refl refl);
    }
