-- What the test of rings says. Assumes nothing.
use Rattle.std.proofs.Common.{◌≡◌, refl, sym, ◌∙◌, ap, Bool, true, false, ℕ, suc, ◌+◌, ◌*◌, ◌≤◌, ◌<◌, mul-suc, mul_comm, arith, get_or}
use Rattle.counting.specs.Orbits.{Perm, iter, Reach}
use Rattle.counting.proofs.Iterate.{iter_add, iter_period}
use Rattle.orbits.specs.Tables.{traced}
use Rattle.orbits.specs.Meaning.{Numbering}
use Rattle.orbits.proofs.Numbering.{traced_law}
use Rattle.orbits.proofs.Distinct.{permutation_law}
use Rattle.clauses.specs.declared.Sheet.{Sheet}
use Rattle.sheet.specs.Darts.{darts, vertex, next}
use Rattle.sheet.specs.Sound.{Joins, Ring}
use Rattle.sheet.specs.Check.{in_rings}
use Rattle.soundness.proofs.Tests.{Says, eq_says, reworded, and_says, implies_says, all_says}
use Rattle.sheet.proofs.Darts.{dart, by_dart, dart_vertex}

-- the rings of all vertices, in one
pub record Rotation (s : Sheet) : Type 0 where
  pub perm : Perm (darts s) (next s)
  pub keeps : (d : ℕ) → d < darts s → vertex s (next s d) ≡ vertex s d
  pub ring : (d e : ℕ) → d < darts s → e < darts s → vertex s d ≡ vertex s e → Reach (next s) d e

-- two numbers that step to x, and are reached from it, are one
back_one : (φ : ℕ → ℕ) (d e x : ℕ) → φ d ≡ x → φ e ≡ x → Reach φ x d → Reach φ x e → d ≡ e
back_one φ d e x p q (i, f) (j, g) =
    let around : iter φ (i + j * suc i) x ≡ d = iter_add φ i (j * suc i) x ∙ ap (iter φ i) (iter_period φ (suc i) x (ap φ f ∙ p) j) ∙ f in
    let again : iter φ (j + i * suc j) x ≡ e = iter_add φ j (i * suc j) x ∙ ap (iter φ j) (iter_period φ (suc j) x (ap φ g ∙ q) i) ∙ g in
    let same : i + j * suc i ≡ j + i * suc j = omega (arith, mul-suc j i, mul-suc i j, mul_comm i j) in
    sym around ∙ ap (λ n. iter φ n x) same ∙ again

module _ (s : Sheet) where
  pub rotation_law : s.edges ≤ 256 → Says (in_rings s) (Rotation s)
  unfolding in_rings
  rotation_law m =
      reworded
      (and_says (permutation_law (darts s) s.nexts) (all_says (darts s) (λ d _.
      and_says (eq_says (vertex s (next s d)) (vertex s d)) (all_says (darts s) (λ e _.
      implies_says (eq_says (vertex s d) (vertex s e)) (eq_says (orbit d) (orbit e)))))))
      (λ w. record { perm = w.0.1; keeps = λ d h. (w.1 d h).0; ring = λ d e h k q. ((numbering w.0.1).same d e h k).0 ((w.1 d h).1 e k q) })
      (λ r. ((omega arith, r.perm), λ d h. (r.keeps d h, λ e k q. ((numbering r.perm).same d e h k).1 (r.ring d e h k q))))
    where
      orbit : ℕ → ℕ
      orbit d = get_or (traced (darts s) (next s)).orbit d 0

      numbering : Perm (darts s) (next s) → Numbering (darts s) (next s) (traced (darts s) (next s))
      numbering P = traced_law (darts s) (next s) (omega arith) P

  pub rotation_rings : Rotation s → (v : ℕ) → Ring s v
  rotation_rings r v = record {
    inside = λ d h _. r.perm.below d h;
    stays = λ d h e. r.keeps d h ∙ e;
    one = λ d e h k p q. r.ring d e h k (p ∙ sym q);
  }

  module _ (joins : (k : ℕ) → k < s.edges → Joins s k) where
    pub vertex_below : (d : ℕ) → d < darts s → vertex s d < s.vertices
    vertex_below = by_dart s (λ d. vertex s d < s.vertices) below
      where
        below : (b : Bool) (k : ℕ) → k < s.edges → vertex s (dart b k) < s.vertices
        below true k h = rw (dart_vertex s true k) (joins k h).tail_in
        below false k h = rw (dart_vertex s false k) (joins k h).head_in

    pub rings_rotation : ((v : ℕ) → v < s.vertices → Ring s v) → Rotation s
    rings_rotation rings = record {
      perm = record { below = λ d h. (at d h).inside d h refl; one_one = one_one };
      keeps = λ d h. (at d h).stays d h refl;
      ring = λ d e h k q. (at d h).one d e h k refl (sym q);
    }
      where
        at : (d : ℕ) → d < darts s → Ring s (vertex s d)
        at d h = rings (vertex s d) (vertex_below d h)

        -- a dart is reached from the next one
        back : (d : ℕ) → d < darts s → Reach (next s) (next s d) d
        back d h = (at d h).one (next s d) d ((at d h).inside d h refl) h ((at d h).stays d h refl) refl

        one_one : (d e : ℕ) → d < darts s → e < darts s → next s d ≡ next s e → d ≡ e
        one_one d e h k q = back_one (next s) d e (next s d) refl (sym q) (back d h) (rw q (back e k))

    pub rings_law : s.edges ≤ 256 → Says (in_rings s) ((v : ℕ) → v < s.vertices → Ring s v)
    rings_law m = reworded (rotation_law m) (λ r v _. rotation_rings r v) rings_rotation
