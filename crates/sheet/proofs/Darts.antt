-- Darts by kind and edge. Assumes nothing.
use Rattle.std.proofs.Common.{◌≡◌, sym, ◌∙◌, ap, subst, Bool, true, false, not, cond, ℕ, ◌*◌, ◌/◌, ◌%◌, ◌<◌, arith, eqb-true, eq-eqb, ne_eqb, List, refl}
use Rattle.std.proofs.Math.Bool.{not-not}
use Rattle.std.proofs.lemmas.Bool.{eqb-false}
use Rattle.counting.proofs.Iterate.{by_bool}
use Rattle.clauses.specs.declared.Sheet.{Sheet}
use Rattle.clauses.specs.Darts.{tail_dart, head_dart, is_tail, opposite}
use Rattle.sheet.specs.Darts.{tail, head, darts, vertex, sheet_of}

-- the dart of edge k at its tail, or at its head
abbrev pub dart : Bool → ℕ → ℕ
dart true k = tail_dart k
dart false k = head_dart k

pub dart_kind : (b : Bool) (k : ℕ) → is_tail (dart b k) ≡ b
dart_kind true k = eq-eqb (tail_dart k % 2) 0 (omega arith)
dart_kind false k = ne_eqb (head_dart k % 2) 0 (omega arith)

pub dart_edge : (b : Bool) (k : ℕ) → dart b k / 2 ≡ k
dart_edge true k = omega arith
dart_edge false k = omega arith

pub dart_below : {m : ℕ} (b : Bool) {k : ℕ} → k < m → dart b k < 2 * m
dart_below true h = omega arith
dart_below false h = omega arith

-- every dart is one
pub dart_is : (d : ℕ) → dart (is_tail d) (d / 2) ≡ d
dart_is d = by_bool (is_tail d) (λ t. rw t (omega (arith, eqb-true (d % 2) 0 t))) (λ t. rw t (omega (arith, eqb-false (d % 2) 0 t)))

pub edge_below : (s : Sheet) {d : ℕ} → d < darts s → d / 2 < s.edges
edge_below s h = omega arith

-- so what holds of the darts of each edge holds of all
pub each_dart : (P : ℕ → Type 0) → ((b : Bool) (k : ℕ) → P (dart b k)) → (d : ℕ) → P d
each_dart P f d = subst P (dart_is d) (f (is_tail d) (d / 2))

pub by_dart : (s : Sheet) (P : ℕ → Type 0) → ((b : Bool) (k : ℕ) → k < s.edges → P (dart b k)) → (d : ℕ) → d < darts s → P d
by_dart s P f d h = subst P (dart_is d) (f (is_tail d) (d / 2) (edge_below s h))

pub dart_opposite : (b : Bool) (k : ℕ) → opposite (dart b k) ≡ dart (not b) k
unfolding opposite
dart_opposite true k = rw (dart_kind true k)
dart_opposite false k = rw (dart_kind false k) (omega arith)

pub dart_vertex : (s : Sheet) (b : Bool) (k : ℕ) → vertex s (dart b k) ≡ cond b (tail s k) (head s k)
unfolding vertex
dart_vertex s b k = rw (dart_kind b k, dart_edge b k)

pub opposite_below : (s : Sheet) (d : ℕ) → d < darts s → opposite d < darts s
opposite_below s = by_dart s (λ d. opposite d < darts s) (λ b k h. rw (dart_opposite b k) (dart_below (not b) h))

pub opposite_opposite : (d : ℕ) → opposite (opposite d) ≡ d
opposite_opposite = each_dart (λ d. opposite (opposite d) ≡ d)
    (λ b k. ap opposite (dart_opposite b k) ∙ dart_opposite (not b) k ∙ ap (λ x. dart x k) (not-not b))

pub opposite_kind : (d : ℕ) → is_tail (opposite d) ≡ not (is_tail d)
opposite_kind = each_dart (λ d. is_tail (opposite d) ≡ not (is_tail d))
    (λ b k. ap is_tail (dart_opposite b k) ∙ dart_kind (not b) k ∙ ap not (sym (dart_kind b k)))

-- sheets are equal part by part
pub same_parts : {n n' m m' : ℕ} {t t' h h' x x' : List ℕ} → n ≡ n' → m ≡ m' → t ≡ t' → h ≡ h' → x ≡ x' → sheet_of n m t h x ≡ sheet_of n' m' t' h' x'
same_parts a b c d e = rw (a, b, c, d, e) refl
