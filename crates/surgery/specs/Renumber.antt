-- A map with its darts and vertices renumbered.
use Rattle.std.specs.Prelude.{◌≡◌, cond, ℕ, ◌<◌, eqb}
use Rattle.counting.specs.Orbits.{Bijection}
use Rattle.planarmap.specs.Map.{Map}

-- M' is M with its darts renumbered by σ and its vertices by ρ, which keeps 0 and 1; τ and π go back
pub record Renumbered (M M' : Map) (σ τ ρ π : ℕ → ℕ) : Type 0 where
  pub darts : M'.darts ≡ M.darts
  pub edges : M'.edges ≡ M.edges
  pub vertices : M'.vertices ≡ M.vertices
  pub dart_names : Bijection M.darts σ τ
  pub vertex_names : Bijection M.vertices ρ π
  pub source : ρ 0 ≡ 0
  pub sink : ρ 1 ≡ 1
  pub root : M'.root ≡ σ M.root
  pub opposite : {d : ℕ} → d < M.darts → M'.opposite (σ d) ≡ σ (M.opposite d)
  pub next : {d : ℕ} → d < M.darts → M'.next (σ d) ≡ σ (M.next d)
  pub out : {d : ℕ} → d < M.darts → M'.out (σ d) ≡ M.out d
  pub vertex : {d : ℕ} → d < M.darts → M'.vertex (σ d) ≡ ρ (M.vertex d)

-- M so renumbered, each face and each row with it
abbrev pub renumber : Map → (σ τ ρ π : ℕ → ℕ) → Map
renumber M σ τ ρ π = record {
  darts = M.darts;
  vertices = M.vertices;
  edges = M.edges;
  faces = M.faces;
  root = σ M.root;
  opposite = λ d. σ (M.opposite (τ d));
  next = λ d. σ (M.next (τ d));
  out = λ d. M.out (τ d);
  vertex = λ d. ρ (M.vertex (τ d));
  face = λ d. M.face (τ d);
  row = λ v. M.row (π v);
}

-- the numbers i and j change places
unfoldable pub exchange : ℕ → ℕ → ℕ → ℕ
exchange i j d = cond (eqb d i) j (cond (eqb d j) i d)
