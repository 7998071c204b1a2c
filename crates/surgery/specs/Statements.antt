-- What the edits and a renumbering do to a map: the statements that are proved.
use Rattle.std.specs.Prelude.{◌≡◌, ◌≢◌, Bool, true, false, ℕ, suc, ◌<◌}
use Rattle.counting.specs.Orbits.{Perm, Bijection, Orbits}
use Rattle.planarmap.specs.Map.{Map, walk, Bipolar, Plane}
use Rattle.surgery.specs.Edits.{Added, Subdivided, Deleted, Smoothed}
use Rattle.surgery.specs.Renumber.{Renumbered, renumber}

-- the faces of M are the orbits of its walk, if that permutes the darts
abbrev pub Walks : Map → Type 0
Walks M = Perm M.darts (walk M) → Orbits M.darts (walk M) M.face M.faces

-- every edge of M rises
abbrev pub Rises : Map → (ℕ → ℕ) → Type 0
Rises M row = (d : ℕ) → d < M.darts → M.out d ≡ true → row (M.vertex d) < row (M.vertex (M.opposite d))

-- ---- run: inside a face, one face more, and the new edge has different faces at its sides

abbrev pub AddedBipolar : Map → Map → ℕ → ℕ → Type 0
AddedBipolar M M' p q = Bipolar M → Added M M' p q → Walks M' → Rises M' M'.row → Bipolar M'

abbrev pub AddedFaces : Map → Map → ℕ → ℕ → Type 0
AddedFaces M M' p q = Bipolar M → Added M M' p q → Walks M' → M.face (M.opposite p) ≡ M.face (M.opposite q) → M'.faces ≡ suc M.faces

abbrev pub AddedSides : Map → Map → ℕ → ℕ → Type 0
AddedSides M M' p q = Bipolar M → Added M M' p q → Walks M' → M.face (M.opposite p) ≡ M.face (M.opposite q)
    → M'.face M.darts ≢ M'.face (suc M.darts)

abbrev pub AddedPlane : Map → Map → ℕ → ℕ → Type 0
AddedPlane M M' p q = Plane M → Added M M' p q → Walks M' → Rises M' M'.row → M.face (M.opposite p) ≡ M.face (M.opposite q) → Plane M'

-- if M has rows in which every edge rises, and no path leads from the new edge's head to its tail, M' has such rows
-- (`above`: the vertices that a path leads to from the head, or more of them)
abbrev pub AddedRises : Map → Map → ℕ → ℕ → Type 0
AddedRises M M' p q = Bipolar M → Added M M' p q → (above : ℕ → Bool)
    → ((d : ℕ) → d < M.darts → M.out d ≡ true → above (M.vertex d) ≡ true → above (M.vertex (M.opposite d)) ≡ true)
    → above (M.vertex q) ≡ true → above (M.vertex p) ≡ false → (row : ℕ → ℕ) → Rises M row → (row' : ℕ → ℕ) × Rises M' row'

-- ---- put in: as many faces

abbrev pub SubdividedBipolar : Map → Map → ℕ → Type 0
SubdividedBipolar M M' b = Bipolar M → Subdivided M M' b → Walks M' → Rises M' M'.row → Bipolar M'

abbrev pub SubdividedFaces : Map → Map → ℕ → Type 0
SubdividedFaces M M' b = Bipolar M → Subdivided M M' b → Walks M' → M'.faces ≡ M.faces

abbrev pub SubdividedPlane : Map → Map → ℕ → Type 0
SubdividedPlane M M' b = Plane M → Subdivided M M' b → Walks M' → Rises M' M'.row → Plane M'

-- if M has rows in which every edge rises, M' has
abbrev pub SubdividedRises : Map → Map → ℕ → Type 0
SubdividedRises M M' b = Bipolar M → Subdivided M M' b → (row : ℕ → ℕ) → Rises M row → (row' : ℕ → ℕ) × Rises M' row'

-- ---- take out a wire: with different faces at its sides, one face fewer; with one face at both, one more

abbrev pub DeletedBipolar : Map → Map → Type 0
DeletedBipolar M M' = Bipolar M' → Deleted M M' → Walks M → Rises M M.row → Bipolar M

abbrev pub DeletedFaces : Map → Map → Type 0
DeletedFaces M M' = Bipolar M' → Deleted M M' → Walks M → M'.face M.darts ≢ M'.face (suc M.darts) → M'.faces ≡ suc M.faces

abbrev pub DeletedSame : Map → Map → Type 0
DeletedSame M M' = Bipolar M' → Deleted M M' → Walks M → M'.face M.darts ≡ M'.face (suc M.darts) → M.faces ≡ suc M'.faces

-- so in a plane map an edge that can be taken out has different faces at its sides
abbrev pub DeletedSides : Map → Map → Type 0
DeletedSides M M' = Plane M' → Deleted M M' → Walks M → Rises M M.row → M'.face M.darts ≢ M'.face (suc M.darts)

abbrev pub DeletedPlane : Map → Map → Type 0
DeletedPlane M M' = Plane M' → Deleted M M' → Walks M → Rises M M.row → Plane M

abbrev pub DeletedRises : Map → Map → Type 0
DeletedRises M M' = Bipolar M' → Deleted M M' → (row : ℕ → ℕ) → Rises M' row → Rises M row

-- ---- take out a bar: as many faces

abbrev pub SmoothedBipolar : Map → Map → ℕ → Type 0
SmoothedBipolar M M' b = Bipolar M' → Smoothed M M' b → Walks M → Rises M M.row → Bipolar M

abbrev pub SmoothedFaces : Map → Map → ℕ → Type 0
SmoothedFaces M M' b = Bipolar M' → Smoothed M M' b → Walks M → M.faces ≡ M'.faces

abbrev pub SmoothedPlane : Map → Map → ℕ → Type 0
SmoothedPlane M M' b = Plane M' → Smoothed M M' b → Walks M → Rises M M.row → Plane M

abbrev pub SmoothedRises : Map → Map → ℕ → Type 0
SmoothedRises M M' b = Bipolar M' → Smoothed M M' b → (row : ℕ → ℕ) → Rises M' row → Rises M row

-- ---- renumbering keeps all

abbrev pub RenumberedBipolar : Map → Map → (σ τ ρ π : ℕ → ℕ) → Type 0
RenumberedBipolar M M' σ τ ρ π = Bipolar M → Renumbered M M' σ τ ρ π → Walks M' → Rises M' M'.row → Bipolar M'

abbrev pub RenumberedFaces : Map → Map → (σ τ ρ π : ℕ → ℕ) → Type 0
RenumberedFaces M M' σ τ ρ π = Bipolar M → Renumbered M M' σ τ ρ π → Walks M' → M'.faces ≡ M.faces

abbrev pub RenumberedPlane : Map → Map → (σ τ ρ π : ℕ → ℕ) → Type 0
RenumberedPlane M M' σ τ ρ π = Plane M → Renumbered M M' σ τ ρ π → Walks M' → Rises M' M'.row → Plane M'

abbrev pub RenumberedRises : Map → Map → (σ τ ρ π : ℕ → ℕ) → Type 0
RenumberedRises M M' σ τ ρ π = Bipolar M → Renumbered M M' σ τ ρ π → (row : ℕ → ℕ) → Rises M row → Rises M' (λ v. row (π v))

abbrev pub RenumberPlane : Map → (σ τ ρ π : ℕ → ℕ) → Type 0
RenumberPlane M σ τ ρ π = Plane M → Bijection M.darts σ τ → Bijection M.vertices ρ π → ρ 0 ≡ 0 → ρ 1 ≡ 1 → Plane (renumber M σ τ ρ π)
