-- A choice by a test.
use Rattle.std.specs.Prelude.{Bool, true, false}

-- one of two, of which only that one is computed
abbrev pub pick {ℓ} : {A : Type ℓ} → Bool → (Unit {0} → A) → (Unit {0} → A) → A
pick true a b = a tt
pick false a b = b tt
