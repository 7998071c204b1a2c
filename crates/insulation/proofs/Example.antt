-- The hypotheses can be met: the example of vertices 0, 2, 1 one above the other has a mask. Assumes nothing.
use Rattle.std.proofs.Common.{◌≡◌, refl, sym, ◌⊎◌, inl, inr, ℕ, ◌<◌, arith}
use Rattle.std.proofs.Math.Decide.{ℕ_discrete}
use Rattle.counting.proofs.Iterate.{clash}
use Rattle.planarmap.proofs.Chain.{row_ends}
use Rattle.planarmap.proofs.Example.{stack, stack_plane, stack_columns, first_column, last_column, stack_long}
use Rattle.insulation.specs.Mask.{Beside, Uprights, NoMaskContact}
use Rattle.insulation.proofs.Points.{long_no_mask_contact}

-- both faces are beside its edges 0 to 2 and 2 to 1, of the tails 2 and 4
either_side : {f : ℕ} → f < 2 → (0 ≡ f) ⊎ (1 ≡ f)
either_side {f} h = elim (ℕ_discrete f 0) [ yes z ↦ inl (sym z) | no n ↦ inr (omega arith) ]

lower : {f : ℕ} → f < 2 → Beside stack f 2
lower {f} h = record { edge = record { below = omega arith; is_out = refl }; not_root = omega arith; side = either_side h }

upper : {f : ℕ} → f < 2 → Beside stack f 4
upper {f} h = record { edge = record { below = omega arith; is_out = refl }; not_root = omega arith; side = either_side h }

stack_uprights : Uprights stack (λ f. 0) (λ f. 1)
stack_uprights = record {
  begins = λ h. record { found = (2, lower h, refl); lowest = λ e S. omega arith };
  ends = λ h. record {
    found = (4, upper h, refl);
    highest = λ e S.
        let B = stack_plane.bipolar in
        let k = (row_ends B).highest (B.vertex_below S.edge.below) (λ z. clash S.edge.is_out (B.sink S.edge.below z)) in
        omega arith;
  };
}

pub stack_no_mask_contact : NoMaskContact stack (λ c. c) first_column last_column (λ f. 0) (λ f. 1)
stack_no_mask_contact = long_no_mask_contact stack_plane stack_columns stack_long stack_uprights
