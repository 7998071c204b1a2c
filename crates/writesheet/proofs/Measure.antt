-- How long the lines of a sheet are. Assumes nothing.
use Rattle.std.proofs.Common.{ℕ, ◌+◌, ◌*◌, ◌≤◌, ◌≡◌, [], ◌∷◌, length}
use Rattle.counting.specs.Below.{join_below}
use Rattle.counting.proofs.Joined.{join_short}
use Rattle.text.specs.Written.{line}
use Rattle.buffer.proofs.Writing.{line_short}
use Rattle.buffer.proofs.Parts.{four_size}
use Rattle.clauses.specs.declared.Sheet.{Sheet}
use Rattle.sheet.specs.Darts.{tail, head}
use Rattle.text.specs.Keys.{bars_key, wires_key, wire_key}
use Rattle.writesheet.specs.Inner.{edge_text, ring_text}
use Rattle.writesheet.specs.Write.{sheet_text}

module _ (s : Sheet) where
  pub edges_short : (n : ℕ) → length (join_below (edge_text s) n) ≤ n * 14
  edges_short n = join_short (edge_text s) 14 n (λ k h. line_short wire_key (tail s k ∷ head s k ∷ []))

  pub sheet_size : length (sheet_text s)
      ≡ length (line bars_key (s.vertices ∷ [])) + length (line wires_key (s.edges ∷ [])) + length (join_below (edge_text s) s.edges) + length (join_below (ring_text s) s.vertices)
  unfolding sheet_text
  sheet_size = four_size _ _ _ _
