-- A text at the front of a buffer.
use Rattle.std.specs.Prelude.{ℕ, List, ◌++◌, cond, leb, length, drop, Option, Some, None}

-- how many bytes of the buffer a text fills, if it fits
unfoldable pub front_filled : List ℕ → List ℕ → Option ℕ
front_filled text buffer = cond (leb (length text) (length buffer)) (Some (length text)) None

-- The buffer after that: the text fills its front, the rest is untouched. Where the text doesn't fit, all of it is.
unfoldable pub front_after : List ℕ → List ℕ → List ℕ
front_after text buffer = cond (leb (length text) (length buffer)) (text ++ drop (length text) buffer) buffer
