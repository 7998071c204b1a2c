-- The reading functions step by step: what is left to read gives what the whole gives. Assumes nothing.
use Rattle.std.proofs.Common.{◌≡◌, ℕ, suc, ◌+◌, ◌-◌, ◌<◌, ◌≤◌, ◌≢◌, List, [], ◌∷◌, length, set, replicate, Some, None, Option, sym, refl, ◌∙◌, arith, eq-eqb, ne_eqb}
use Rattle.std.specs.Option.{option_and_then}
use Rattle.text.specs.Keys.{wire_key}
use Rattle.text.specs.Reading.{Listed}
use Rattle.text.specs.Reading.Listed.{listed, unlisted}
use Rattle.text.specs.Shapes.{with_one, with_three, one_of, three_of}
use Rattle.drawing.specs.declared.VertexSegment.{VertexSegment}
use Rattle.drawing.specs.declared.EdgeSegment.{EdgeSegment}
use Rattle.drawing.specs.Draw.{no_vertex_segment, no_edge_segment}
use Rattle.drawing.specs.Write.{rows_key, columns_key, bar_key}
use Rattle.readdrawing.specs.Lines.{plain_line_at}
use Rattle.readdrawing.specs.Reading.{entries_from, vertex_entry, edge_entry, whole, segments_at, drawing_of_text}

-- ---- lines by how many numbers they have

module _ {A : Type 0} where
  pub one_read : (good : ℕ → ℕ → Option A) (l : Listed) → with_one l None good ≡ option_and_then (λ r. good r.0 r.1) (one_of l)
  unfolding with_one
  one_read good unlisted = refl
  one_read good (listed [] next) = refl
  one_read good (listed (a ∷ []) next) = refl
  one_read good (listed (a ∷ b ∷ vs) next) = refl

  pub three_read : (good : ℕ → ℕ → ℕ → ℕ → Option A) (l : Listed) → with_three l None good ≡ option_and_then (λ r. good r.0 r.1 r.2 r.3) (three_of l)
  unfolding with_three
  three_read good unlisted = refl
  three_read good (listed [] next) = refl
  three_read good (listed (a ∷ []) next) = refl
  three_read good (listed (a ∷ b ∷ []) next) = refl
  three_read good (listed (a ∷ b ∷ c ∷ []) next) = refl
  three_read good (listed (a ∷ b ∷ c ∷ d ∷ vs) next) = refl

-- so the line is one of that many
pub one_is : (l : Listed) {r : ℕ × ℕ} → one_of l ≡ Some r → l ≡ listed (r.0 ∷ []) r.1
unfolding with_one
one_is unlisted e = cc
one_is (listed [] next) e = cc
one_is (listed (a ∷ []) next) e = cc
one_is (listed (a ∷ b ∷ vs) next) e = cc

pub three_is : (l : Listed) {r : ℕ × ℕ × ℕ × ℕ} → three_of l ≡ Some r → l ≡ listed (r.0 ∷ r.1 ∷ r.2 ∷ []) r.3
unfolding with_three
three_is unlisted e = cc
three_is (listed [] next) e = cc
three_is (listed (a ∷ []) next) e = cc
three_is (listed (a ∷ b ∷ []) next) e = cc
three_is (listed (a ∷ b ∷ c ∷ []) next) e = cc
three_is (listed (a ∷ b ∷ c ∷ d ∷ vs) next) e = cc

-- ---- the loop over the lines of entries

module _ {A : Type 0} (key : List ℕ) (entry : ℕ → ℕ → ℕ → A) (text : List ℕ) (n k at : ℕ) (es : List A) {all : Option (List A × ℕ)}
    (rest : entries_from key entry (n - k) text es k at ≡ all) where
  pub entries_over : n ≤ k → Some (es, at) ≡ all
  unfolding entries_from
  entries_over h = let z : n - k ≡ 0 = omega arith in rw z at rest

  module _ (h : k < n) where
    entries_step : option_and_then (λ r. entries_from key entry (n - (k + 1)) text (set es k (entry r.0 r.1 r.2)) (k + 1) r.3) (three_of (plain_line_at key text at)) ≡ all
    unfolding entries_from
    entries_step = let z : n - k ≡ suc (n - (k + 1)) = omega arith in sym (three_read _ (plain_line_at key text at)) ∙ (rw z at rest)

    pub entries_bad : None ≡ three_of (plain_line_at key text at) → None ≡ all
    entries_bad e = rw (← e) at entries_step

    pub entries_more : {a b c next : ℕ} {x : A} → Some (a, b, c, next) ≡ three_of (plain_line_at key text at) → x ≡ entry a b c
        → entries_from key entry (n - (k + 1)) text (set es k x) (k + 1) next ≡ all
    entries_more e p = rw p (rw (← e) at entries_step)

-- ---- the whole text

module _ (text : List ℕ) (n m : ℕ) where
  pub no_rows : None ≡ one_of (plain_line_at rows_key text 0) → None ≡ drawing_of_text text n m
  unfolding drawing_of_text
  no_rows e = rw (one_read _ (plain_line_at rows_key text 0), ← e) refl

  module _ {rows next : ℕ} (r : Some (rows, next) ≡ one_of (plain_line_at rows_key text 0)) where
    pub no_columns : None ≡ one_of (plain_line_at columns_key text next) → None ≡ drawing_of_text text n m
    unfolding drawing_of_text
    no_columns e = rw (one_read _ (plain_line_at rows_key text 0), ← r, one_read _ (plain_line_at columns_key text next), ← e) refl

    module _ {columns after : ℕ} (c : Some (columns, after) ≡ one_of (plain_line_at columns_key text next)) where
      segments_left : segments_at text n m rows columns after ≡ drawing_of_text text n m
      unfolding drawing_of_text
      segments_left = rw (one_read _ (plain_line_at rows_key text 0), ← r, one_read _ (plain_line_at columns_key text next), ← c) refl

      pub no_bars : None ≡ entries_from bar_key vertex_entry n text (replicate 128 no_vertex_segment) 0 after → None ≡ drawing_of_text text n m
      unfolding segments_at
      no_bars e = (rw (← e) refl) ∙ segments_left

      module _ {vs : List VertexSegment} {wires : ℕ} (v : Some (vs, wires) ≡ entries_from bar_key vertex_entry n text (replicate 128 no_vertex_segment) 0 after) where
        pub no_wires : None ≡ entries_from wire_key edge_entry m text (replicate 256 no_edge_segment) 0 wires → None ≡ drawing_of_text text n m
        unfolding segments_at
        no_wires e = (rw (← v, ← e) refl) ∙ segments_left

        module _ {es : List EdgeSegment} {end : ℕ} (e : Some (es, end) ≡ entries_from wire_key edge_entry m text (replicate 256 no_edge_segment) 0 wires) where
          pub more_after : end ≢ length text → None ≡ drawing_of_text text n m
          unfolding segments_at whole
          more_after h = (rw (← v, ← e, ne_eqb end (length text) h) refl) ∙ segments_left

          pub all_read : end ≡ length text → Some (record { rows = rows; columns = columns; vertices = vs; edges = es }) ≡ drawing_of_text text n m
          unfolding segments_at whole
          all_read h = (rw (← v, ← e, eq-eqb end (length text) h) refl) ∙ segments_left
