use Rattle.std.proofs.Common.{rules, ◌≡◌, ◌∙◌, arith}
use Rattle.drawing.specs.Draw.{no_vertex_segment, no_edge_segment}
use Rattle.readdrawing.specs.Reading.{vertex_entry, edge_entry}
use Rattle.readdrawing.proofs.Turns.{no_rows, no_columns, no_bars, no_wires, more_after, all_read}
use Rattle.readdrawing.proofs.read_drawing.Goals as goal

pub returns-in_err-rows : goal.returns-in_err-rows
returns-in_err-rows c = rw c.from_residual.ensures (no_rows _ _ _ c.in_err-rows.ensures.line)

pub returns-in_err-columns : goal.returns-in_err-columns
returns-in_err-columns c = rw c.from_residual-in_err-columns.ensures (no_columns _ _ _ c.in_ok-rows.ensures.line (rw c.in_ok-rows.ensures.text at c.in_err-columns.ensures.line))

pub returns-in_err-entry_lines : goal.returns-in_err-entry_lines
returns-in_err-entry_lines c =
    let text = c.in_ok-rows.ensures.text in
    let no_bar : c.default-vertices.result ≡ no_vertex_segment = search rules in
    let bars = c.in_err-entry_lines.ensures.entries vertex_entry (λ a b d x e. search rules) in
    rw c.from_residual-in_err-entry_lines.ensures
    (no_bars _ _ _ c.in_ok-rows.ensures.line (rw text at c.in_ok-columns.ensures.line) (rw (c.in_ok-columns.ensures.text ∙ text, no_bar) at bars))

pub returns-in_err-entry_lines-2 : goal.returns-in_err-entry_lines-2
returns-in_err-entry_lines-2 c =
    let text = c.in_ok-rows.ensures.text in
    let text' = c.in_ok-columns.ensures.text ∙ text in
    let no_bar : c.default-vertices.result ≡ no_vertex_segment = search rules in
    let no_wire : c.default-edges.result ≡ no_edge_segment = search rules in
    let bars = c.in_ok-entry_lines.ensures.entries vertex_entry (λ a b d x e. search rules) in
    let wires = c.in_err-entry_lines-2.ensures.entries edge_entry (λ a b d x e. search rules) in
    rw c.from_residual-in_err-entry_lines-2.ensures
    (no_wires _ _ _ c.in_ok-rows.ensures.line (rw text at c.in_ok-columns.ensures.line) (rw (text', no_bar) at bars) (rw (c.in_ok-entry_lines.ensures.text ∙ text', no_wire) at wires))

pub returns-then-reader-end : goal.returns-then-reader-end
returns-then-reader-end c =
    let text = c.in_ok-rows.ensures.text in
    let text' = c.in_ok-columns.ensures.text ∙ text in
    let no_bar : c.default-vertices.result ≡ no_vertex_segment = search rules in
    let no_wire : c.default-edges.result ≡ no_edge_segment = search rules in
    let bars = c.in_ok-entry_lines.ensures.entries vertex_entry (λ a b d x e. search rules) in
    let wires = c.in_ok-entry_lines-2.ensures.entries edge_entry (λ a b d x e. search rules) in
    more_after _ _ _ c.in_ok-rows.ensures.line (rw text at c.in_ok-columns.ensures.line) (rw (text', no_bar) at bars) (rw (c.in_ok-entry_lines.ensures.text ∙ text', no_wire) at wires) (omega arith)

pub returns : goal.returns
returns c =
    let text = c.in_ok-rows.ensures.text in
    let text' = c.in_ok-columns.ensures.text ∙ text in
    let no_bar : c.default-vertices.result ≡ no_vertex_segment = search rules in
    let no_wire : c.default-edges.result ≡ no_edge_segment = search rules in
    let bars = c.in_ok-entry_lines.ensures.entries vertex_entry (λ a b d x e. search rules) in
    let wires = c.in_ok-entry_lines-2.ensures.entries edge_entry (λ a b d x e. search rules) in
    all_read _ _ _ c.in_ok-rows.ensures.line (rw text at c.in_ok-columns.ensures.line) (rw (text', no_bar) at bars) (rw (c.in_ok-entry_lines.ensures.text ∙ text', no_wire) at wires) (omega arith)
