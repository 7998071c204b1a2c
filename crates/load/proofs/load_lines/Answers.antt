use Rattle.std.proofs.Common.{replicate, ◌∙◌, arith}
use Rattle.std.proofs.lemmas.Grind.{common_steps}
use Rattle.load.specs.Load.{empty_sheet, with_nexts}
use Rattle.load.proofs.Ends.{counted_none}
use Rattle.load.proofs.Directing.{read_directed, counted_directed, read_ends}
use Rattle.load.proofs.Turns.{after_counts, from_directed, judged_steps}
use Rattle.load.proofs.load_lines.Goals as goal
use Rattle.counting.proofs.Stores.{replicate_at}

pub edge_lines-requires : goal.edge_lines-requires
edge_lines-requires c = (omega (arith, c.in_ok-vertices.ensures.within), omega (arith, c.in_ok-edges.ensures.within), counted_none (replicate 256 0) (replicate 256 0) (replicate 128 0) (replicate_at 0 128))

pub direct-requires : goal.direct-requires
direct-requires c = read_ends c.edge_lines.new.sheet c.in_ok-edge_lines.ensures.read.0

pub ring_lines-requires : goal.ring_lines-requires
ring_lines-requires c =
    let (read, counted) = c.in_ok-edge_lines.ensures.read in
    rw c.direct.ensures (read_directed c.args.form c.edge_lines.new.sheet read, counted_directed c.args.form c.edge_lines.new.sheet c.edge_lines.new.degrees counted)

pub returns-in_err-edge_lines : goal.returns-in_err-edge_lines
unfolding empty_sheet
returns-in_err-edge_lines c =
    let counts = after_counts c.args.form c.args.text.now _ _ _ _ c.in_ok-vertices.ensures.count (rw c.in_ok-vertices.ensures.text at c.in_ok-edges.ensures.count) in
    let whole = rw (c.in_ok-edges.ensures.text ∙ c.in_ok-vertices.ensures.text) at c.in_err-edge_lines.ensures.rest ∙ counts in
    grind (arith, common_steps)

pub returns-in_err-ring_lines : goal.returns-in_err-ring_lines
unfolding empty_sheet with_nexts
returns-in_err-ring_lines c =
    let counts = after_counts c.args.form c.args.text.now _ _ _ _ c.in_ok-vertices.ensures.count (rw c.in_ok-vertices.ensures.text at c.in_ok-edges.ensures.count) in
    let same = c.in_ok-edges.ensures.text ∙ c.in_ok-vertices.ensures.text in
    let on = from_directed c.args.form c.args.text.now _ _ _ c.direct.ensures in
    let whole = rw (c.in_ok-edge_lines.ensures.text ∙ same) at c.in_err-ring_lines.ensures.rest c.args.form ∙ on ∙ rw same at c.in_ok-edge_lines.ensures.rest ∙ counts in
    grind (arith, common_steps)

pub returns-in_err-judge : goal.returns-in_err-judge
unfolding empty_sheet with_nexts
returns-in_err-judge c =
    let counts = after_counts c.args.form c.args.text.now _ _ _ _ c.in_ok-vertices.ensures.count (rw c.in_ok-vertices.ensures.text at c.in_ok-edges.ensures.count) in
    let same = c.in_ok-edges.ensures.text ∙ c.in_ok-vertices.ensures.text in
    let on = from_directed c.args.form c.args.text.now _ _ _ c.direct.ensures in
    let whole = rw (c.in_ok-edge_lines.ensures.text ∙ same) at c.in_ok-ring_lines.ensures.rest c.args.form ∙ on ∙ rw same at c.in_ok-edge_lines.ensures.rest ∙ counts in
    grind (arith, common_steps, judged_steps)
