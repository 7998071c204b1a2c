-- `takeoutvertex::without_vertex` meets its contract. Assumes nothing.
use Rattle.std.proofs.Common.{◌≡◌, refl, ◌∙◌, ap, arith}
use Rattle.clauses.specs.declared.Sheet.{Sheet}
use Rattle.edit.specs.Changes.{incoming_edge, outgoing_edge, last_edge_to, take_out_vertex}
use Rattle.takeoutvertex.proofs.Answers.{found_in, found_out}
use Rattle.takeoutvertex.proofs.Ends.{is_found, found_at}
use Rattle.takeoutvertex.proofs.without_vertex.Goals as goal

pub unwrap-i-requires : goal.unwrap-i-requires
unfolding incoming_edge
unwrap-i-requires c = let (in_sheet, few, few_edges, ins, out) = c.requires in
    is_found c.args.v c.args.s.edges c.args.s.heads (omega arith) _ c.lowest.ensures (found_in c.args.s c.args.v ins)

pub unwrap-o-requires : goal.unwrap-o-requires
unfolding outgoing_edge
unwrap-o-requires c = let (in_sheet, few, few_edges, ins, out) = c.requires in
    is_found c.args.v c.args.s.edges c.args.s.tails (omega arith) _ c.lowest-2.ensures (found_out c.args.s c.args.v out)

pub last_vertex_to-requires : goal.last_vertex_to-requires
unfolding last_edge_to
last_vertex_to-requires c = let z : c.last_edge_to-made.result.vertices ≡ c.args.s.vertices = ap (λ (t : Sheet). t.vertices) c.last_edge_to-made.ensures in
    (omega arith, omega arith)

pub returns : goal.returns
unfolding take_out_vertex incoming_edge outgoing_edge
returns c =
    let i = found_at c.args.v c.args.s.edges c.args.s.heads (omega arith) _ c.lowest.ensures _ c.unwrap-i.ensures in
    let o = found_at c.args.v c.args.s.edges c.args.s.tails (omega arith) _ c.lowest-2.ensures _ c.unwrap-o.ensures in
    c.last_vertex_to.ensures ∙ rw (c.last_edge_to-made.ensures, c.replace_dart.ensures, c.head_dart.ensures.0, c.head_dart-2.ensures.0, i, o) refl
