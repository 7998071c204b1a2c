use Rattle.std.proofs.Common.{◌≡◌, ℕ, ◌<◌, ◌≤◌, true, ◌≢◌, Some, sym, ◌∙◌, arith, get_or-set_other}
use Rattle.text.specs.Reading.{line_at}
use Rattle.text.specs.Shapes.{pair_of}
use Rattle.clauses.proofs.Touching.{joins_means}
use Rattle.load.specs.Load.{edge_key, with_edge}
use Rattle.load.proofs.Turns.{Joins, edges_more, joining_more}
use Rattle.load.proofs.Ends.{counted_most, counted_more, more_other}
use Rattle.load.proofs.lines.edge_lines.Goals as goal

-- the two ends of an edge, which joins two of at most 128 vertices
ends : (n a b : ℕ) → n ≤ 128 → Joins n a b ≡ true → (a < 128) × (b < 128) × (a ≢ b)
ends n a b few j = let (tail, head, apart) = joins_means n a b j in (omega arith, omega arith, apart)

pub count_end-requires : goal.count_end-requires
count_end-requires c =
    let loop = c.loop-k in
    let (tail, head, apart) = ends loop.sheet.vertices _ _ (omega arith) (sym c.joins.ensures ∙ c.if-not-joins.false) in
    (tail, omega (arith, counted_most loop.k loop.sheet.tails loop.sheet.heads loop.degrees loop.invariant.counted _ tail))

pub count_end-requires-in-loop-k : goal.count_end-requires-in-loop-k
count_end-requires-in-loop-k c =
    let loop = c.loop-k in
    let (tail, head, apart) = ends loop.sheet.vertices _ _ (omega arith) (sym c.joins.ensures ∙ c.if-not-joins.false) in
    (head, rw c.count_end.ensures (omega (arith, more_other _ _ loop.degrees (λ e. apart (sym e)), counted_most loop.k loop.sheet.tails loop.sheet.heads loop.degrees loop.invariant.counted _ head)))

pub loop-k-preserved : goal.loop-k-preserved
unfolding with_edge
loop-k-preserved c =
    let loop = c.loop-k in
    let inv = loop.invariant in
    let sheet = loop.sheet in
    let line : Some (c.in_ok-a.a, c.in_ok-a.b, c.edge_line.new.reader.at) ≡ pair_of (line_at (edge_key c.args.form) c.args.reader.now.text.now loop.reader.at) = grind arith in
    let joined = sym c.joins.ensures ∙ c.if-not-joins.false in
    let (tail, head, apart) = ends sheet.vertices _ _ (omega arith) joined in
    record {
      same = c.edge_line.ensures.text ∙ inv.same;
      rest = edges_more c.args.form c.args.reader.now.text.now sheet c.args.sheet.now.edges loop.k loop.reader.at c.loop-k-test.true _ _ _ line joined ∙ inv.rest;
      vertices = inv.vertices;
      edges = inv.edges;
      nexts = inv.nexts;
      kept = λ i h. let (t, d) = inv.kept i h in (get_or-set_other sheet.tails loop.k i _ 0 (λ e. omega arith) ∙ t, get_or-set_other sheet.heads loop.k i _ 0 (λ e. omega arith) ∙ d);
      degrees = omega arith;
      joins = joining_more loop.k _ _ sheet.tails sheet.heads (omega arith) (omega arith) (tail, head, apart) inv.joins;
      counted = rw (c.count_end-in-loop-k.ensures, c.count_end.ensures) (counted_more loop.k _ _ sheet.tails sheet.heads loop.degrees (omega arith) (omega arith) tail head apart inv.degrees inv.counted);
    }
