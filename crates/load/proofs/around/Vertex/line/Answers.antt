use Rattle.std.proofs.Common.{◌≡◌, ◌+◌, get_or, sym, ◌∙◌, arith, eqb-true}
use Rattle.std.proofs.lemmas.Grind.{common_steps}
use Rattle.load.proofs.Walking.{next_line, next_refused, marks_kept, marks_length}
use Rattle.load.proofs.around.Vertex.line.Goals as goal

pub returns-in_err-dart-clause-rest : goal.returns-in_err-dart-clause-rest
returns-in_err-dart-clause-rest c =
    let loop = c.loop-reader in
    let inv = loop.invariant in
    let text = c.args.reader.now.text.now in
    let same : c.comma.new.self.text.now ≡ text = c.comma.ensures.text ∙ inv.same in
    let comma = eqb-true (get_or text loop.reader.at 0) 44 (rw inv.same at (sym c.comma.ensures.comma ∙ c.loop-reader-test.true)) in
    let moved : c.comma.new.self.at ≡ loop.reader.at + 1 = grind arith in
    let edge = rw (same, moved) at c.in_err-dart.ensures.edge in
    let whole = next_refused c.args.self.now.sheet.now c.args.self.now.v text c.args.self.now.degree loop.seen loop.nexts loop.count c.in_ok-first.first loop.last loop.reader.at _ (λ z. omega (arith, inv.some)) comma edge ∙ inv.rest in
    grind (arith, common_steps)

pub loop-reader-preserved : goal.loop-reader-preserved
loop-reader-preserved c =
    let loop = c.loop-reader in
    let inv = loop.invariant in
    let vertex = c.args.self.now in
    let sheet = vertex.sheet.now in
    let text = c.args.reader.now.text.now in
    let same : c.comma.new.self.text.now ≡ text = c.comma.ensures.text ∙ inv.same in
    let comma = eqb-true (get_or text loop.reader.at 0) 44 (rw inv.same at (sym c.comma.ensures.comma ∙ c.loop-reader-test.true)) in
    let moved : c.comma.new.self.at ≡ loop.reader.at + 1 = grind arith in
    let read = c.in_ok-dart.ensures in
    let edge = rw (same, moved) at read.edge in
    let marks = rw (same, moved) at read.marks in
    let (dart_in, on, inside) = rw (same, moved) at read.within in
    record {
      same = read.text ∙ same;
      some = omega arith;
      passed = omega (arith, inv.passed);
      inside = inside;
      last_in = dart_in;
      rest = rw (c.from.ensures, marks) (next_line sheet vertex.v text vertex.degree loop.seen loop.nexts loop.count c.in_ok-first.first loop.last loop.reader.at _ _ (λ z. omega (arith, inv.some)) comma edge) ∙ inv.rest;
      marks = λ k h. rw marks (marks_kept sheet vertex.v loop.seen _ k (inv.marks k h));
      size = rw marks (marks_length sheet vertex.v loop.seen _) ∙ inv.size;
    }
