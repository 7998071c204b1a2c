use Rattle.std.proofs.Common.{arith, ◌≡◌, length, take, sym, ◌∙◌, subst, take_all}
use Rattle.std.proofs.lemmas.Bool.{eqb-true}
use Rattle.std.specs.Io.KnownBytes.{Appends}
use Rattle.streams.proofs.answer.Goals as goal

pub returns-clause-front : goal.returns-clause-front
returns-clause-front g c = (c.write_bytes.result, subst (λ l. Appends (g.W.Write.contents c.args.writer.now) (g.W.Write.contents c.write_bytes.new.writer) (take c.write_bytes.result l)) c.print-count.ensures.output c.write_bytes.ensures.written)

pub returns-clause-whole : goal.returns-clause-whole
returns-clause-whole g c h =
    let all = take c.print-count.result c.print-count.new.buffer in
    let same : c.write_bytes.result ≡ c.print-count.result = eqb-true _ _ h in
    let fits : length all ≡ c.print-count.result = sym c.print-count.ensures.in_bounds.1 in
    subst (Appends _ _) (take_all c.write_bytes.result all (omega arith) ∙ c.print-count.ensures.output) c.write_bytes.ensures.written
