use Rattle.std.proofs.Common.{arith, ◌≡◌, take, IfSome}
use Rattle.std.specs.Io.KnownBytes.{Appends}
use Rattle.streams.specs.Streams.{AppendsFront}
use Rattle.streams.proofs.Output.{same_output, of_whole}
use Rattle.streams.proofs.run.Given.{Over}
use Rattle.streams.proofs.run.Goals as goal

-- what was read has the output of the whole input
same : (g : Over) (c : goal.After-slice_known-in-Ok-1 g)
    → IfSome (g.R.Read.remaining c.args.reader.now) (λ whole. g.P.Program.output (take c.in-Ok.count c.read_input.new.input) ≡ g.P.Program.output whole)
same g c = same_output _ g.met.P.Program.too_long _ _ _ c.in-Ok.ensures.bytes
    (λ short. c.in-Ok.ensures.all (omega (arith, c.in-Ok.ensures.in_bounds.1, c.read_input.auto.input, c.buffer-input.ensures)))

pub returns-in-Ok-clause-front : goal.returns-in-Ok-clause-front
returns-in-Ok-clause-front g c = of_whole _ _ _ (same g c) (AppendsFront _ _) c.answer.ensures.front

pub returns-in-Ok-clause-whole : goal.returns-in-Ok-clause-whole
returns-in-Ok-clause-whole g c h = of_whole _ _ _ (same g c) (Appends _ _) (c.answer.ensures.whole h)
