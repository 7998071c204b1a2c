use Rattle.buffer.proofs.put_next.Goals as goal

pub returns : goal.returns
returns g c = g.met.S.Sink.joined _ _ _ _ _ c.byte.ensures c.number.ensures
