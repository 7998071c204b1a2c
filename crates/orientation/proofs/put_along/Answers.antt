-- One vertex more is put next to u. Assumes nothing.
use Rattle.std.proofs.Common.{◌≡◌, ◌+◌, sym, ap, ◌∙◌, arith, get_or}
use Rattle.orientation.specs.Ears.{insert_at, next_place}
use Rattle.orientation.proofs.Turns.{place_is, put_more}
use Rattle.orientation.proofs.Bounds.{place_up, inserted_low}
use Rattle.orientation.proofs.put_along.Goals as goal

pub loop-vertex-preserved : goal.loop-vertex-preserved
loop-vertex-preserved c =
    let loop = c.loop-vertex in
    let up = c.args.up in
    let at_u = get_or loop.order c.args.u 0 in
    let place : get_or loop.order c.from.result 0 + c.from-in-loop-vertex.result ≡ next_place up at_u = rw (c.from.ensures, c.from-in-loop-vertex.ensures) (place_is up at_u) in
    let put : c.insert_at.new.order ≡ insert_at (next_place up at_u) loop.v loop.order = c.insert_at.ensures ∙ ap (λ p. insert_at p loop.v loop.order) place in
    record {
      inside = omega (arith, c.from-v-in-loop-vertex.ensures, c.requires.2 loop.v);
      low = λ w. rw put (omega (arith, inserted_low (next_place up at_u) loop.order (65000 + loop._vertex) loop.invariant.low loop.v (omega (arith, place_up up at_u, loop.invariant.low c.args.u)) w));
      rest = rw (put, c.from-v-in-loop-vertex.ensures) (sym (put_more c.args.parents.now c.args.u up loop.v loop.order loop._vertex c.loop-vertex-test.true c.if-order-v-ne0.false)) ∙ loop.invariant.rest;
    }
