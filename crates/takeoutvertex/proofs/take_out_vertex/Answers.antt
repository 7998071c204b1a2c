-- What `takeoutvertex::take_out_vertex` asks of an accepted call is given. Assumes nothing.
use Rattle.std.proofs.Common.{sym, ◌∙◌, rules}
use Rattle.takeoutvertex.proofs.Answers.{given}
use Rattle.takeoutvertex.proofs.take_out_vertex.Goals as goal

pub without_vertex-requires : goal.without_vertex-requires
without_vertex-requires c = let a = c.args in given a.s a.v (search rules) (sym c.take_out_vertex_answer.ensures ∙ c.in_ok-take_out_vertex_answer.was)
