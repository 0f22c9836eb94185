use Rattle.std.proofs.iter.Serving.{serving}
use Rattle.jh_reply.proofs.tallying.count_trivial.Goals as goal

pub returns : goal.returns
returns c = grind serving
