use Rattle.jh_semantics.proofs.Bounds.{calls-unfold}
use Rattle.jh_semantics.proofs.laws.calls_are_bodies.Goals as goal

pub returns : goal.returns
returns c p = calls-unfold p
