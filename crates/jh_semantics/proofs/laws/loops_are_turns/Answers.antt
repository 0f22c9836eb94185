use Rattle.jh_semantics.proofs.Bounds.{loops-unfold}
use Rattle.jh_semantics.proofs.laws.loops_are_turns.Goals as goal

pub returns : goal.returns
returns c p = loops-unfold p
