use Rattle.std.proofs.Common.{refl}
use Rattle.jh_machine.specs.continuation.Todos.{resume}
use Rattle.jh_machine.proofs.continuation.Reaching as reaching
use Rattle.jh_machine.proofs.continuation.laws.runs_are_resumed.Goals as goal

pub returns : goal.returns
unfolding resume
returns c p = record {
  whole = λ m first this args picks k. refl;
  none = reaching.none_reaches p;
  more = reaching.more_reaches p;
  pays = reaching.paid_reaches p;
  block = reaching.block_reaches p;
  first = λ q e a b u ks is. reaching.first_reaches p q e a b u ks is;
  second = λ q e a b u ks is. reaching.second_reaches p q e a b u ks is;
  loop = reaching.loop_reaches p;
  ended = λ e body r ks is. reaching.ended_reaches p (c.loops_are_turns.ensures p) e body r ks is;
  turned = λ e body r ks u is pays. reaching.turn_reaches p (c.loops_are_turns.ensures p) e body r ks u is pays;
  entered = λ m this args r u pays ks x is. reaching.entered_reaches p (c.calls_are_bodies.ensures p) m this args r u pays ks x is;
  absent = λ m this args r u pays ks is. reaching.absent_reaches p (c.calls_are_bodies.ensures p) m this args r u pays ks is;
  left = reaching.back_reaches p;
}
