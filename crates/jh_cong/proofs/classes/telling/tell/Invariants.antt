use Rattle.std.proofs.Common.{◌≡◌, ◌++◌, take}
use Rattle.jh_cong.specs.classes.States.{Continues, IsTold}
use Rattle.jh_cong.proofs.classes.telling.tell.Given as goal

abbrev pub invariant-loop-place : goal.invariant-loop-place
invariant-loop-place l = record {
  continues : Continues l.fn.state l.state;
  told : IsTold l.state;
  said : l.state.said.items ≡ l.fn.state.said.items ++ take l.place l.said;
}
