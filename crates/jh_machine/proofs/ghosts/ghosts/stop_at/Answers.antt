use Rattle.std.proofs.Common.{sym, ap}
use Rattle.jh_machine.specs.continuation.Formulas.{stop_for}
use Rattle.jh_machine.proofs.ghosts.ghosts.stop_at.Goals as goal

pub returns-in-Wide : goal.returns-in-Wide
unfolding stop_for
returns-in-Wide c = sym (ap (stop_for c.args.place) c.in-Wide.is)

pub returns-in-Memory : goal.returns-in-Memory
unfolding stop_for
returns-in-Memory c = sym (ap (stop_for c.args.place) c.in-Memory.is)
