use Rattle.jh_semantics.proofs.Bounds.{bounds-end-no-run}
use Rattle.jh_semantics.proofs.laws.bounds_end_no_run.Goals as goal

pub returns : goal.returns
returns c p = bounds-end-no-run p
