use Rattle.std.proofs.Common.{ap}
use Rattle.jh_arena.specs.table.Entries.{is_truth}
use Rattle.jh_deriv.proofs.suiting.is_exchanged.Goals as goal

pub boxed_formula-requires : goal.boxed_formula-requires
unfolding is_truth
boxed_formula-requires c = ap is_truth c.requires.from

pub boxed_formula-requires-2 : goal.boxed_formula-requires-2
unfolding is_truth
boxed_formula-requires-2 c = ap is_truth c.requires.to
