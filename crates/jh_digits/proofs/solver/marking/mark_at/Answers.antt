use Rattle.std.proofs.Common.{refl}
use Rattle.jh_digits.specs.solver.Table.{mark_of}
use Rattle.jh_digits.proofs.solver.marking.mark_at.Goals as goal

pub returns : goal.returns
unfolding mark_of
returns c = rw c.requires.space.cells refl
