use Rattle.jh_heap_theorems.proofs.program_fits.Texts.{spelled-fits}
use Rattle.jh_heap_theorems.proofs.program_fits.laws.what_is_spelled_fits.Goals as goal

pub returns : goal.returns
returns c = spelled-fits c.spelled_has_shape.ensures c.spelled_is_placed.ensures c.spelled_is_written.ensures
