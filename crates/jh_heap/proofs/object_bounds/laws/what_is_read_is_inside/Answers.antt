use Rattle.jh_heap.proofs.object_bounds.Lines.{read_inside}
use Rattle.jh_heap.proofs.object_bounds.laws.what_is_read_is_inside.Goals as goal

pub returns : goal.returns
returns c = read_inside
